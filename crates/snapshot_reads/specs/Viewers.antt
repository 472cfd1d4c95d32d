-- What a viewer has entered, and what a read gives.
use Rattle.std.specs.Prelude.{ℕ, ◌≡◌, ◌≤◌, ◌<◌, List, [], ◌∷◌, ◌++◌, Option, IfSome, All, Result, Ok, Err, ⊤}
use Rattle.logbook.specs.Pages.{Book}
use Rattle.left_right.specs.Sides.{view}
use Rattle.feature_values.specs.declared.schema.Schema.{Schema}
use Rattle.wfs_ends.specs.declared.fault.OutOfMemory.{OutOfMemory}
use Rattle.wfs_model.specs.declared.request.Request.{Request}
use Rattle.wfs_model.specs.Read.{read}
use Rattle.wfs_model.specs.State.{clamped}
use Rattle.snapshot_reads.specs.declared.book.Pair.{Pair}
use Rattle.snapshot_reads.specs.declared.viewer.Viewer.{Viewer}
use Rattle.snapshot_reads.specs.declared.viewer.Viewed.{Viewed}
use Rattle.snapshot_reads.specs.declared.viewer.Viewed.TheVariants.{Answer, Behind, Gone}
use Rattle.snapshot_reads.specs.Pairs.{schema_in}
use Rattle.snapshot_reads.specs.Rules.{AllUpTo}
use Rattle.snapshot_reads.specs.Whole.{of_some}

-- the pairs that the viewer found published, in the order of its reads
abbrev pub entered_of : Viewer → List Pair
entered_of v = of_some v.reader [] (λ r. (view r.place).entered)

-- the schema of all that it finds
abbrev pub schema_of : Viewer → Schema
schema_of v = schema_in v.seen.log

-- a viewer of this history and this schema that has entered nothing and was told nothing
pub record IsNew (book : Book) (schema : Schema) (v : Viewer) : Type 0 where
  pub history : v.seen.book ≡ book
  pub of : schema_of v ≡ schema
  pub entered : entered_of v ≡ []
  pub told : v.told ≡ 0

abbrev pub AreNew : Book → Schema → List (Option Viewer) → Type 0
AreNew book schema = All (λ v. IfSome v (IsNew book schema))

-- a viewer of the same publisher
pub record IsSame (old new : Viewer) : Type 0 where
  pub history : new.seen.book ≡ old.seen.book
  pub of : schema_of new ≡ schema_of old

-- ---- reads

-- the pairs grew by this one, and no earlier front is above its
pub record Enters (before after : List Pair) (p : Pair) : Type 0 where
  pub grown : after ≡ before ++ p ∷ []
  pub not_below : AllUpTo p.front before

-- What a viewer that was told this front gives for a request, where this pair was published as it entered.
abbrev pub Tells : ℕ → ℕ → Request → Pair → Result Viewed OutOfMemory → Type 0
Tells told moment request p (Ok (Answer reply front)) = (reply ≡ read p.content.schema p.content.kept (clamped moment) request) × (front ≡ p.front) × (told ≤ front)
Tells told moment request p (Ok (Behind front)) = (front ≡ p.front) × (front < told)
Tells told moment request p (Ok Gone) = ⊥
Tells told moment request p (Err e) = ⊤

-- a read, from the pairs entered before to those after
abbrev pub ReadsAs : ℕ → ℕ → Request → List Pair → Result Viewed OutOfMemory → List Pair → Type 0
ReadsAs told moment request before (Ok Gone) after = after ≡ before
ReadsAs told moment request before result after = (p : Pair) × Enters before after p × Tells told moment request p result

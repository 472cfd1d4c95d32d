-- What two files say comes to what their lists come to.
use Rattle.std.proofs.Common.{inl, inr, ℕ, List, [], ◌∷◌, ◌++◌, All, Option, Some, None}
use Rattle.std.proofs.lemmas.List.Elements.{All-nil, All-cons}
use Rattle.disk_core.specs.Sides.{EveryBoth}
use Rattle.feature_journal.specs.Whole.{Says}
use Rattle.feature_journal.specs.Held.{With, StandsFor, StandsForEither}
use Rattle.feature_journal.specs.Kept.{Rests, Began, BeganSide, seen, disks_of}
use Rattle.feature_journal.specs.declared.journal.Journal.{Journal}
use Rattle.feature_values.specs.declared.schema.Schema.{Schema}
use Rattle.journal_replay.specs.Written.{body_in}
use Rattle.wfs_model.specs.declared.change.Change.{Change}
use Rattle.wfs_model.specs.State.{Durable}
use Rattle.wfs_model.specs.Played.{played_one}
use Rattle.durable_journal.specs.Standing.{ComeTo, SaysKept, SaysWith}
use Rattle.durable_journal.specs.Kept.{Keeps}

module _ (schema : Schema) (kept : Durable) where
  one_comes : (bodies : List (List ℕ)) → ComeTo schema kept bodies → All (ComeTo schema kept) (bodies ∷ [])
  one_comes bodies come = All-cons (ComeTo schema kept) bodies [] come (All-nil (ComeTo schema kept))

  pub list_says : (bodies : List (List ℕ)) → ComeTo schema kept bodies → (x y : List ℕ) → Says (bodies ∷ []) x y → SaysKept schema kept x y
  list_says bodies come x y says = record { lists = bodies ∷ []; says = says; come = one_comes bodies come }

  pub lists_say : (bodies added : List (List ℕ)) → ComeTo schema kept bodies → ComeTo schema kept added → (x y : List ℕ) → Says (bodies ∷ added ∷ []) x y → SaysKept schema kept x y
  lists_say bodies added come added_come x y says = record { lists = bodies ∷ added ∷ []; says = says; come = All-cons (ComeTo schema kept) bodies (added ∷ []) come (one_comes added added_come) }

pub with_says : (schema : Schema) (kept : Durable) (change : Change) (bodies : List (List ℕ)) → ComeTo schema kept bodies → ComeTo schema (played_one kept change) (bodies ++ body_in schema change ∷ []) → (x y : List ℕ) → With bodies (body_in schema change) x y → SaysWith schema kept (Some change) x y
with_says schema kept change bodies come with_it x y (inl says) = inl (list_says schema kept bodies come x y says)
with_says schema kept change bodies come with_it x y (inr says) = inr (list_says schema (played_one kept change) (bodies ++ body_in schema change ∷ []) with_it x y says)

-- what a crash leaves of a journal that keeps this
pub keeps_stand : {D : Type 0} (images : D → List ℕ → Type 0) (journal : Journal D)
    → ((bodies : List (List ℕ)) → Rests images bodies (seen journal) → StandsFor images bodies (disks_of journal))
    → ((bodies : List (List ℕ)) (body : List ℕ) → Began images bodies body (seen journal) → StandsForEither images bodies body (disks_of journal))
    → ((bodies added : List (List ℕ)) → BeganSide images bodies added (seen journal) → EveryBoth images (Says (bodies ∷ added ∷ [])) (disks_of journal))
    → (schema : Schema) (kept : Durable) (begun : Option Change) → Keeps images schema kept begun journal → EveryBoth images (SaysWith schema kept begun) (disks_of journal)
keeps_stand images journal rests began side schema kept None (inl is) x y a b = list_says schema kept is.bodies is.list.come x y (rests is.bodies is.rests x y a b)
keeps_stand images journal rests began side schema kept None (inr has) x y a b = lists_say schema kept has.bodies has.added has.list.come has.added_come x y (side has.bodies has.added has.began x y a b)
keeps_stand images journal rests began side schema kept (Some change) has x y a b = with_says schema kept change has.bodies has.list.come has.with_it x y (began has.bodies (body_in schema change) has.began x y a b)

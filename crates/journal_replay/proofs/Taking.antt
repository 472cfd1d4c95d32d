-- The body of a change is taken where the change may come.
use Rattle.std.proofs.Common.{◌≡◌, ℕ, Bool, true, ◌==◌, List, [], ◌∷◌, length, map, All, Ok, refl, ap, ◌∙◌, arith}
use Rattle.std.specs.Prelude.{false}
use Rattle.std.specs.List.{fold}
use Rattle.std.specs.Str.{bytes_eq}
use Rattle.std.proofs.lemmas.Slice.Eq.{bytes_eq-Decides}
use Rattle.std.proofs.lemmas.List.Elements.{All-head, All-tail}
use Rattle.wfs_ends.specs.Read.{◌>>=◌, unless}
use Rattle.feature_values.specs.declared.schema.Schema.{Schema}
use Rattle.feature_schema.specs.Signature.{signature_text}
use Rattle.wfs_model.specs.declared.change.Change.{Change}
use Rattle.wfs_model.specs.declared.change.Change.TheVariants.{Opening, Rows, Created, Dropped, Base}
use Rattle.wfs_model.specs.State.{Durable}
use Rattle.wfs_model.specs.Playable.{is_playable}
use Rattle.wfs_model.specs.Played.{played_one}
use Rattle.journal_format.specs.RoundTrip.{recorded_of}
use Rattle.journal_replay.specs.Change.{is_signed, change_in}
use Rattle.journal_replay.specs.Replayed.{may_stand, kept_with, kept_after, kept_after_all, replayed, verdict_of}
use Rattle.journal_replay.specs.Checkpoint.{ArePlayable}
use Rattle.journal_replay.specs.Written.{body_in, IsReadIn, HasKeptTexts, MayCome, IsTaken}
use Rattle.journal_replay.proofs.Told.{told_completed}
use Rattle.journal_replay.proofs.Replaying.{one_more, verdict_is}

same_text : (text : List ℕ) → bytes_eq text text ≡ true
same_text text = grind (arith, bytes_eq-Decides)

signed : (schema : Schema) (change : Change) → is_signed schema (recorded_of change (signature_text schema)).signature ≡ true
signed schema (Opening opening) = same_text (signature_text schema)
signed schema (Rows parts) = refl
signed schema (Created stored) = refl
signed schema (Dropped id) = refl
signed schema (Base opening counters) = refl

-- the body of a change says the change
said : (schema : Schema) (change : Change) → HasKeptTexts schema change → IsReadIn schema change → change_in schema (body_in schema change) ≡ Ok change
unfolding change_in unless
said schema change told back = rw (back, signed schema change) (told_completed schema change (signature_text schema) told)

pub taken_one : (schema : Schema) (is_first : Bool) (kept : Durable) (change : Change) → may_stand is_first change ≡ true → is_playable schema kept change ≡ true → HasKeptTexts schema change → IsReadIn schema change
    → kept_after schema is_first kept (body_in schema change) ≡ Ok (played_one kept change)
unfolding kept_after kept_with
taken_one schema is_first kept change stands playable told back = rw (said schema change told back, stands, playable) refl

-- behind bodies where it may come
pub had_again : (schema : Schema) (taken : List (List ℕ)) (kept : Durable) (change : Change) → replayed schema taken ≡ Ok kept → MayCome schema taken kept change → IsTaken schema taken (body_in schema change) (played_one kept change)
had_again schema taken kept change is may =
    let one = taken_one schema (length taken == 0) kept change may.stands may.playable may.texts may.read_back in
    record {
      verdict = verdict_is schema taken kept (body_in schema change) is ∙ ap verdict_of one;
      come = one_more schema taken kept (body_in schema change) is ∙ one;
    }

-- changes one after the other, behind another
pub taken_all : (schema : Schema) (kept : Durable) (changes : List Change) → All (λ change. may_stand false change ≡ true) changes → ArePlayable schema kept changes → All (HasKeptTexts schema) changes → All (IsReadIn schema) changes
    → kept_after_all schema false kept (map (body_in schema) changes) ≡ Ok (fold played_one kept changes)
unfolding kept_after_all
taken_all schema kept [] stand may told back = refl
taken_all schema kept (change ∷ changes) stand may told back =
    ap (λ r. r >>= λ now. kept_after_all schema false now (map (body_in schema) changes))
    (taken_one schema false kept change (All-head (λ (c : Change). may_stand false c ≡ true) change changes stand) may.0 (All-head (HasKeptTexts schema) change changes told) (All-head (IsReadIn schema) change changes back))
    ∙ taken_all schema (played_one kept change) changes (All-tail (λ (c : Change). may_stand false c ≡ true) change changes stand) may.1 (All-tail (HasKeptTexts schema) change changes told) (All-tail (IsReadIn schema) change changes back)

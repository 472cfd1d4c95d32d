-- What stored queries ask is read from their texts: it is such as the schema allows, and just what the texts tell.
use Rattle.std.proofs.Common.{◌≡◌, ℕ, List, [], ◌∷◌, ◌++◌, map, All, Result, Ok, Err, refl, sym, ap, ◌∙◌, subst, append_assoc}
use Rattle.std.proofs.lemmas.List.{append-nil}
use Rattle.std.proofs.lemmas.List.Elements.{All-nil, All-head, All-tail, All-push, All-weaker}
use Rattle.wfs_ends.specs.Read.{◌>>=◌, each}
use Rattle.wfs_ends.proofs.Turns.{bind_ok, ok_is}
use Rattle.feature_values.specs.declared.schema.Schema.{Schema}
use Rattle.wfs_model.specs.declared.stored.StoredQuery.{StoredQuery}
use Rattle.wfs_model.specs.declared.change.Change.{Change}
use Rattle.wfs_model.specs.declared.change.Change.TheVariants.{Opening, Rows, Created, Dropped, Base}
use Rattle.wfs_model.specs.Playable.{IsAskedOf, AreQueriesOf}
use Rattle.query_docs.specs.Reading.{text_queries, IsKeptText}
use Rattle.query_docs.proofs.Sound.{text_is}
use Rattle.journal_format.specs.RoundTrip.{bare, recorded_of}
use Rattle.recovery.specs.declared.replay.ReplayFault.{ReplayFault}
use Rattle.journal_replay.specs.Change.{or_unfit, asked_by, filled, next_filled, completed}
use Rattle.journal_replay.specs.Written.{HasKeptTexts}

unfit_ok : {A E : Type 0} (r : Result A E) (x : A) → or_unfit r ≡ Ok x → r ≡ Ok x
unfit_ok (Ok y) x is = ap Ok (ok_is ReplayFault y x is)
unfit_ok (Err fault) x is = absurd cc

-- ---- what texts tell is of the schema

told_asked : (schema : Schema) (stored : StoredQuery) → IsKeptText schema stored → IsAskedOf schema stored
told_asked schema stored kept = text_is schema stored.parameters stored.text (Ok stored.queries) kept

pub all_asked : (schema : Schema) (change : Change) → HasKeptTexts schema change → AreQueriesOf schema change
all_asked schema (Opening opening) texts = tt
all_asked schema (Rows parts) texts = tt
all_asked schema (Created stored) texts = All-weaker (IsKeptText schema) (IsAskedOf schema) (λ one kept. told_asked schema one kept) stored texts
all_asked schema (Dropped id) texts = tt
all_asked schema (Base opening counters) texts = tt

-- ---- what is read is told by texts

filled_told : (schema : Schema) (stored now : StoredQuery) → filled schema stored ≡ Ok now → IsKeptText schema now
unfolding filled asked_by
filled_told schema stored now is =
    let queries = bind_ok (asked_by schema stored) (λ queries. Ok (record stored { queries = queries })) now is in
    let kept : IsKeptText schema (record stored { queries = queries.0 }) = unfit_ok (text_queries schema stored.parameters stored.text) queries.0 queries.1 in
    subst (IsKeptText schema) (ok_is ReplayFault (record stored { queries = queries.0 }) now queries.2) kept

all_filled : (schema : Schema) (stored found all : List StoredQuery) → All (IsKeptText schema) found → each (next_filled schema) found stored ≡ Ok all → All (IsKeptText schema) all
unfolding each next_filled
all_filled schema [] found all so_far is = subst (All (IsKeptText schema)) (ok_is ReplayFault found all is) so_far
all_filled schema (first ∷ stored) found all so_far is =
    let one = bind_ok (next_filled schema found first) (λ more. each (next_filled schema) more stored) all is in
    let now = bind_ok (filled schema first) (λ now. Ok (found ++ now ∷ [])) one.0 one.1 in
    let more : All (IsKeptText schema) one.0 = subst (All (IsKeptText schema)) (ok_is ReplayFault (found ++ now.0 ∷ []) one.0 now.2) (All-push (IsKeptText schema) found now.0 so_far (filled_told schema first now.0 now.1)) in
    all_filled schema stored one.0 all more one.2

-- what the stored queries of a change ask is told by their texts
pub completed_told : (schema : Schema) (change now : Change) → completed schema change ≡ Ok now → HasKeptTexts schema now
unfolding completed
completed_told schema (Opening opening) now is = subst (HasKeptTexts schema) (ok_is ReplayFault (Opening opening) now is) tt
completed_told schema (Rows parts) now is = subst (HasKeptTexts schema) (ok_is ReplayFault (Rows parts) now is) tt
completed_told schema (Created stored) now is =
    let all = bind_ok (each (next_filled schema) [] stored) (λ all. Ok (Created all)) now is in
    subst (HasKeptTexts schema) (ok_is ReplayFault (Created all.0) now all.2) (all_filled schema stored [] all.0 (All-nil (IsKeptText schema)) all.1)
completed_told schema (Dropped id) now is = subst (HasKeptTexts schema) (ok_is ReplayFault (Dropped id) now is) tt
completed_told schema (Base opening counters) now is = subst (HasKeptTexts schema) (ok_is ReplayFault (Base opening counters) now is) tt

-- ---- what texts tell is read

told_filled : (schema : Schema) (stored : StoredQuery) → IsKeptText schema stored → filled schema (bare stored) ≡ Ok stored
unfolding filled asked_by
told_filled schema stored told = ap (λ r. or_unfit r >>= λ queries. Ok (record stored { queries = queries })) told

all_told : (schema : Schema) (found stored : List StoredQuery) → All (IsKeptText schema) stored → each (next_filled schema) found (map bare stored) ≡ Ok (found ++ stored)
unfolding each next_filled
all_told schema found [] told = ap Ok (sym (append-nil found))
all_told schema found (first ∷ stored) told =
    ap (λ r. (r >>= λ now. Ok (found ++ now ∷ [])) >>= λ more. each (next_filled schema) more (map bare stored)) (told_filled schema first (All-head (IsKeptText schema) first stored told))
    ∙ all_told schema (found ++ first ∷ []) stored (All-tail (IsKeptText schema) first stored told)
    ∙ ap Ok (append_assoc found (first ∷ []) stored)

-- a change is had again from what its body says
pub told_completed : (schema : Schema) (change : Change) (signature : List ℕ) → HasKeptTexts schema change → completed schema (recorded_of change signature).change ≡ Ok change
unfolding completed
told_completed schema (Opening opening) signature told = refl
told_completed schema (Rows parts) signature told = refl
told_completed schema (Created stored) signature told = ap (λ r. r >>= λ all. Ok (Created all)) (all_told schema [] stored told)
told_completed schema (Dropped id) signature told = refl
told_completed schema (Base opening counters) signature told = refl

-- Loops that look features up and put queries.
use Rattle.std.proofs.Common.{◌≡◌, ℕ, ◌+◌, ◌<◌, ◌≤◌, Bool, true, false, List, [], ◌∷◌, ◌++◌, length, get_or, take, drop, map, filter, Some, None, Result, Ok, Err, refl, sym, ap, ◌∙◌, append-nil}
use Rattle.std.specs.Prelude.{flat_map}
use Rattle.std.proofs.lemmas.List.{take_more, flat_map_more, map_push, at_drop_more, at_drop_all, map-append}
use Rattle.std.proofs.lemmas.List.Elements.{filter-append}
use Rattle.std.proofs.lemmas.List.Sums.{fold_push}
use Rattle.wfs_ends.specs.Read.{FailsBut, each}
use Rattle.feature_values.specs.declared.feature.Feature.{Feature}
use Rattle.feature_values.specs.declared.feature.Rid.{Rid}
use Rattle.fes_filter.specs.declared.query.Query.{Query}
use Rattle.fes_filter.specs.View.{feature_at}
use Rattle.query_core.specs.Selecting.{selected_ids, joined, held, to_list}
use Rattle.wfs_model.specs.declared.fault.StoredFault.{StoredFault}
use Rattle.stored_queries.specs.Meant.{with_more, selected_behind}

pub one_more_held : (features : List Feature) (ids : List Rid) (i : ℕ) (d : Rid) → i < length ids → held features (take (i + 1) ids) ≡ held features (take i ids) ++ to_list (feature_at (get_or ids i d) features)
unfolding held
one_more_held features ids i d lt = ap (flat_map (λ id. to_list (feature_at id features))) (take_more ids i d lt) ∙ sym (flat_map_more (λ id. to_list (feature_at id features)) [] (take i ids) (get_or ids i d))

-- one query more
pub one_more_selected : {X : Type 0} (view : X → Query) (features : List Feature) (before : List Rid) (xs : List X) (i : ℕ) (x : X) → i < length xs → x ≡ get_or xs i x → selected_behind features before (map view (take (i + 1) xs)) ≡ joined (selected_behind features before (map view (take i xs))) (selected_ids features (view x))
one_more_selected view features before xs i x lt is =
    ap (selected_behind features before) (ap (map view) (take_more xs i x lt) ∙ map_push view (take i xs) (get_or xs i x))
    ∙ fold_push (λ ids query. joined ids (selected_ids features query)) before (map view (take i xs)) (view (get_or xs i x))
    ∙ ap (λ y. joined (selected_behind features before (map view (take i xs))) (selected_ids features (view y))) (sym is)

-- ---- features that pass a test

value_turn : (p : Feature → Bool) (features : List Feature) (ids : List Rid) (i : ℕ) (d : Rid) → i < length ids → filter p (held features (take (i + 1) ids)) ≡ filter p (held features (take i ids)) ++ filter p (to_list (feature_at (get_or ids i d) features))
value_turn p features ids i d lt = ap (filter p) (one_more_held features ids i d lt) ∙ filter-append p (held features (take i ids)) (to_list (feature_at (get_or ids i d) features))

pub value_absent : (p : Feature → Bool) (features : List Feature) (ids : List Rid) (i : ℕ) (d : Rid) (found : List Feature) → i < length ids → None ≡ feature_at (get_or ids i d) features → found ≡ filter p (held features (take i ids)) → found ≡ filter p (held features (take (i + 1) ids))
value_absent p features ids i d found lt is so_far = rw (value_turn p features ids i d lt, ← is, append-nil) so_far

pub value_fails : (p : Feature → Bool) (features : List Feature) (ids : List Rid) (i : ℕ) (d : Rid) (found : List Feature) (f : Feature) → i < length ids → Some f ≡ feature_at (get_or ids i d) features → p f ≡ false → found ≡ filter p (held features (take i ids)) → found ≡ filter p (held features (take (i + 1) ids))
value_fails p features ids i d found f lt is fails so_far = rw (value_turn p features ids i d lt, ← is, fails, append-nil) so_far

pub value_passes : {X : Type 0} (now : X → Feature) (p : Feature → Bool) (features : List Feature) (ids : List Rid) (i : ℕ) (d : Rid) (found : List X) (f : X) → i < length ids → Some (now f) ≡ feature_at (get_or ids i d) features → p (now f) ≡ true → map now found ≡ filter p (held features (take i ids)) → map now (found ++ f ∷ []) ≡ filter p (held features (take (i + 1) ids))
value_passes now p features ids i d found f lt is passes so_far = map-append now found (f ∷ []) ∙ rw (value_turn p features ids i d lt, ← is, passes, so_far) refl

-- ---- one step after the other over a list itself

pub step_goes_on : {E A B : Type 0} (step : A → B → Result A E) (found more : A) (xs : List B) (i : ℕ) (x : B) (total : Result A E) → i < length xs → x ≡ get_or xs i x → step found x ≡ Ok more → each step found (drop i xs) ≡ total → each step more (drop (i + 1) xs) ≡ total
unfolding each
step_goes_on step found more xs i x total lt is now so_far = sym (at_drop_more (λ ys. each step found ys) xs i x lt ∙ rw (← is, now) refl) ∙ so_far

pub step_fails : {E A B : Type 0} (step : A → B → Result A E) (found : A) (xs : List B) (i : ℕ) (x : B) (total : Result A E) (memory e : E) → i < length xs → x ≡ get_or xs i x → FailsBut memory e (step found x) → each step found (drop i xs) ≡ total → FailsBut memory e total
unfolding each
step_fails step found xs i x total memory e lt is now so_far = λ other. sym so_far ∙ at_drop_more (λ ys. each step found ys) xs i x lt ∙ rw (← is, now other) refl

pub step_ends : {E A B : Type 0} (step : A → B → Result A E) (found : A) (xs : List B) (i : ℕ) → length xs ≤ i → each step found (drop i xs) ≡ Ok found
unfolding each
step_ends step found xs i le = at_drop_all (λ ys. each step found ys) xs i le

-- ---- what one stands for

pub behind_none : (read : Result (List Query) StoredFault) → with_more [] read ≡ read
behind_none (Ok more) = refl
behind_none (Err fault) = refl

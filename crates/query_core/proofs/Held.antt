-- Loops that look features up, and that keep some of them.
use Rattle.std.proofs.Common.{◌≡◌, ℕ, ◌+◌, ◌<◌, Bool, true, false, cond, List, [], ◌∷◌, ◌++◌, length, get_or, take, map, filter, Some, None, refl, ap, ◌∙◌, append-nil}
use Rattle.std.specs.List.{flat_map}
use Rattle.std.proofs.lemmas.List.{take_more, map-append}
use Rattle.std.proofs.lemmas.List.Concat.{flat_map-append}
use Rattle.std.proofs.lemmas.List.Elements.{filter-append}
use Rattle.feature_values.specs.declared.feature.Feature.{Feature}
use Rattle.feature_values.specs.declared.feature.Rid.{Rid}
use Rattle.fes_filter.specs.View.{feature_at}
use Rattle.query_core.specs.Selecting.{held, to_list}

pub held_none : (features : List Feature) → [] ≡ held features []
unfolding held
held_none features = refl

held_turn : (features : List Feature) (ids : List Rid) (i : ℕ) (d : Rid) → i < length ids → held features (take (i + 1) ids) ≡ held features (take i ids) ++ to_list (feature_at (get_or ids i d) features)
unfolding held
held_turn features ids i d lt = rw (take_more ids i d lt, flat_map-append) (ap (λ l. flat_map (λ id. to_list (feature_at id features)) (take i ids) ++ l) (append-nil _))

-- one that is there, and one that is not
pub held_more : {X : Type 0} (now : X → Feature) (features : List Feature) (ids : List Rid) (i : ℕ) (d : Rid) (found : List X) (f : X) → i < length ids → Some (now f) ≡ feature_at (get_or ids i d) features → map now found ≡ held features (take i ids) → map now (found ++ f ∷ []) ≡ held features (take (i + 1) ids)
held_more now features ids i d found f lt is so_far = map-append now found (f ∷ []) ∙ rw (held_turn features ids i d lt, ← is, so_far) refl

pub held_absent : (features : List Feature) (ids : List Rid) (i : ℕ) (d : Rid) (found : List Feature) → i < length ids → None ≡ feature_at (get_or ids i d) features → found ≡ held features (take i ids) → found ≡ held features (take (i + 1) ids)
held_absent features ids i d found lt is so_far = rw (held_turn features ids i d lt, ← is, append-nil) so_far

-- ---- those that pass a test

kept_turn : {X : Type 0} (now : X → Feature) (p : Feature → Bool) (xs : List X) (i : ℕ) (d : X) → i < length xs → filter p (map now (take (i + 1) xs)) ≡ filter p (map now (take i xs)) ++ cond (p (now (get_or xs i d))) (now (get_or xs i d) ∷ []) []
kept_turn now p xs i d lt = rw (take_more xs i d lt, map-append, filter-append) refl

pub kept_more : {X : Type 0} (now : X → Feature) (p : Feature → Bool) (xs : List X) (i : ℕ) (d : X) (found : List X) → i < length xs → p (now (get_or xs i d)) ≡ true → map now found ≡ filter p (map now (take i xs)) → map now (found ++ get_or xs i d ∷ []) ≡ filter p (map now (take (i + 1) xs))
kept_more now p xs i d found lt passes so_far = map-append now found (get_or xs i d ∷ []) ∙ rw (kept_turn now p xs i d lt, passes, so_far) refl

pub kept_fewer : {X : Type 0} (now : X → Feature) (p : Feature → Bool) (xs : List X) (i : ℕ) (d : X) (found : List X) → i < length xs → p (now (get_or xs i d)) ≡ false → map now found ≡ filter p (map now (take i xs)) → map now found ≡ filter p (map now (take (i + 1) xs))
kept_fewer now p xs i d found lt fails so_far = rw (kept_turn now p xs i d lt, fails, append-nil) so_far

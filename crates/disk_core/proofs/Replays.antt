-- A log gone through again.
use Rattle.std.proofs.Common.{◌≡◌, inl, inr, ℕ, ◌+◌, ◌-◌, ◌≤◌, ◌<◌, zero, suc, List, [], ◌∷◌, length, min, get_or, take, drop, sym, ◌∙◌, ap, subst, arith}
use Rattle.std.proofs.lemmas.List.{drop_more, take_all, take-map, length-map}
use Rattle.std.specs.List.{AllByRecursion}
use Rattle.wfs_ends.specs.Ends.{last_count}
use Rattle.disk_core.specs.Story.{read_after_all}
use Rattle.disk_core.proofs.Pushes.{le_cases}
use Rattle.disk_core.specs.Memory.{step_of, steps_of, written_size, size_of, IsWithin, unsynced_from, kept}
use Rattle.disk_core.specs.declared.call.Call.{Call}

-- the next call
pub steps_next : (text : List ℕ) (log : List Call) (i : ℕ) (none : Call) → i < length log → steps_of text (drop i log) ≡ step_of text (get_or log i none) ∷ steps_of text (drop (i + 1) log)
steps_next text log i none lt = ap (steps_of text) (drop_more log i none lt)

pub written_next : (log : List Call) (i : ℕ) (none : Call) → i < length log → written_size (drop i log) ≡ size_of (get_or log i none) + written_size (drop (i + 1) log)
unfolding written_size
written_next log i none lt = ap written_size (drop_more log i none lt)

pub within_next : (n : ℕ) (log : List Call) (i : ℕ) (none : Call) → i < length log → AllByRecursion (IsWithin n) (drop i log) → IsWithin n (get_or log i none) × AllByRecursion (IsWithin n) (drop (i + 1) log)
within_next n log i none lt all = subst (AllByRecursion (IsWithin n)) (drop_more log i none lt) all

-- the first calls
pub take_min : {A : Type 0} (k m : ℕ) (xs : List A) → length xs ≤ m → take (min k m) xs ≡ take k xs
take_min k m xs le = elim (le_cases k m) [
  | inl small ↦ ap (λ n. take n xs) (omega (arith, small))
  | inr large ↦ take_all (min k m) xs (omega (arith, le, large)) ∙ sym (take_all k xs (omega (arith, le, large)))
]

pub written_take : (n : ℕ) (log : List Call) → written_size (take n log) ≤ written_size log
unfolding written_size
written_take zero log = omega arith
written_take (suc n) [] = omega arith
written_take (suc n) (x ∷ log) = omega (arith, written_take n log)

pub within_take : (m n : ℕ) (log : List Call) → AllByRecursion (IsWithin m) log → AllByRecursion (IsWithin m) (take n log)
within_take m zero log all = tt
within_take m (suc n) [] all = tt
within_take m (suc n) (x ∷ log) all = (all.0, within_take m n log all.1)

-- the first calls of a log, gone through again, are the steps that a crash keeps
pub base_left : (keep : ℕ) (base text : List ℕ) (log : List Call) (new : List ℕ) (n count : ℕ) (text' : List ℕ) (log' : List Call)
    → new ≡ read_after_all base (steps_of text' log') → text' ≡ text → log' ≡ take n log → n ≡ min count last_count
    → count ≡ length log - unsynced_from 0 (steps_of text log) + keep → length log ≤ last_count
    → new ≡ read_after_all base (kept keep (steps_of text log))
base_left keep base text log new n count text' log' is same cut kept_is count_is le =
    let size : length (steps_of text log) ≡ length log = length-map log (step_of text) in
    let first : steps_of text (take n log) ≡ take (min count last_count) (steps_of text log) = sym (take-map (step_of text) n log) ∙ ap (λ k. take k (steps_of text log)) kept_is in
    let most : take (min count last_count) (steps_of text log) ≡ take count (steps_of text log) = take_min count last_count (steps_of text log) (omega (arith, size, le)) in
    let last : take count (steps_of text log) ≡ kept keep (steps_of text log) = ap (λ k. take k (steps_of text log)) (omega (arith, count_is, size)) in
    is ∙ (λ i. read_after_all base (steps_of (same i) (cut i))) ∙ ap (read_after_all base) (first ∙ most ∙ last)

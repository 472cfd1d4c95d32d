-- One turn of a loop that reads the elements of a list.
use Rattle.std.proofs.Common.{◌≡◌, ℕ, ◌+◌, ◌<◌, ◌≤◌, List, length, get_or, drop, map, Result, Ok, sym, ap, ◌∙◌}
use Rattle.std.proofs.lemmas.List.{map-id}
use Rattle.wfs_ends.specs.Read.{FailsBut, each}
use Rattle.wfs_ends.proofs.Turns.{each_end, each_goes_on, each_fails}

module _ {E A B : Type 0} (step : A → B → Result A E) (found : A) (xs : List B) (i : ℕ) where
  abbrev from : ℕ → List B
  from n = map (λ x. x) (drop n xs)

  pub ends : length xs ≤ i → each step found (drop i xs) ≡ Ok found
  ends le = sym (ap (each step found) (map-id (drop i xs))) ∙ each_end step (λ x. x) found xs i le

  module _ (x : B) (total : Result A E) (lt : i < length xs) (is : x ≡ get_or xs i x) where
    pub goes_on : (more : A) → step found x ≡ Ok more → each step found (drop i xs) ≡ total → each step more (drop (i + 1) xs) ≡ total
    goes_on more now so_far =
        sym (ap (each step more) (map-id (drop (i + 1) xs)))
        ∙ each_goes_on step (λ x. x) found more xs i x total lt is now (ap (each step found) (map-id (drop i xs)) ∙ so_far)

    pub fails : (memory e : E) → FailsBut memory e (step found x) → each step found (drop i xs) ≡ total → FailsBut memory e total
    fails memory e now so_far = each_fails step (λ x. x) found xs i x total memory e lt is now (ap (each step found) (map-id (drop i xs)) ∙ so_far)

-- Two lists walked together.
use Rattle.std.proofs.Common.{◌≡◌, ℕ, ◌+◌, ◌<◌, ◌≤◌, List, length, take, get_or, sym, ap₂, ◌∙◌, arith}
use Rattle.std.specs.Prelude.{min}
use Rattle.std.specs.List.{flat_map, zip}
use Rattle.std.proofs.lemmas.Slice.Zip.{length-zip, get_or-zip}
use Rattle.wfs_ends.specs.Ends.{Writing, Writes}
use Rattle.wfs_ends.proofs.Writing.{wrote_more, wrote_all}

module _ {A B : Type 0} (f : A × B → List ℕ) (xs : List A) (ys : List B) (i : ℕ) where
  -- the pair at an index
  pair_at : (x : A) (y : B) → i < length xs → i < length ys → x ≡ get_or xs i x → y ≡ get_or ys i y → ◌≡◌ {A = A × B} (x, y) (get_or (zip xs ys) i (x, y))
  pair_at x y lx ly ex ey = ap₂ (λ a b. (a, b)) ex ey ∙ sym (get_or-zip xs ys i (x, y) lx ly)

  -- one more turn of a loop that gives a text of each pair
  pub wrote_pair : (x : A) (y : B) (s0 s1 s2 : Writing) → i < length xs → i < length ys → x ≡ get_or xs i x → y ≡ get_or ys i y
      → Writes s0 (flat_map f (take i (zip xs ys))) s1 → Writes s1 (f (x, y)) s2 → Writes s0 (flat_map f (take (i + 1) (zip xs ys))) s2
  wrote_pair x y s0 s1 s2 lx ly ex ey a b =
      let long = length-zip xs ys in
      wrote_more f (zip xs ys) i (x, y) s0 s1 s2 (omega arith) (pair_at x y lx ly ex ey) a b

  -- after the last turn
  pub wrote_pairs : (s0 s1 : Writing) → min (length xs) (length ys) ≤ i → Writes s0 (flat_map f (take i (zip xs ys))) s1 → Writes s0 (flat_map f (zip xs ys)) s1
  wrote_pairs s0 s1 le w =
      let long = length-zip xs ys in
      wrote_all f (zip xs ys) i s0 s1 (omega arith) w

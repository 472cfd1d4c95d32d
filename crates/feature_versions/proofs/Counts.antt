-- How often the pairs of features stand in lists, and grids of them.
use Rattle.std.proofs.Common.{◌≡◌, ℕ, ◌+◌, ◌<◌, Bool, true, false, cond, List, [], ◌∷◌, ◌++◌, All, refl, sym, ap, ◌∙◌, subst, inl, inr, arith}
use Rattle.std.specs.Prelude.{flat_map, ◌⊎◌}
use Rattle.std.specs.List.{sum_by}
use Rattle.std.proofs.lemmas.List.Sums.{sum_by-cons, sum_by-append}
use Rattle.std.proofs.lemmas.List.Elements.{All-head, All-tail}
use Rattle.feature_values.specs.declared.feature.Feature.{Feature}
use Rattle.grid_index.specs.Counts.{is_pair, times}
use Rattle.grid_index.specs.Gridded.{Gridded, pairs_at, IsGridOf}
use Rattle.grid_index.specs.Near.{Placed}
use Rattle.grid_index.specs.Places.{takes}
use Rattle.grid_index.proofs.Counts.{pair_is, times-cons, zero_of}
use Rattle.feature_versions.specs.Placed.{placed_in}

pub times-append : (p : Placed) (xs ys : List Placed) → times p (xs ++ ys) ≡ times p xs + times p ys
times-append p xs ys = sum_by-append (λ q. cond (is_pair p q) 1 0) xs ys

-- a pair that stands in a list is the first, or stands among the others
or_more : (p q : Placed) (xs : List Placed) → 0 < times p (q ∷ xs) → (p ≡ q) ⊎ (0 < times p xs)
or_more p q xs some = at (is_pair p q) refl
  where
    at : (b : Bool) → is_pair p q ≡ b → (p ≡ q) ⊎ (0 < times p xs)
    at true is = inl (pair_is p q is)
    at false is = inr (omega (arith, times-cons p q xs, zero_of (is_pair p q) is, some))

-- what holds of all pairs of a list holds of one that stands in it
pub of_times : (P : Placed → Type 0) (p : Placed) (xs : List Placed) → All P xs → 0 < times p xs → P p
of_times P p [] all some = absurd (omega (arith, some))
of_times P p (q ∷ xs) all some =
    by_place (or_more p q xs some) (All-head P q xs all) (λ more. of_times P p xs (All-tail P q xs all) more)
  where
    by_place : (p ≡ q) ⊎ (0 < times p xs) → P q → (0 < times p xs → P p) → P p
    by_place (inl is) here later = subst P (sym is) here
    by_place (inr more) here later = later more

-- a grid of pairs is one of as many in any other order
pub same_pairs : (grid : Gridded) (xs ys : List Placed) → ((p : Placed) → times p xs ≡ times p ys) → IsGridOf (pairs_at grid) xs → IsGridOf (pairs_at grid) ys
same_pairs grid xs ys same h = record {
  counted = λ place p. h.counted place p ∙ ap (λ (n : ℕ). cond (takes p.1 place) n 0) (same p);
  upright = λ p some. h.upright p (omega (arith, same p, some));
}

-- ---- the pairs of features

pub placed_times : (p : Placed) (fs : List Feature) → times p (flat_map placed_in fs) ≡ sum_by (λ f. times p (placed_in f)) fs
placed_times p [] = refl
placed_times p (f ∷ fs) = times-append p (placed_in f) (flat_map placed_in fs) ∙ ap (λ n. times p (placed_in f) + n) (placed_times p fs) ∙ sym (sum_by-cons (λ g. times p (placed_in g)) f fs)

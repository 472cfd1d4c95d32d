-- Boxes that share a position share a cell.
use Rattle.std.proofs.Common.{◌≡◌, ℤ, pos, negsuc, Bool, true, false, ◌&&◌, ◌||◌, List, refl, ap, ◌∙◌, get_or, arith}
use Rattle.std.specs.Prelude.{not, int_lt, All}
use Rattle.std.proofs.lemmas.List.Folds.{list_any_at}
use Rattle.std.proofs.lemmas.Grind.{common_steps}
use Rattle.geom_core.specs.Plane.{Bounds, are_apart}
use Rattle.feature_values.specs.declared.feature.Rid.{Rid}
use Rattle.grid_index.specs.Cells.{cell_of, share_cell, is_wide, is_huge}
use Rattle.grid_index.specs.Near.{Placed, is_same, puts_near, AreNear, IsMet}

-- a coordinate that is not below another has no lower cell
pub cell_keeps : (u v : ℤ) → int_lt u v ≡ false → int_lt (cell_of u) (cell_of v) ≡ false
unfolding cell_of
cell_keeps (pos a) (pos b) h = grind (arith, h)
cell_keeps (pos a) (negsuc b) h = grind (arith, h)
cell_keeps (negsuc a) (pos b) h = grind (arith, h)
cell_keeps (negsuc a) (negsuc b) h = grind (arith, h)

both_false : (a b c d : Bool) → (a ≡ false → c ≡ false) → (b ≡ false → d ≡ false) → (a || b) ≡ false → (c || d) ≡ false
both_false true b c d f g h = cc
both_false false b c d f g h = rw (f refl) (g h)

share_met : (a b : Bounds) → are_apart a b ≡ false → share_cell a b ≡ true
unfolding are_apart share_cell
share_met a b h = ap not (both_false _ _ _ _ (both_false _ _ _ _ (cell_keeps _ _) (cell_keeps _ _)) (both_false _ _ _ _ (cell_keeps _ _) (cell_keeps _ _)) h)

or_last : (a b c : Bool) → c ≡ true → (a || (b || c)) ≡ true
or_last true b c h = refl
or_last false true c h = refl
or_last false false c h = h

and_both : (a b : Bool) → a ≡ true → b ≡ true → (a && b) ≡ true
and_both a b g h = rw g h

pub same_self : (a : Rid) → is_same a a ≡ true
same_self a = grind (arith, common_steps)

pub all_met : (asked : Bounds) (pairs : List Placed) (ids : List Rid) → AreNear asked pairs ids → All (IsMet asked ids) pairs
all_met asked pairs ids h k d lt e =
    let p : Placed = get_or pairs k d in
    h.just p.0 ∙ list_any_at (puts_near asked p.0) pairs k d lt (and_both _ _ (or_last (is_huge asked) (is_wide p.1) (share_cell p.1 asked) (share_met p.1 asked e)) (same_self p.0))

pub near_in : (asked : Bounds) (pairs : List Placed) (ids found : List Rid) → ids ≡ found → AreNear asked pairs found → AreNear asked pairs ids
near_in asked pairs ids found e h = rw e h

pub met_in : (asked : Bounds) (pairs : List Placed) (ids found : List Rid) → ids ≡ found → AreNear asked pairs found → All (IsMet asked ids) pairs
met_in asked pairs ids found e h = rw e (all_met asked pairs found h)

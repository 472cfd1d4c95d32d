-- A pair is near a box just where one of its places is asked for.
use Rattle.std.proofs.Common.{◌≡◌, ℤ, int_lt, Bool, true, false, Some, None, refl, ⊎_elim, arith}
use Rattle.std.specs.Int.{int_max}
use Rattle.std.proofs.lemmas.Int.{ints}
use Rattle.std.proofs.lemmas.Bool.{cases_Bool, and_parts, and_from, or_left, or_right, not_from_false}
use Rattle.geom_core.specs.Plane.{Bounds, IsUpright, are_apart}
use Rattle.grid_index.specs.Cells.{cell_of, is_wide, is_huge, share_cell, is_near}
use Rattle.grid_index.specs.Places.{Place, takes, is_asked}
use Rattle.grid_index.proofs.Covered.{IsWithin, covers_from, covers_gives, upright_x, upright_y, none_of, each_of}

through : (l h c : ℤ) → int_lt c l ≡ false → int_lt h c ≡ false → int_lt h l ≡ false
through l h c p q = grind (arith, ints)

shares : (a b : Bounds) (cell : ℤ × ℤ) → IsWithin a cell → IsWithin b cell → share_cell b a ≡ true
unfolding share_cell are_apart
shares a b cell g h = none_of _ _ _ _ (through _ _ cell.0 h.from_x g.to_x) (through _ _ cell.1 h.from_y g.to_y) (through _ _ cell.0 g.from_x h.to_x) (through _ _ cell.1 g.from_y h.to_y)

record IsCommon (la ha lb hb c : ℤ) : Type 0 where
  from_a : int_lt c la ≡ false
  to_a : int_lt ha c ≡ false
  from_b : int_lt c lb ≡ false
  to_b : int_lt hb c ≡ false

common : (la ha lb hb : ℤ) → int_lt ha la ≡ false → int_lt hb lb ≡ false → int_lt ha lb ≡ false → int_lt hb la ≡ false → IsCommon la ha lb hb (int_max la lb)
common la ha lb hb p q r s = record {
  from_a = grind (arith, ints);
  to_a = grind (arith, ints);
  from_b = grind (arith, ints);
  to_b = grind (arith, ints);
}

shared : (a b : Bounds) → IsUpright a → IsUpright b → share_cell b a ≡ true → (cell : ℤ × ℤ) × (IsWithin a cell × IsWithin b cell)
unfolding share_cell are_apart
shared a b g h e =
    let all = each_of (int_lt (cell_of a.high.x) (cell_of b.low.x)) (int_lt (cell_of a.high.y) (cell_of b.low.y)) (int_lt (cell_of b.high.x) (cell_of a.low.x)) (int_lt (cell_of b.high.y) (cell_of a.low.y)) e in
    let x = common (cell_of a.low.x) (cell_of a.high.x) (cell_of b.low.x) (cell_of b.high.x) (upright_x a g) (upright_x b h) all.0.0 all.1.0 in
    let y = common (cell_of a.low.y) (cell_of a.high.y) (cell_of b.low.y) (cell_of b.high.y) (upright_y a g) (upright_y b h) all.0.1 all.1.1 in (
      (int_max (cell_of a.low.x) (cell_of b.low.x), int_max (cell_of a.low.y) (cell_of b.low.y)),
      (record { from_x = x.from_a; from_y = y.from_a; to_x = x.to_a; to_y = y.to_a }, record { from_x = x.from_b; from_y = y.from_b; to_x = x.to_b; to_y = y.to_b }),
    )

pub asked_near : (a b : Bounds) (place : Place) → is_asked a place ≡ true → takes b place ≡ true → is_near a b ≡ true
asked_near a b None p q = or_right (is_huge a) _ (or_left (is_wide b) _ q)
asked_near a b (Some cell) p q = or_right (is_huge a) _ (or_right (is_wide b) _ (shares a b cell (covers_gives a cell p) (covers_gives b cell (and_parts _ _ q).1)))

pub near_asked : (a b : Bounds) → IsUpright a → IsUpright b → is_huge a ≡ false → is_near a b ≡ true → (claim : Bool) → ((place : Place) → is_asked a place ≡ true → takes b place ≡ true → claim ≡ true) → claim ≡ true
near_asked a b g h small e claim c = ⊎_elim
    (λ (wide : is_wide b ≡ true). c None refl wide)
    (λ (narrow : is_wide b ≡ false).
    let k = shared a b g h (rw (small, narrow) at e) in
    c (Some k.0) (covers_from a k.0 k.1.0) (and_from _ _ (not_from_false _ narrow) (covers_from b k.0 k.1.1)))
    (cases_Bool (is_wide b))

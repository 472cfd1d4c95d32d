-- The places of a box, one after another: each of them, and none twice.
use Rattle.std.proofs.Common.{◌≡◌, ◌≢◌, ℕ, ℤ, pos, ◌+◌, ◌*◌, ◌/◌, ◌%◌, ◌<◌, ◌≤◌, ◌+ℤ◌, ◌-ℤ◌, ◌≤ℤ◌, int_lt, unsigned_abs, Bool, true, false, ◌&&◌, ◌||◌, not, Some, None, refl, sym, ap, subst, ◌∙◌, ⊎_elim, arith}
use Rattle.std.specs.Prelude.{zero, suc, if◌then◌else◌}
use Rattle.std.proofs.lemmas.Int.{ints}
use Rattle.std.proofs.lemmas.Option.{same_Some}
use Rattle.std.proofs.lemmas.Bool.{cases_eq, false≢true, or_cases, or_left, or_right, or_parts, not-true, false_from_ne_true}
use Rattle.std.proofs.Math.Nat.{mul_comm}
use Rattle.std.proofs.lemmas.Nat.{div_below, mod_below, div-mul-add, mod-mul-add, mul-add-lt, div-add-mod'}
use Rattle.geom_core.specs.Plane.{Bounds, IsUpright, are_apart}
use Rattle.grid_index.specs.Cells.{cell_of, span, cell_count, covers, cell_at, is_wide}
use Rattle.grid_index.specs.Room.{places}
use Rattle.grid_index.specs.Places.{Place, same_place, place_at, takes, is_asked, is_among_first}
use Rattle.grid_index.proofs.Plain.{both_ways}
use Rattle.grid_index.proofs.SamePlace.{place_is, place_self}
use Rattle.grid_index.proofs.Meeting.{cell_keeps}

pub first_of : (n : ℕ) (at : ℕ → Place) (place : Place) (i : ℕ) → i < n → at i ≡ place → is_among_first n at place ≡ true
first_of zero at place i lt e = absurd (omega arith)
first_of (suc n) at place i lt e = ⊎_elim
    (λ (same : i ≡ n). or_right _ _ (subst (λ (x : Place). same_place x place ≡ true) (sym (ap at (sym same) ∙ e)) (place_self place)))
    (λ (other : i ≢ n). or_left _ _ (first_of n at place i (omega arith) e))
    (cases_eq i n)

pub of_first : (n : ℕ) (at : ℕ → Place) (place : Place) (claim : Bool) → ((i : ℕ) → i < n → at i ≡ place → claim ≡ true) → is_among_first n at place ≡ true → claim ≡ true
of_first zero at place claim h e = absurd (false≢true e)
of_first (suc n) at place claim h e = ⊎_elim
    (λ (l : is_among_first n at place ≡ true). of_first n at place claim (λ i lt. h i (omega arith)) l)
    (λ (r : same_place (at n) place ≡ true). h n (omega arith) (place_is _ _ r))
    (or_cases _ _ e)

in_span : (l h : ℤ) (a : ℕ) → int_lt h l ≡ false → a < span l h → (int_lt (l +ℤ pos a) l ≡ false) × (int_lt h (l +ℤ pos a) ≡ false)
in_span l h a up lt = (grind (arith, ints), grind (arith, ints))

of_span : (l h c : ℤ) → int_lt c l ≡ false → int_lt h c ≡ false → (unsigned_abs (c -ℤ l) < span l h) × (l +ℤ pos (unsigned_abs (c -ℤ l)) ≡ c)
of_span l h c p q = (grind (arith, ints), grind (arith, ints))

le_not_lt : (a b : ℤ) → a ≤ℤ b → int_lt b a ≡ false
le_not_lt a b h = grind (arith, ints)

pub none_of : (a b c d : Bool) → a ≡ false → b ≡ false → c ≡ false → d ≡ false → not ((a || b) || (c || d)) ≡ true
none_of a b c d p q r s = rw (p, q, r, s) refl

pub each_of : (a b c d : Bool) → not ((a || b) || (c || d)) ≡ true → ((a ≡ false) × (b ≡ false)) × ((c ≡ false) × (d ≡ false))
each_of a b c d e =
    let halves = or_parts (a || b) (c || d) (not-true _ e) in
    (or_parts a b halves.0, or_parts c d halves.1)

-- a cell lies within those of a box
pub record IsWithin (b : Bounds) (cell : ℤ × ℤ) : Type 0 where
  pub from_x : int_lt cell.0 (cell_of b.low.x) ≡ false
  pub from_y : int_lt cell.1 (cell_of b.low.y) ≡ false
  pub to_x : int_lt (cell_of b.high.x) cell.0 ≡ false
  pub to_y : int_lt (cell_of b.high.y) cell.1 ≡ false

pub covers_from : (b : Bounds) (cell : ℤ × ℤ) → IsWithin b cell → covers b cell ≡ true
unfolding covers are_apart
covers_from b cell h = none_of _ _ _ _ h.from_x h.from_y h.to_x h.to_y

pub covers_gives : (b : Bounds) (cell : ℤ × ℤ) → covers b cell ≡ true → IsWithin b cell
unfolding covers are_apart
covers_gives b cell e =
    let all = each_of (int_lt cell.0 (cell_of b.low.x)) (int_lt cell.1 (cell_of b.low.y)) (int_lt (cell_of b.high.x) cell.0) (int_lt (cell_of b.high.y) cell.1) e in
    record { from_x = all.0.0; from_y = all.0.1; to_x = all.1.0; to_y = all.1.1 }

pub upright_x : (b : Bounds) → IsUpright b → int_lt (cell_of b.high.x) (cell_of b.low.x) ≡ false
upright_x b h = cell_keeps b.high.x b.low.x (le_not_lt _ _ h.x)

pub upright_y : (b : Bounds) → IsUpright b → int_lt (cell_of b.high.y) (cell_of b.low.y) ≡ false
upright_y b h = cell_keeps b.high.y b.low.y (le_not_lt _ _ h.y)

span_some : (l h : ℤ) → 0 < span l h
span_some l h = omega arith

pub cell_in : (b : Bounds) (i : ℕ) → IsUpright b → i < cell_count b → covers b (cell_at b i) ≡ true
unfolding cell_at
cell_in b i h lt =
    let height : ℕ = span (cell_of b.low.y) (cell_of b.high.y) in
    let x = in_span (cell_of b.low.x) (cell_of b.high.x) (i / height) (upright_x b h) (div_below i height (span (cell_of b.low.x) (cell_of b.high.x)) (span_some (cell_of b.low.y) (cell_of b.high.y)) lt) in
    let y = in_span (cell_of b.low.y) (cell_of b.high.y) (i % height) (upright_y b h) (mod_below i height (span_some (cell_of b.low.y) (cell_of b.high.y))) in
    covers_from b _ (record { from_x = x.0; from_y = y.0; to_x = x.1; to_y = y.1 })

same_steps : (l : ℤ) (a b : ℕ) → l +ℤ pos a ≡ l +ℤ pos b → a ≡ b
same_steps l a b e = grind (arith, ints)

cell_once : (b : Bounds) (i j : ℕ) → cell_at b i ≡ cell_at b j → i ≡ j
unfolding cell_at
cell_once b i j e =
    let height : ℕ = span (cell_of b.low.y) (cell_of b.high.y) in
    let x : i / height ≡ j / height = same_steps (cell_of b.low.x) _ _ (ap (λ (c : ℤ × ℤ). c.0) e) in
    let y : i % height ≡ j % height = same_steps (cell_of b.low.y) _ _ (ap (λ (c : ℤ × ℤ). c.1) e) in
    sym (div-add-mod' i height) ∙ ap (λ (k : ℕ). k * height + i % height) x ∙ ap (λ (k : ℕ). j / height * height + k) y ∙ div-add-mod' j height

pub cell_numbered : (b : Bounds) (cell : ℤ × ℤ) → covers b cell ≡ true → (i : ℕ) × ((i < cell_count b) × (cell_at b i ≡ cell))
unfolding cell_at
cell_numbered b cell e =
    let h = covers_gives b cell e in
    let width : ℕ = span (cell_of b.low.x) (cell_of b.high.x) in
    let height : ℕ = span (cell_of b.low.y) (cell_of b.high.y) in
    let x = of_span (cell_of b.low.x) (cell_of b.high.x) cell.0 h.from_x h.to_x in
    let y = of_span (cell_of b.low.y) (cell_of b.high.y) cell.1 h.from_y h.to_y in
    let column : ℕ = unsigned_abs (cell.0 -ℤ cell_of b.low.x) in
    let row : ℕ = unsigned_abs (cell.1 -ℤ cell_of b.low.y) in
    let column_is : (column * height + row) / height ≡ column = div-mul-add column height row y.0 in
    let row_is : (column * height + row) % height ≡ row = mod-mul-add column height row y.0 in
    let low : column * height + row < height * width = mul-add-lt column height row width x.0 y.0 in (
      column * height + row,
      (
        subst (λ (n : ℕ). column * height + row < n) (mul_comm height width) low,
        λ i. ((ap (λ (k : ℕ). cell_of b.low.x +ℤ pos k) column_is ∙ x.1) i, (ap (λ (k : ℕ). cell_of b.low.y +ℤ pos k) row_is ∙ y.1) i),
      ),
    )

pub cell_step : (i w h : ℕ) → 0 < h → i < w * h → w ≤ 65_537 → i / h ≤ 65_537
cell_step i w h some lt bound = let low : i / h < w = div_below i h w some lt in omega arith

zero_steps : (z : ℤ) → z ≡ z +ℤ pos 0
zero_steps z = grind (arith, ints)

-- the first cell is that of the low corner
pub first_cell : (b : Bounds) (i : ℕ) → i ≡ 0 → (let p : ℤ × ℤ = (cell_of b.low.x, cell_of b.low.y) in p) ≡ cell_at b i
unfolding cell_at
first_cell b i first =
    let height : ℕ = span (cell_of b.low.y) (cell_of b.high.y) in
    let some : 0 < height = span_some (cell_of b.low.y) (cell_of b.high.y) in
    let none : i / height ≡ 0 = ap (λ (k : ℕ). k / height) first ∙ none_div height some in
    let rest : i % height ≡ 0 = ap (λ (k : ℕ). k % height) first ∙ none_mod height some in
    pair_is (zero_steps (cell_of b.low.x) ∙ ap (λ (k : ℕ). cell_of b.low.x +ℤ pos k) (sym none)) (zero_steps (cell_of b.low.y) ∙ ap (λ (k : ℕ). cell_of b.low.y +ℤ pos k) (sym rest))
  where
    none_div : (h : ℕ) → 0 < h → 0 / h ≡ 0
    none_div h some = let below : 0 / h < 1 = div_below 0 h 1 some (omega arith) in omega arith

    none_mod : (h : ℕ) → 0 < h → 0 % h ≡ 0
    none_mod h some = let whole = div-add-mod' 0 h in let none = none_div h some in grind (arith, whole, none)

    pair_is : {u v w z : ℤ} → u ≡ v → w ≡ z → (let p : ℤ × ℤ = (u, w) in p) ≡ (v, z)
    pair_is e f = λ i. (e i, f i)

-- the cells of a box one after another
abbrev pub cells : Bounds → ℕ → Place
cells b i = Some (cell_at b i)

no_cell : (b : Bounds) (n : ℕ) → is_among_first n (cells b) None ≡ false
no_cell b n = false_from_ne_true _ (λ e. false≢true (of_first n (cells b) None false (λ i lt q. cc) e))

all_cells : (b : Bounds) → IsUpright b → (cell : ℤ × ℤ) → is_among_first (cell_count b) (cells b) (Some cell) ≡ covers b cell
all_cells b h cell = both_ways _ _
    (of_first (cell_count b) (cells b) (Some cell) (covers b cell) (λ i lt e. subst (λ (x : ℤ × ℤ). covers b x ≡ true) (same_Some (cell_at b i) cell e) (cell_in b i h lt)))
    (λ e. let k = cell_numbered b cell e in first_of (cell_count b) (cells b) (Some cell) k.0 k.1.0 (ap (λ (x : ℤ × ℤ). Some x) k.1.1))

-- the wide list and the cells of a box are where pairs near it are asked for
pub all_asked : (b : Bounds) → IsUpright b → (place : Place) → (same_place None place || is_among_first (cell_count b) (cells b) place) ≡ is_asked b place
all_asked b h None = refl
all_asked b h (Some cell) = all_cells b h cell

all_by : (wide : Bool) (b : Bounds) → IsUpright b → (place : Place) → is_among_first (if wide then 1 else cell_count b) (λ i. if wide then None else Some (cell_at b i)) place ≡ elim place as (λ _. Bool) [ None ↦ wide | Some cell ↦ not wide && covers b cell ]
all_by true b h None = refl
all_by true b h (Some cell) = refl
all_by false b h None = no_cell b (cell_count b)
all_by false b h (Some cell) = all_cells b h cell

-- the places of a box are all those that it takes
pub all_places : (b : Bounds) → IsUpright b → (place : Place) → is_among_first (places b) (place_at b) place ≡ takes b place
unfolding places
all_places b h None = all_by (is_wide b) b h None
all_places b h (Some cell) = all_by (is_wide b) b h (Some cell)

once_by : (wide : Bool) (b : Bounds) (i j : ℕ) → i < (if wide then 1 else cell_count b) → j < (if wide then 1 else cell_count b) → (if wide then None else Some (cell_at b i)) ≡ (if wide then None else Some (cell_at b j)) → i ≡ j
once_by true b i j p q e = omega arith
once_by false b i j p q e = cell_once b i j (same_Some _ _ e)

place_once : (b : Bounds) (i j : ℕ) → i < places b → j < places b → place_at b i ≡ place_at b j → i ≡ j
unfolding places
place_once b i j p q e = once_by (is_wide b) b i j p q e

-- the next place of a box is another than those before
pub new_place : (b : Bounds) (i : ℕ) → i < places b → is_among_first i (place_at b) (place_at b i) ≡ false
new_place b i lt = false_from_ne_true _ (λ e. false≢true (of_first i (place_at b) (place_at b i) false (λ j low q. let same : j ≡ i = place_once b j i (omega arith) lt q in absurd (omega arith)) e))

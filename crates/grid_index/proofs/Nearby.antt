-- What was found at the places is what is near.
use Rattle.std.proofs.Common.{◌≡◌, ℕ, ℤ, ◌+◌, ◌<◌, All, Bool, true, false, cond, ◌||◌, List, [], ◌∷◌, Some, None, refl, sym, ap, subst, ◌∙◌, ⊎_elim, arith}
use Rattle.std.specs.Prelude.{zero, suc, Vec}
use Rattle.std.specs.HashMap.{HashMap, get}
use Rattle.std.specs.Map.{lookup}
use Rattle.std.specs.List.{list_any, IsDistinct}
use Rattle.std.proofs.lemmas.Bool.{and_parts, and_from, or_cases, or_left, or_right, false≢true, cases_eq, not_from_false}
use Rattle.std.proofs.lemmas.List.Elements.{All-head, All-tail}
use Rattle.geom_core.specs.Plane.{Bounds, IsUpright}
use Rattle.feature_values.specs.declared.feature.Rid.{Rid}
use Rattle.grid_index.specs.Cells.{cell_count, cell_at, is_wide, is_huge, is_near}
use Rattle.grid_index.specs.Counts.{times}
use Rattle.grid_index.specs.Found.{is_of, is_in_first, FindsAsked}
use Rattle.grid_index.specs.Gridded.{IsGridOf}
use Rattle.grid_index.specs.Near.{Placed, is_among, is_same, puts_near, AreNear}
use Rattle.grid_index.specs.Lists.{listed}
use Rattle.grid_index.specs.Places.{Place, same_place, takes, is_asked}
use Rattle.grid_index.proofs.Plain.{both_ways, or_none, or_three}
use Rattle.grid_index.proofs.Asked.{asked_near, near_asked}
use Rattle.grid_index.proofs.Counts.{some_passes, any_passes}
use Rattle.grid_index.proofs.Covered.{cell_in, cell_numbered}

some_if : (b : Bool) (n : ℕ) → 0 < cond b n 0 → (b ≡ true) × (0 < n)
some_if true n h = (refl, h)
some_if false n h = absurd (omega (arith, h))

-- a pair that stands at a place is one of those of the grid, and takes the place
pub stands_at : (at : Place → List Placed) (pairs : List Placed) (q : Place) (p : Placed) → IsGridOf at pairs → 0 < times p (at q) → (takes p.1 q ≡ true) × (0 < times p pairs)
stands_at at pairs q p h some = some_if (takes p.1 q) (times p pairs) (subst (λ (n : ℕ). 0 < n) (h.counted q p) some)

pub stands_there : (at : Place → List Placed) (pairs : List Placed) (q : Place) (p : Placed) → IsGridOf at pairs → takes p.1 q ≡ true → 0 < times p pairs → 0 < times p (at q)
stands_there at pairs q p h here some = subst (λ (n : ℕ). 0 < n) (sym (h.counted q p ∙ ap (λ (w : Bool). cond w (times p pairs) 0) here)) some

-- a place where pairs near a box are asked for has a pair of a feature
asked_here : (at : Place → List Placed) (pairs : List Placed) (asked : Bounds) (id : Rid) (q : Place) → IsGridOf at pairs → is_asked asked q ≡ true → list_any (is_of id) (at q) ≡ true → list_any (puts_near asked id) pairs ≡ true
asked_here at pairs asked id q h is any =
    let s = some_passes (is_of id) (at q) any in
    let its = stands_at at pairs q s.pair h s.stands in
    any_passes (puts_near asked id) s.pair pairs (and_from _ _ (asked_near asked s.pair.1 q is its.0) s.passes) its.1

in_first_gives : (at : Place → List Placed) (asked : Bounds) (id : Rid) (n : ℕ) (claim : Bool) → ((i : ℕ) → i < n → list_any (is_of id) (at (Some (cell_at asked i))) ≡ true → claim ≡ true) → is_in_first at asked id n ≡ true → claim ≡ true
in_first_gives at asked id zero claim h e = absurd (false≢true e)
in_first_gives at asked id (suc n) claim h e = ⊎_elim
    (λ (l : is_in_first at asked id n ≡ true). in_first_gives at asked id n claim (λ i lt. h i (omega arith)) l)
    (λ (r : list_any (is_of id) (at (Some (cell_at asked n))) ≡ true). h n (omega arith) r)
    (or_cases _ _ e)

in_first_from : (at : Place → List Placed) (asked : Bounds) (id : Rid) (n i : ℕ) → i < n → list_any (is_of id) (at (Some (cell_at asked i))) ≡ true → is_in_first at asked id n ≡ true
in_first_from at asked id zero i lt e = absurd (omega arith)
in_first_from at asked id (suc n) i lt e = ⊎_elim
    (λ (same : i ≡ n). or_right _ _ (subst (λ (k : ℕ). list_any (is_of id) (at (Some (cell_at asked k))) ≡ true) same e))
    (λ other. or_left _ _ (in_first_from at asked id n i (omega arith) e))
    (cases_eq i n)

by_place : (at : Place → List Placed) (asked : Bounds) (id : Rid) (q : Place) → IsUpright asked → is_asked asked q ≡ true → list_any (is_of id) (at q) ≡ true → (list_any (is_of id) (at None) || is_in_first at asked id (cell_count asked)) ≡ true
by_place at asked id None up is any = or_left _ _ any
by_place at asked id (Some cell) up is any =
    let k = cell_numbered asked cell is in
    or_right _ _ (in_first_from at asked id (cell_count asked) k.0 k.1.0 (subst (λ (c : ℤ × ℤ). list_any (is_of id) (at (Some c)) ≡ true) (sym k.1.1) any))

asked_just : (at : Place → List Placed) (pairs : List Placed) (asked : Bounds) (id : Rid) → IsUpright asked → is_huge asked ≡ false → IsGridOf at pairs → (list_any (is_of id) (at None) || is_in_first at asked id (cell_count asked)) ≡ list_any (puts_near asked id) pairs
asked_just at pairs asked id up small h = both_ways _ _
    (λ e. ⊎_elim
    (λ (l : list_any (is_of id) (at None) ≡ true). asked_here at pairs asked id None h refl l)
    (λ (r : is_in_first at asked id (cell_count asked) ≡ true). in_first_gives at asked id (cell_count asked) (list_any (puts_near asked id) pairs)
    (λ i lt any. asked_here at pairs asked id (Some (cell_at asked i)) h (cell_in asked i up lt) any) r)
    (or_cases _ _ e))
    (λ e.
    let s = some_passes (puts_near asked id) pairs e in
    let both = and_parts (is_near asked s.pair.1) (is_same s.pair.0 id) s.passes in
    near_asked asked s.pair.1 up (h.upright s.pair s.stands) small both.0 _
    (λ q is here. by_place at asked id q up is (any_passes (is_of id) s.pair (at q) both.1 (stands_there at pairs q s.pair h here s.stands))))

pub found_asked : (at : Place → List Placed) (pairs : List Placed) (asked : Bounds) (ids : List Rid) → IsUpright asked → is_huge asked ≡ false → FindsAsked at asked ids → IsDistinct is_same ids → IsGridOf at pairs → AreNear asked pairs ids
found_asked at pairs asked ids up small finds once h = record {
  just = λ id. finds id ∙ asked_just at pairs asked id up small h;
  once = once;
}

-- ---- the wide list and the cells of a box are gone through

pub first_start : (at : Place → List Placed) (asked : Bounds) (id : Rid) (old new : Bool) → old ≡ false → new ≡ (old || list_any (is_of id) (at None)) → new ≡ (list_any (is_of id) (at None) || is_in_first at asked id 0)
first_start at asked id old new none e = e ∙ ap (λ (b : Bool). b || list_any (is_of id) (at None)) none ∙ sym (or_none (list_any (is_of id) (at None)))

pub first_next : (at : Place → List Placed) (asked : Bounds) (id : Rid) (i : ℕ) (cell : ℤ × ℤ) (now next : Bool) → cell ≡ cell_at asked i → now ≡ (list_any (is_of id) (at None) || is_in_first at asked id i) → next ≡ (now || list_any (is_of id) (at (Some cell)))
    → next ≡ (list_any (is_of id) (at None) || is_in_first at asked id (i + 1))
first_next at asked id i cell now next is e f =
    let one : i + 1 ≡ suc i = omega arith in
    f ∙ ap (λ (b : Bool). b || list_any (is_of id) (at (Some cell))) e
    ∙ ap (λ (k : ℤ × ℤ). (list_any (is_of id) (at None) || is_in_first at asked id i) || list_any (is_of id) (at (Some k))) is
    ∙ sym (or_three (list_any (is_of id) (at None)) (is_in_first at asked id i) (list_any (is_of id) (at (Some (cell_at asked i)))))
    ∙ ap (λ (n : ℕ). list_any (is_of id) (at None) || is_in_first at asked id n) (sym one)

pub first_end : (at : Place → List Placed) (asked : Bounds) (id : Rid) (i : ℕ) (now : Bool) → i ≡ cell_count asked → now ≡ (list_any (is_of id) (at None) || is_in_first at asked id i) → now ≡ (list_any (is_of id) (at None) || is_in_first at asked id (cell_count asked))
first_end at asked id i now last e = e ∙ ap (λ (n : ℕ). list_any (is_of id) (at None) || is_in_first at asked id n) last

-- ---- all lists are gone through

-- some list has a pair that puts a feature near a box
abbrev pub any_listed : {Z : Type 0} → Bounds → Rid → List (Place × Vec Placed Z) → Bool
any_listed asked id entries = list_any (λ e. list_any (puts_near asked id) e.1.items) entries

pub turn_next : {Z : Type 0} (asked : Bounds) (id : Rid) (s t : List (Place × Vec Placed Z)) (place : Place) (v : Vec Placed Z) (now next all : Bool) → s ≡ (place, v) ∷ t → (now || any_listed asked id s) ≡ all → next ≡ (now || list_any (puts_near asked id) v.items) → (next || any_listed asked id t) ≡ all
turn_next asked id s t place v now next all is e f =
    ap (λ (b : Bool). b || any_listed asked id t) f ∙ sym (or_three now (list_any (puts_near asked id) v.items) (any_listed asked id t)) ∙ ap (λ (es : List (Place × Vec Placed _)). now || any_listed asked id es) (sym is) ∙ e

pub turn_end : {Z : Type 0} (asked : Bounds) (id : Rid) (s : List (Place × Vec Placed Z)) (now all : Bool) → s ≡ [] → (now || any_listed asked id s) ≡ all → now ≡ all
turn_end asked id s now all is e = sym (or_none now) ∙ ap (λ (es : List (Place × Vec Placed _)). now || any_listed asked id es) (sym is) ∙ e

-- each box takes its first place
takes_first : (b : Bounds) → IsUpright b → (q : Place) × (takes b q ≡ true)
takes_first b up = by_width (is_wide b) refl
  where
    by_width : (w : Bool) → is_wide b ≡ w → (q : Place) × (takes b q ≡ true)
    by_width true is = (None, is)
    by_width false is = (Some (cell_at b 0), and_from _ _ (not_from_false _ is) (cell_in b 0 up (omega arith)))

module _ {Z S : Type 0} (lists : HashMap Place (Vec Placed Z) S) where
  listed_gives : (asked : Bounds) (id : Rid) (pairs : List Placed) (entries : List (Place × Vec Placed Z)) → All (λ e. get same_place lists e.0 ≡ Some e.1) entries → IsGridOf (λ q. listed (get same_place lists q)) pairs
      → any_listed asked id entries ≡ true → list_any (puts_near asked id) pairs ≡ true
  listed_gives asked id pairs [] there h e = absurd (false≢true e)
  listed_gives asked id pairs (x ∷ es) there h e = ⊎_elim
      (λ (l : list_any (puts_near asked id) x.1.items ≡ true).
      let s = some_passes (puts_near asked id) x.1.items l in
      let at : x.1.items ≡ listed (get same_place lists x.0) = sym (ap listed (All-head (λ e. get same_place lists e.0 ≡ Some e.1) x es there)) in
      let its = stands_at (λ q. listed (get same_place lists q)) pairs x.0 s.pair h (subst (λ (xs : List Placed). 0 < times s.pair xs) at s.stands) in
      any_passes (puts_near asked id) s.pair pairs s.passes its.1)
      (λ r. listed_gives asked id pairs es (All-tail (λ e. get same_place lists e.0 ≡ Some e.1) x es there) h r)
      (or_cases _ _ e)

  entry_any : (test : Placed → Bool) (q : Place) (entries : List (Place × Vec Placed Z)) → list_any test (listed (lookup (same_place q) entries)) ≡ true → list_any (λ e. list_any test e.1.items) entries ≡ true
  entry_any test q [] e = absurd (false≢true e)
  entry_any test q (x ∷ es) e = by_test (same_place q x.0) e (λ h. entry_any test q es h)
    where
      by_test : (b : Bool) → list_any test (listed (cond b (Some x.1) (lookup (same_place q) es))) ≡ true → (list_any test (listed (lookup (same_place q) es)) ≡ true → list_any (λ e. list_any test e.1.items) es ≡ true)
          → (list_any test x.1.items || list_any (λ e. list_any test e.1.items) es) ≡ true
      by_test true h later = or_left _ _ h
      by_test false h later = or_right _ _ (later h)

  pub found_all : (asked : Bounds) (pairs : List Placed) (ids : List Rid) → All (λ e. get same_place lists e.0 ≡ Some e.1) lists.entries → ((id : Rid) → is_among id ids ≡ any_listed asked id lists.entries) → IsDistinct is_same ids
      → IsGridOf (λ q. listed (get same_place lists q)) pairs → AreNear asked pairs ids
  found_all asked pairs ids there finds once h = record {
    just = λ id. finds id ∙ both_ways _ _
        (λ e. listed_gives asked id pairs lists.entries there h e)
        (λ e.
        let s = some_passes (puts_near asked id) pairs e in
        let first = takes_first s.pair.1 (h.upright s.pair s.stands) in
        entry_any (puts_near asked id) first.0 lists.entries (any_passes (puts_near asked id) s.pair (listed (get same_place lists first.0)) s.passes (stands_there (λ q. listed (get same_place lists q)) pairs first.0 s.pair h first.1 s.stands)));
    once = once;
  }

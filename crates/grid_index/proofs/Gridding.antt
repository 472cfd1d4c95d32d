-- Grids of pairs, as pairs come and go.
use Rattle.std.proofs.Common.{◌≡◌, ℕ, ◌+◌, ◌-◌, ◌<◌, ◌≤◌, Bool, true, false, cond, ◌&&◌, List, [], ◌∷◌, ◌++◌, refl, sym, ap, subst, ◌∙◌, Result, Ok, Err, arith}
use Rattle.std.specs.Prelude.{OnOk}
use Rattle.std.specs.List.{sum_by}
use Rattle.std.specs.Map.{lookup}
use Rattle.std.proofs.lemmas.List.Sums.{sum_by-cons}
use Rattle.geom_core.specs.Plane.{Bounds, IsUpright}
use Rattle.grid_index.specs.Counts.{one_if, is_pair, times}
use Rattle.grid_index.specs.Gridded.{Gridded, pairs_at, room_at, HasNoLessRoom, IsGridOf, IsTakenOut}
use Rattle.grid_index.specs.declared.lists.Lists.{Lists}
use Rattle.grid_index.specs.Lists.{listed, all_pairs, all_room, listed_at, spare_at, AreSame, IsRoomier}
use Rattle.grid_index.specs.Near.{Placed}
use Rattle.grid_index.specs.Places.{Place, same_place, takes, taking}
use Rattle.grid_index.specs.Room.{IsSpare}
use Rattle.grid_index.proofs.Looking.{pairs_found, room_found}
use Rattle.grid_index.proofs.Counts.{pair_is, times-append, times-cons, times_push, one_of, zero_of}

-- the same pairs at each place, in any order
pub same_grid : (at also : Place → List Placed) (pairs : List Placed) → ((q : Place) → also q ≡ at q) → IsGridOf at pairs → IsGridOf also pairs
same_grid at also pairs same h = record {
  counted = λ q p. ap (times p) (same q) ∙ h.counted q p;
  upright = h.upright;
}

pub no_grid : (at : Place → List Placed) → ((q : Place) → at q ≡ []) → IsGridOf at []
no_grid at none = record {
  counted = λ q p. ap (times p) (none q) ∙ same (takes p.1 q);
  upright = λ p some. absurd (omega (arith, some));
}
  where
    same : (b : Bool) → 0 ≡ cond {A = ℕ} b 0 0
    same true = refl
    same false = refl

pub added : (at also : Place → List Placed) (pairs : List Placed) (x : Placed) → IsUpright x.1 → ((q : Place) → also q ≡ cond (takes x.1 q) (at q ++ x ∷ []) (at q)) → IsGridOf at pairs → IsGridOf also (pairs ++ x ∷ [])
added at also pairs x up put h = record {
  counted = λ q p. ap (times p) (put q) ∙ by_pair q p (is_pair p x) refl (takes x.1 q) refl;
  upright = λ p some. of_pair p (is_pair p x) refl some;
}
  where
    by_pair : (q : Place) (p : Placed) (b : Bool) → is_pair p x ≡ b → (t : Bool) → takes x.1 q ≡ t → times p (cond t (at q ++ x ∷ []) (at q)) ≡ cond (takes p.1 q) (times p (pairs ++ x ∷ [])) 0
    by_pair q p true is true here =
        let it : takes p.1 q ≡ true = ap (λ (y : Placed). takes y.1 q) (pair_is p x is) ∙ here in
        let was : times p (at q) ≡ times p pairs = h.counted q p ∙ ap (λ (w : Bool). cond w (times p pairs) 0) it in
        times_push p x (at q) ∙ ap (λ (n : ℕ). n + one_if (is_pair p x)) was ∙ sym (times_push p x pairs) ∙ sym (ap (λ (w : Bool). cond w (times p (pairs ++ x ∷ [])) 0) it)
    by_pair q p true is false here =
        let it : takes p.1 q ≡ false = ap (λ (y : Placed). takes y.1 q) (pair_is p x is) ∙ here in
        h.counted q p ∙ ap (λ (w : Bool). cond w (times p pairs) 0) it ∙ sym (ap (λ (w : Bool). cond w (times p (pairs ++ x ∷ [])) 0) it)
    by_pair q p false is t here =
        let all : times p (pairs ++ x ∷ []) ≡ times p pairs = omega (arith, times_push p x pairs, zero_of (is_pair p x) is) in
        list_same t ∙ h.counted q p ∙ sym (ap (λ (n : ℕ). cond (takes p.1 q) n 0) all)
      where
        list_same : (t : Bool) → times p (cond t (at q ++ x ∷ []) (at q)) ≡ times p (at q)
        list_same true = omega (arith, times_push p x (at q), zero_of (is_pair p x) is)
        list_same false = refl

    of_pair : (p : Placed) (b : Bool) → is_pair p x ≡ b → 0 < times p (pairs ++ x ∷ []) → IsUpright p.1
    of_pair p true is some = subst (λ (y : Placed). IsUpright y.1) (sym (pair_is p x is)) up
    of_pair p false is some = h.upright p (omega (arith, times_push p x pairs, zero_of (is_pair p x) is, some))

pub removed : (at also : Place → List Placed) (before after : List Placed) (x : Placed) → IsTakenOut x at also → IsGridOf at (before ++ x ∷ after) → IsGridOf also (before ++ after)
removed at also before after x out h = record {
  counted = λ q p. out q p ∙ by_pair q p (is_pair p x) refl;
  upright = λ p some. h.upright p (omega (arith, all p, some));
}
  where
    all : (p : Placed) → times p (before ++ x ∷ after) ≡ times p (before ++ after) + one_if (is_pair p x)
    all p = omega (arith, times-append p before (x ∷ after), times-cons p x after, times-append p before after)

    here : (t : Bool) (n m k : ℕ) → n ≡ m + 1 → k ≡ cond t n 0 → k - one_if t ≡ cond t m 0
    here true n m k e f = omega (arith, e, f)
    here false n m k e f = omega (arith, f)

    by_pair : (q : Place) (p : Placed) (b : Bool) → is_pair p x ≡ b → times p (at q) - one_if (takes x.1 q && is_pair p x) ≡ cond (takes p.1 q) (times p (before ++ after)) 0
    by_pair q p true is =
        let it : takes p.1 q ≡ takes x.1 q = ap (λ (y : Placed). takes y.1 q) (pair_is p x is) in
        let one : one_if (takes x.1 q && is_pair p x) ≡ one_if (takes p.1 q) = ap (λ (w : Bool). one_if (takes x.1 q && w)) is ∙ ap one_if (and_true (takes x.1 q)) ∙ sym (ap one_if it) in
        let sum : times p (before ++ x ∷ after) ≡ times p (before ++ after) + 1 = omega (arith, all p, one_of (is_pair p x) is) in
        ap (λ (n : ℕ). times p (at q) - n) one ∙ here (takes p.1 q) (times p (before ++ x ∷ after)) (times p (before ++ after)) (times p (at q)) sum (h.counted q p)
      where
        and_true : (b : Bool) → (b && true) ≡ b
        and_true true = refl
        and_true false = refl
    by_pair q p false is =
        let none : one_if (takes x.1 q && is_pair p x) ≡ 0 = ap (λ (w : Bool). one_if (takes x.1 q && w)) is ∙ ap one_if (and_false (takes x.1 q)) in
        let sum : times p (before ++ x ∷ after) ≡ times p (before ++ after) = omega (arith, all p, zero_of (is_pair p x) is) in
        let same : times p (at q) - one_if (takes x.1 q && is_pair p x) ≡ times p (at q) = omega (arith, none) in
        same ∙ h.counted q p ∙ ap (λ (n : ℕ). cond (takes p.1 q) n 0) sum
      where
        and_false : (b : Bool) → (b && false) ≡ false
        and_false true = refl
        and_false false = refl

-- ---- a grid and its lists

pub seen_pairs : (lists : Lists) (q : Place) → pairs_at (record { pairs = all_pairs lists; room = all_room lists }) q ≡ listed_at lists q
seen_pairs lists q = pairs_found lists.by_place.entries q

pub seen_room : (lists : Lists) (q : Place) → room_at (all_room lists) q ≡ spare_at lists q
seen_room lists q = room_found lists.by_place.entries q

abbrev pub view : Lists → Gridded
view lists = record { pairs = all_pairs lists; room = all_room lists }

-- what is seen of a grid is what its lists have
pub open_pairs : (lists : Lists) (seen : Gridded) → view lists ≡ seen → (q : Place) → pairs_at seen q ≡ listed_at lists q
open_pairs lists seen is q = ap (λ (g : Gridded). pairs_at g q) (sym is) ∙ seen_pairs lists q

pub open_room : (lists : Lists) (seen : Gridded) → view lists ≡ seen → (q : Place) → room_at seen.room q ≡ spare_at lists q
open_room lists seen is q = ap (λ (g : Gridded). room_at g.room q) (sym is) ∙ seen_room lists q

pub open_grid : (lists : Lists) (seen : Gridded) (pairs : List Placed) → view lists ≡ seen → IsGridOf (pairs_at seen) pairs → IsGridOf (listed_at lists) pairs
open_grid lists seen pairs is h = same_grid (pairs_at seen) (listed_at lists) pairs (λ q. sym (open_pairs lists seen is q)) h

pub close_grid : (lists : Lists) (pairs : List Placed) → IsGridOf (listed_at lists) pairs → IsGridOf (pairs_at (view lists)) pairs
close_grid lists pairs h = same_grid (listed_at lists) (pairs_at (view lists)) pairs (seen_pairs lists) h

pub new_grid : (lists : Lists) → lists.by_place.entries ≡ [] → IsGridOf (pairs_at (view lists)) []
new_grid lists none = close_grid lists [] (no_grid (listed_at lists) (λ q. ap (λ (es : List _). listed (lookup (same_place q) es)) none))

pub still_grid : (old new : Lists) (seen : Gridded) (pairs : List Placed) → view old ≡ seen → AreSame old new → IsGridOf (pairs_at seen) pairs → IsGridOf (pairs_at (view new)) pairs
still_grid old new seen pairs is same h = close_grid new pairs (same_grid (listed_at old) (listed_at new) pairs same (open_grid old seen pairs is h))

pub no_less_room : (old new : Lists) (seen : Gridded) → view old ≡ seen → IsRoomier old new → HasNoLessRoom seen.room (all_room new)
no_less_room old new seen is more q = let was = open_room old seen is q in let now = seen_room new q in let one = more q in omega (arith, was, now, one)

pub is_spare : (new : Lists) (areas given : List Bounds) → given ≡ areas → ((q : Place) → sum_by (taking q) given ≤ spare_at new q) → IsSpare areas (view new)
is_spare new areas given same room q = let now = seen_room new q in let all = ap (sum_by (taking q)) same in let one = room q in omega (arith, now, all, one)

pub spare_if : {A E : Type 0} (r : Result A E) (new : Lists) (areas given : List Bounds) → given ≡ areas → OnOk r ((q : Place) → sum_by (taking q) given ≤ spare_at new q) → OnOk r (IsSpare areas (view new))
spare_if (Ok x) new areas given same room = is_spare new areas given same room
spare_if (Err e) new areas given same room = tt

-- room for one box
pub spare_here : (lists : Lists) (seen : Gridded) (area : Bounds) → view lists ≡ seen → IsSpare (area ∷ []) seen → (q : Place) → taking q area ≤ spare_at lists q
spare_here lists seen area is spare q = let now = open_room lists seen is q in let one = spare q in omega (arith, now, one, sum_by-cons (taking q) area [])

pub room_used : (old new : Lists) (seen : Gridded) (area : Bounds) → view old ≡ seen → ((q : Place) → spare_at old q ≤ spare_at new q + taking q area) → (q : Place) → room_at seen.room q ≤ room_at (all_room new) q + taking q area
room_used old new seen area is used q = let was = open_room old seen is q in let now = seen_room new q in let one = used q in omega (arith, was, now, one)

pub added_in : (old new : Lists) (seen : Gridded) (pairs : List Placed) (x : Placed) → view old ≡ seen → IsUpright x.1 → ((q : Place) → listed_at new q ≡ cond (takes x.1 q) (listed_at old q ++ x ∷ []) (listed_at old q))
    → IsGridOf (pairs_at seen) pairs → IsGridOf (pairs_at (view new)) (pairs ++ x ∷ [])
added_in old new seen pairs x is up put h = close_grid new (pairs ++ x ∷ []) (added (listed_at old) (listed_at new) pairs x up put (open_grid old seen pairs is h))

pub taken_in : (old new : Lists) (seen : Gridded) (x : Placed) → view old ≡ seen → IsTakenOut x (listed_at old) (listed_at new) → IsTakenOut x (pairs_at seen) (pairs_at (view new))
taken_in old new seen x is out q p = ap (times p) (seen_pairs new q) ∙ out q p ∙ ap (λ (xs : List Placed). times p xs - one_if (takes x.1 q && is_pair p x)) (sym (open_pairs old seen is q))

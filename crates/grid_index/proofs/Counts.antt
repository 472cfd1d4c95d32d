-- How often pairs stand in lists, and what follows for tests of them.
use Rattle.std.proofs.Common.{◌≡◌, ℕ, ◌+◌, ◌-◌, ◌<◌, ◌≤◌, ◌≢◌, ℤ, Bool, true, false, cond, ◌&&◌, ◌||◌, List, [], ◌∷◌, ◌++◌, length, get_or, take, refl, sym, ap, ◌∙◌, inl, inr, arith}
use Rattle.std.specs.Prelude.{◌⊎◌, zero, suc}
use Rattle.std.specs.Ordering.{int_eq}
use Rattle.std.specs.List.{list_any, swap_remove}
use Rattle.std.proofs.lemmas.Bool.{and_parts}
use Rattle.std.proofs.lemmas.List.Sums.{sum_by-cons, sum_by-append, sum_by-swap_remove, count_by_more_no}
use Rattle.std.proofs.lemmas.List.{take_all}
use Rattle.std.proofs.lemmas.Bool.Decides.{nat_tests}
use Rattle.geom_core.specs.Plane.{Point, Bounds}
use Rattle.feature_values.specs.declared.feature.Rid.{Rid}
use Rattle.grid_index.specs.Counts.{one_if, is_point, is_pair, times}
use Rattle.grid_index.specs.Near.{Placed, is_same}

-- ---- pairs that are the same are equal

abbrev rid : ℕ → ℕ → Rid
rid kind number = record { kind = kind; number = number }

rid_is : (k n l m : ℕ) → k ≡ l → n ≡ m → rid k n ≡ rid l m
rid_is k n l m p q = cc

pub same_is : (a b : Rid) → is_same a b ≡ true → a ≡ b
same_is a b h = rid_is a.kind a.number b.kind b.number (grind (arith, nat_tests, h)) (grind (arith, nat_tests, h))

abbrev point : ℤ → ℤ → Point
point x y = record { x = x; y = y }

point_is : (a b : Point) → is_point a b ≡ true → a ≡ b
point_is a b h = at a.x a.y b.x b.y (grind (arith, h)) (grind (arith, h))
  where
    at : (x y u v : ℤ) → x ≡ u → y ≡ v → point x y ≡ point u v
    at x y u v p q = cc

pub pair_is : (p q : Placed) → is_pair p q ≡ true → p ≡ q
pair_is p q h =
    let first = and_parts (is_same p.0 q.0) (is_point p.1.low q.1.low && is_point p.1.high q.1.high) h in
    let rest = and_parts (is_point p.1.low q.1.low) (is_point p.1.high q.1.high) first.1 in
    at p.0 p.1.low p.1.high q.0 q.1.low q.1.high (same_is p.0 q.0 first.0) (point_is p.1.low q.1.low rest.0) (point_is p.1.high q.1.high rest.1)
  where
    at : (a : Rid) (l h : Point) (b : Rid) (m k : Point) → a ≡ b → l ≡ m → h ≡ k → (let x : Placed = (a, record { low = l; high = h }) in x) ≡ (b, record { low = m; high = k })
    at a l h b m k p q r = cc

int_self : (z : ℤ) → int_eq z z ≡ true
int_self z = grind arith

rid_self : (a : Rid) → is_same a a ≡ true
rid_self a = grind (arith, nat_tests)

pub pair_self : (p : Placed) → is_pair p p ≡ true
pair_self p = rw (rid_self p.0, int_self p.1.low.x, int_self p.1.low.y, int_self p.1.high.x, int_self p.1.high.y) refl

pub not_pair : (p q : Placed) → p ≢ q → is_pair p q ≡ false
not_pair p q other = at (is_pair p q) refl
  where
    at : (b : Bool) → is_pair p q ≡ b → is_pair p q ≡ false
    at true is = absurd (other (pair_is p q is))
    at false is = is

-- ---- how often a pair stands in a list

pub times-append : (p : Placed) (xs ys : List Placed) → times p (xs ++ ys) ≡ times p xs + times p ys
times-append p xs ys = sum_by-append (λ q. cond (is_pair p q) 1 0) xs ys

pub times-cons : (p q : Placed) (xs : List Placed) → times p (q ∷ xs) ≡ cond (is_pair p q) 1 0 + times p xs
times-cons p q xs = sum_by-cons (λ r. cond (is_pair p r) 1 0) q xs

pub times_one : (p q : Placed) → times p (q ∷ []) ≡ cond (is_pair p q) 1 0
times_one p q = omega (arith, times-cons p q [])

pub times_self : (p : Placed) → times p (p ∷ []) ≡ 1
times_self p = times_one p p ∙ rw (pair_self p) refl

pub times_push : (p q : Placed) (xs : List Placed) → times p (xs ++ q ∷ []) ≡ times p xs + one_if (is_pair p q)
times_push p q xs = times-append p xs (q ∷ []) ∙ ap (λ (n : ℕ). times p xs + n) (times_one p q)

pub one_of : (b : Bool) → b ≡ true → one_if b ≡ 1
one_of true is = refl
one_of false is = absurd (let bad = is in cc)

pub zero_of : (b : Bool) → b ≡ false → one_if b ≡ 0
zero_of true is = absurd (let bad = is in cc)
zero_of false is = refl

-- the last pair takes the place of one that goes
pub times_swap : (p q : Placed) (xs : List Placed) (i : ℕ) (r : Placed) → i < length xs → ((d : Placed) → get_or xs i d ≡ q) → times p (swap_remove xs i r) ≡ times p xs - one_if (is_pair p q)
times_swap p q xs i r lt is =
    let sum = sum_by-swap_remove (λ (x : Placed). cond (is_pair p x) 1 0) xs i r lt in
    let one : one_if (is_pair p (get_or xs i r)) ≡ one_if (is_pair p q) = ap (λ (x : Placed). one_if (is_pair p x)) (is r) in
    omega (arith, sum, one)

-- a pair that does not stand in a list goes out of it
pub times_absent : (p q : Placed) (xs : List Placed) → times q xs ≡ 0 → times p xs ≡ times p xs - one_if (is_pair p q)
times_absent p q xs none = at (is_pair p q) refl
  where
    at : (b : Bool) → is_pair p q ≡ b → times p xs ≡ times p xs - one_if (is_pair p q)
    at true is = (let same : times p xs ≡ 0 = ap (λ (x : Placed). times x xs) (pair_is p q is) ∙ none in omega (arith, same))
    at false is = omega (arith, zero_of (is_pair p q) is)

-- ---- a pair that is looked for

-- two numbers of one type, and two boxes with the same corners
pub told_pair : (p : Placed) (id : Rid) (area : Bounds) → is_same p.0 id ≡ true → ((int_eq p.1.low.x area.low.x && int_eq p.1.low.y area.low.y) && (int_eq p.1.high.x area.high.x && int_eq p.1.high.y area.high.y)) ≡ true → p ≡ (id, area)
told_pair p id area e f = pair_is p (id, area) (rw (e, f) refl)

none_at : (p q : Placed) (xs : List Placed) (i : ℕ) → i < length xs → q ≡ get_or xs i q → q ≢ p → times p (take (i + 1) xs) ≡ times p (take i xs)
none_at p q xs i lt is other = count_by_more_no (is_pair p) xs i q lt (ap (is_pair p) (sym is) ∙ not_pair p q (λ e. other (sym e)))

pub none_next : (p : Placed) (xs : List Placed) (i : ℕ) (q : Placed) → i < length xs → q ≡ get_or xs i q → q ≢ p → times p (take i xs) ≡ 0 → times p (take (i + 1) xs) ≡ 0
none_next p xs i q lt is other none = none_at p q xs i lt is other ∙ none

pub none_end : (p : Placed) (xs : List Placed) (i : ℕ) → length xs ≤ i → times p (take i xs) ≡ 0 → times p xs ≡ 0
none_end p xs i le none = ap (times p) (sym (take_all i xs le)) ∙ none

default : {X : Type 0} (xs : List X) (k : ℕ) (x d : X) → k < length xs → x ≡ get_or xs k x → get_or xs k d ≡ x
default [] k x d lt is = absurd (omega (arith, lt))
default (y ∷ xs) zero x d lt is = sym is
default (y ∷ xs) (suc k) x d lt is = default xs k x d (omega (arith, lt)) is

pub at_any : (xs : List Placed) (i : ℕ) (q d p : Placed) → i < length xs → q ≡ get_or xs i q → q ≡ p → get_or xs i d ≡ p
at_any xs i q d p lt is same = default xs i q d lt is ∙ same

-- ---- what stands in a list

-- a pair that stands in a list is the first, or stands among the others
or_more : (p q : Placed) (xs : List Placed) → 0 < times p (q ∷ xs) → (p ≡ q) ⊎ (0 < times p xs)
or_more p q xs some = at (is_pair p q) refl
  where
    at : (b : Bool) → is_pair p q ≡ b → (p ≡ q) ⊎ (0 < times p xs)
    at true is = inl (pair_is p q is)
    at false is = inr (omega (arith, times-cons p q xs, zero_of (is_pair p q) is, some))

pub record Passing (test : Placed → Bool) (xs : List Placed) : Type 0 where
  pub pair : Placed
  pub passes : test pair ≡ true
  pub stands : 0 < times pair xs

pub some_passes : (test : Placed → Bool) (xs : List Placed) → list_any test xs ≡ true → Passing test xs
some_passes test [] any = absurd (let bad = any in cc)
some_passes test (q ∷ xs) any = at (test q) refl any (λ h. some_passes test xs h)
  where
    at : (b : Bool) → test q ≡ b → (b || list_any test xs) ≡ true → (list_any test xs ≡ true → Passing test xs) → Passing test (q ∷ xs)
    at true is h later = record { pair = q; passes = is; stands = omega (arith, times-cons q q xs, one_of (is_pair q q) (pair_self q)) }
    at false is h later = let more = later h in record { pair = more.pair; passes = more.passes; stands = omega (arith, times-cons more.pair q xs, more.stands) }

or_right : (a b : Bool) → b ≡ true → (a || b) ≡ true
or_right true b h = refl
or_right false b h = h

pub any_passes : (test : Placed → Bool) (p : Placed) (xs : List Placed) → test p ≡ true → 0 < times p xs → list_any test xs ≡ true
any_passes test p [] is some = absurd (omega (arith, some))
any_passes test p (q ∷ xs) is some = by_place (or_more p q xs some) (λ more. any_passes test p xs is more)
  where
    by_place : (p ≡ q) ⊎ (0 < times p xs) → (0 < times p xs → list_any test xs ≡ true) → (test q || list_any test xs) ≡ true
    by_place (inl same) later = rw (ap test (sym same) ∙ is) refl
    by_place (inr more) later = or_right (test q) (list_any test xs) (later more)

-- Where a number stands among rows, and what its place tells of their features.
use Rattle.std.proofs.Common.{◌≡◌, ℕ, zero, suc, ◌+◌, ◌-◌, ◌<◌, ◌≤◌, Bool, true, false, nat_lt, List, [], ◌∷◌, ◌++◌, length, get_or, take, drop, All, Option, Some, None, refl, sym, ap, ◌∙◌, subst, length-take, length-drop, add-one, arith}
use Rattle.std.specs.Prelude.{slice_get}
use Rattle.std.specs.List.{AllWithin}
use Rattle.std.specs.List.Sorted.{IsPartitionedBy}
use Rattle.std.specs.Option.{option_to_list, IfSome}
use Rattle.std.proofs.lemmas.List.{get_or-take, get_or-drop, take-append-drop}
use Rattle.std.proofs.lemmas.List.Elements.{All-nil, All-cons, All-head, All-tail, All-weaker, All-append}
use Rattle.std.proofs.lemmas.Bool.Decides.{nat_tests}
use Rattle.feature_values.specs.declared.feature.Feature.{Feature}
use Rattle.feature_values.specs.declared.feature.Rid.{Rid}
use Rattle.fes_filter.specs.View.{is_before, IsInOrder}
use Rattle.feature_versions.specs.declared.rows.Row.{Row}
use Rattle.feature_versions.specs.Rows.{live_in, live, IsRising, IsOwn, AreRows, has_number}
use Rattle.feature_versions.proofs.Between.{AllBefore, AllBehind}

-- ---- what stands before a place, and from it on

module _ {X : Type 0} where
  pub front : (P : X → Type 0) (xs : List X) (i : ℕ) → AllWithin P xs 0 i → i ≤ length xs → All P (take i xs)
  front P xs i all le k d lt =
      let within : k < i = grind (arith, lt, length-take i xs) in
      subst P (sym (get_or-take i xs k d within)) (all k d (omega arith) within)

  pub rest : (P : X → Type 0) (xs : List X) (i : ℕ) → AllWithin P xs i (length xs) → i ≤ length xs → All P (drop i xs)
  rest P xs i all le k d lt =
      let within : i + k < length xs = grind (arith, lt, le, length-drop i xs) in
      subst P (sym (get_or-drop i xs k d)) (all (i + k) d (omega arith) within)

module _ {X : Type 0} (P : X → Type 0) where
  pub all_left : (xs ys : List X) → All P (xs ++ ys) → All P xs
  all_left [] ys all = All-nil P
  all_left (x ∷ xs) ys all = All-cons P x xs (All-head P x (xs ++ ys) all) (all_left xs ys (All-tail P x (xs ++ ys) all))

  pub all_right : (xs ys : List X) → All P (xs ++ ys) → All P ys
  all_right [] ys all = all
  all_right (x ∷ xs) ys all = all_right xs ys (All-tail P x (xs ++ ys) all)

-- ---- rows that rise

abbrev Above : Row → Row → Type 0
Above row other = row.number < other.number

pub rising_at : (rows : List Row) (i j : ℕ) (d : Row) → IsRising rows → i < j → j < length rows → (get_or rows i d).number < (get_or rows j d).number
rising_at [] i j d rising lt within = absurd (omega (arith, within))
rising_at (row ∷ rows) i zero d rising lt within = absurd (omega (arith, lt))
rising_at (row ∷ rows) zero (suc j) d rising lt within = rising.0 j d (omega (arith, within))
rising_at (row ∷ rows) (suc i) (suc j) d rising lt within = rising_at rows i j d rising.1 (omega (arith, lt)) (omega (arith, within))

parted_at : (rows : List Row) (number i j : ℕ) (d : Row) (b : Bool) → nat_lt i j ≡ b → IsRising rows → i ≤ j → j < length rows → nat_lt (get_or rows j d).number number ≡ true → nat_lt (get_or rows i d).number number ≡ true
parted_at rows number i j d true is rising le lt holds = let more = rising_at rows i j d rising (grind (arith, is)) lt in grind (arith, nat_tests, holds, more)
parted_at rows number i j d false is rising le lt holds = let same : i ≡ j = grind (arith, is, le) in rw same holds

pub is_parted : (rows : List Row) (number : ℕ) → IsRising rows → IsPartitionedBy (λ row. nat_lt row.number number) rows
is_parted rows number rising i j d le lt holds = parted_at rows number i j d (nat_lt i j) refl rising le lt holds

-- rows before one of a lesser number have lesser ones
pub lesser_all : (number : ℕ) (rows : List Row) (last : Row) → IsRising rows → slice_get rows (length rows - 1) ≡ Some last → nat_lt last.number number ≡ true → AllWithin (λ row. nat_lt row.number number ≡ true) rows 0 (length rows)
lesser_all number rows last rising at lt k d from within =
    let place : length rows - 1 < length rows = omega (arith, within) in
    let is : get_or rows (length rows - 1) d ≡ last = got rows (length rows - 1) d last at in
    let holds : nat_lt (get_or rows (length rows - 1) d).number number ≡ true = rw is lt in
    is_parted rows number rising k (length rows - 1) d (omega (arith, within)) place holds
  where
    got : (rs : List Row) (j : ℕ) (d r : Row) → slice_get rs j ≡ Some r → get_or rs j d ≡ r
    got [] zero d r is = absurd (let bad = is in cc)
    got [] (suc j) d r is = absurd (let bad = is in cc)
    got (x ∷ rs) zero d r is = cc
    got (x ∷ rs) (suc j) d r is = got rs j d r is

rising_drop : (rows : List Row) (i : ℕ) → IsRising rows → IsRising (drop i rows)
rising_drop [] zero rising = rising
rising_drop [] (suc i) rising = rising
rising_drop (row ∷ rows) zero rising = rising
rising_drop (row ∷ rows) (suc i) rising = rising_drop rows i rising.1

pub rising_left : (low high : List Row) → IsRising (low ++ high) → IsRising low
rising_left [] high rising = tt
rising_left (row ∷ low) high rising = (all_left (Above row) low high rising.0, rising_left low high rising.1)

pub rising_right : (low high : List Row) → IsRising (low ++ high) → IsRising high
rising_right [] high rising = rising
rising_right (row ∷ low) high rising = rising_right low high rising.1

-- a row between those of lesser and those of greater numbers
pub rising_with : (low high : List Row) (row : Row) → IsRising low → IsRising high → All (λ r. r.number < row.number) low → All (λ r. row.number < r.number) high → IsRising (low ++ row ∷ high)
rising_with [] high row rising later less more = (more, later)
rising_with (r ∷ low) high row rising later less more =
    let here : r.number < row.number = All-head (λ (s : Row). s.number < row.number) r low less in
    let above : All (Above r) high = All-weaker (λ (s : Row). row.number < s.number) (Above r) (λ s h. omega (arith, here, h)) high more in (
      All-append (Above r) low (row ∷ high) rising.0 (All-cons (Above r) row high here above),
      rising_with low high row rising.1 later (All-tail (λ (s : Row). s.number < row.number) r low less) more,
    )

-- ---- the features of rows

all_in : (P : Feature → Type 0) (feature : Option Feature) → IfSome feature P → All P (option_to_list feature)
all_in P None is = All-nil P
all_in P (Some f) is = All-cons P f [] is (All-nil P)

pub all_live : (P : Feature → Type 0) (rows : List Row) → All (λ r. IfSome r.feature P) rows → All P (live rows)
all_live P [] all = All-nil P
all_live P (row ∷ rows) all =
    All-append P (live_in row) (live rows) (all_in P row.feature (All-head (λ (r : Row). IfSome r.feature P) row rows all)) (all_live P rows (All-tail (λ (r : Row). IfSome r.feature P) row rows all))

abbrev rid : ℕ → ℕ → Rid
rid kind number = record { kind = kind; number = number }

some_before : (feature : Option Feature) (kind n number : ℕ) → n < number → IfSome feature (λ f. f.id ≡ rid kind n) → IfSome feature (λ f. is_before f.id (rid kind number) ≡ true)
some_before None kind n number lt own = tt
some_before (Some f) kind n number lt own = rw own (grind (arith, nat_tests, lt))

some_behind : (feature : Option Feature) (kind n number : ℕ) → number < n → IfSome feature (λ f. f.id ≡ rid kind n) → IfSome feature (λ f. is_before (rid kind number) f.id ≡ true)
some_behind None kind n number lt own = tt
some_behind (Some f) kind n number lt own = rw own (grind (arith, nat_tests, lt))

pub low_before : (kind number : ℕ) (rows : List Row) → All (IsOwn kind) rows → All (λ r. r.number < number) rows → AllBefore (rid kind number) (live rows)
low_before kind number rows own low = all_live (λ (f : Feature). is_before f.id (rid kind number) ≡ true) rows (λ k d lt. some_before (get_or rows k d).feature kind (get_or rows k d).number number (low k d lt) (own k d lt))

pub high_behind : (kind number : ℕ) (rows : List Row) → All (IsOwn kind) rows → All (λ r. number < r.number) rows → AllBehind (rid kind number) (live rows)
high_behind kind number rows own high = all_live (λ (f : Feature). is_before (rid kind number) f.id ≡ true) rows (λ k d lt. some_behind (get_or rows k d).feature kind (get_or rows k d).number number (high k d lt) (own k d lt))

in_order_with : (feature : Option Feature) (kind n : ℕ) (fs : List Feature) → IfSome feature (λ f. f.id ≡ rid kind n) → AllBehind (rid kind n) fs → IsInOrder fs → IsInOrder (option_to_list feature ++ fs)
in_order_with None kind n fs own behind order = order
in_order_with (Some f) kind n fs own behind order = (rw own behind, order)

some_kind : (feature : Option Feature) (kind n : ℕ) → IfSome feature (λ f. f.id ≡ rid kind n) → IfSome feature (λ f. f.id.kind ≡ kind)
some_kind None kind n own = tt
some_kind (Some f) kind n own = ap (λ (id : Rid). id.kind) own

-- the features of rows of a type are of it
pub live_kind : (kind : ℕ) (rows : List Row) → All (IsOwn kind) rows → All (λ f. f.id.kind ≡ kind) (live rows)
live_kind kind rows own = all_live (λ (f : Feature). f.id.kind ≡ kind) rows (λ k d lt. some_kind (get_or rows k d).feature kind (get_or rows k d).number (own k d lt))

-- the features of rows of a type stand in order
pub live_in_order : (kind : ℕ) (rows : List Row) → AreRows kind rows → IsInOrder (live rows)
live_in_order kind [] are = tt
live_in_order kind (row ∷ rows) are =
    let own : All (IsOwn kind) rows = All-tail (IsOwn kind) row rows are.own in
    in_order_with row.feature kind row.number (live rows) (All-head (IsOwn kind) row rows are.own) (high_behind kind row.number rows own are.rising.0)
    (live_in_order kind rows (record { rising = are.rising.1; own = own }))

-- ---- the place of a number

-- rows with lesser numbers, those with this number, and rows with greater ones
pub record Parted (number : ℕ) (rows low mid high : List Row) : Type 0 where
  pub whole : rows ≡ low ++ (mid ++ high)
  pub before : All (λ r. r.number < number) low
  pub same : All (λ r. r.number ≡ number) mid
  pub behind : All (λ r. number < r.number) high

abbrev pub IsFirst : ℕ → List Row → ℕ → Type 0
IsFirst number rows i = (i ≤ length rows) × AllWithin (λ row. nat_lt row.number number ≡ true) rows 0 i × AllWithin (λ row. nat_lt row.number number ≡ false) rows i (length rows)

pub record Stands (number : ℕ) (rows : List Row) (i : ℕ) : Type 0 where
  pub row : Row
  pub within : i < length rows
  pub at : slice_get rows i ≡ Some row
  pub has : row.number ≡ number
  pub from : drop i rows ≡ row ∷ drop (i + 1) rows

pub stands : (number : ℕ) (rows : List Row) (i : ℕ) → has_number number (slice_get rows i) ≡ true → Stands number rows i
stands number [] zero h = absurd (let bad = h in cc)
stands number [] (suc i) h = absurd (let bad = h in cc)
stands number (row ∷ rows) zero h = record { row = row; within = omega arith; at = refl; has = grind (arith, nat_tests, h); from = refl }
stands number (row ∷ rows) (suc i) h =
    let more = stands number rows i h in
    record { row = more.row; within = omega (arith, more.within); at = more.at; has = more.has; from = rw add-one (rw add-one at more.from) }

first_low : (number : ℕ) (rows : List Row) (i : ℕ) → IsFirst number rows i → All (λ r. r.number < number) (take i rows)
first_low number rows i first =
    All-weaker (λ (r : Row). nat_lt r.number number ≡ true) (λ (r : Row). r.number < number) (λ r h. grind (arith, nat_tests, h)) (take i rows) (front (λ (r : Row). nat_lt r.number number ≡ true) rows i first.1 first.0)

first_high : (number : ℕ) (rows : List Row) (i : ℕ) → IsFirst number rows i → All (λ r. number ≤ r.number) (drop i rows)
first_high number rows i first =
    All-weaker (λ (r : Row). nat_lt r.number number ≡ false) (λ (r : Row). number ≤ r.number) (λ r h. grind (arith, nat_tests, h)) (drop i rows) (rest (λ (r : Row). nat_lt r.number number ≡ false) rows i first.2 first.0)

-- a row stands under the number
pub parted_with : (number : ℕ) (rows : List Row) (i : ℕ) → IsRising rows → IsFirst number rows i → (s : Stands number rows i) → Parted number rows (take i rows) (s.row ∷ []) (drop (i + 1) rows)
parted_with number rows i rising first s = record {
  whole = sym (take-append-drop i rows) ∙ ap (λ l. take i rows ++ l) s.from;
  before = first_low number rows i first;
  same = All-cons (λ (r : Row). r.number ≡ number) s.row [] s.has (All-nil (λ (r : Row). r.number ≡ number));
  behind = (let later : IsRising (s.row ∷ drop (i + 1) rows) = subst IsRising s.from (rising_drop rows i rising) in rw s.has at later.0);
}

get_drop : (rows : List Row) (i : ℕ) → slice_get rows i ≡ slice_get (drop i rows) 0
get_drop [] zero = refl
get_drop [] (suc i) = refl
get_drop (row ∷ rows) zero = refl
get_drop (row ∷ rows) (suc i) = get_drop rows i

all_more : (number : ℕ) (rows : List Row) → IsRising rows → All (λ r. number ≤ r.number) rows → has_number number (slice_get rows 0) ≡ false → All (λ r. number < r.number) rows
all_more number [] rising high h = All-nil (λ (r : Row). number < r.number)
all_more number (row ∷ rows) rising high h =
    let least : number ≤ row.number = All-head (λ (r : Row). number ≤ r.number) row rows high in
    let here : number < row.number = grind (arith, nat_tests, h, least) in
    All-cons (λ (r : Row). number < r.number) row rows here (All-weaker (Above row) (λ (r : Row). number < r.number) (λ r lt. omega (arith, here, lt)) rows rising.0)

-- no row stands under the number
pub parted_without : (number : ℕ) (rows : List Row) (i : ℕ) → IsRising rows → IsFirst number rows i → has_number number (slice_get rows i) ≡ false → Parted number rows (take i rows) [] (drop i rows)
parted_without number rows i rising first none = record {
  whole = sym (take-append-drop i rows);
  before = first_low number rows i first;
  same = All-nil (λ (r : Row). r.number ≡ number);
  behind = all_more number (drop i rows) (rising_drop rows i rising) (first_high number rows i first) (sym (ap (has_number number) (get_drop rows i)) ∙ none);
}

-- the place at which a number stands is the place of the number
pub first_of_stands : (number : ℕ) (rows : List Row) (i : ℕ) → IsRising rows → Stands number rows i → IsFirst number rows i
first_of_stands number rows i rising s =
    let here : get_or rows i s.row ≡ s.row = got rows i s.row s.at in (
      omega (arith, s.within),
      (λ k d from lt. let below : (get_or rows k d).number < (get_or rows i d).number = rising_at rows k i d rising lt s.within in let same : (get_or rows i d).number ≡ number = ap (λ (r : Row). r.number) (default rows i d s.row s.within ∙ here) ∙ s.has in grind (arith, nat_tests, below, same)),
      (λ k d from lt. let above : (get_or rows i d).number ≤ (get_or rows k d).number = not_below rows i k d (nat_lt i k) refl rising from lt in let same : (get_or rows i d).number ≡ number = ap (λ (r : Row). r.number) (default rows i d s.row s.within ∙ here) ∙ s.has in grind (arith, nat_tests, above, same)),
    )
  where
    got : (rs : List Row) (j : ℕ) (r : Row) → slice_get rs j ≡ Some r → get_or rs j r ≡ r
    got [] zero r is = refl
    got [] (suc j) r is = refl
    got (x ∷ rs) zero r is = cc
    got (x ∷ rs) (suc j) r is = got rs j r is

    default : (rs : List Row) (j : ℕ) (d e : Row) → j < length rs → get_or rs j d ≡ get_or rs j e
    default [] j d e lt = absurd (omega (arith, lt))
    default (x ∷ rs) zero d e lt = refl
    default (x ∷ rs) (suc j) d e lt = default rs j d e (omega (arith, lt))

    not_below : (rs : List Row) (j k : ℕ) (d : Row) (b : Bool) → nat_lt j k ≡ b → IsRising rs → j ≤ k → k < length rs → (get_or rs j d).number ≤ (get_or rs k d).number
    not_below rs j k d true is rising le lt = let more = rising_at rs j k d rising (grind (arith, is)) lt in omega (arith, more)
    not_below rs j k d false is rising le lt = let same : j ≡ k = grind (arith, is, le) in rw same (omega arith)

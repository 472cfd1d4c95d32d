-- A list that is sorted, and has what ties in the order of another list, is that list with each element put in its place.
use Rattle.std.proofs.Common.{◌≡◌, suc, ◌+◌, Bool, true, false, cond, not, ◌&&◌, List, [], ◌∷◌, map, filter, get_or, refl, sym, ap, subst, ◌∙◌, arith}
use Rattle.std.specs.List.{AllByRecursion}
use Rattle.std.specs.List.Sorted.{IsSortedBy, IsStableBy, ties}
use Rattle.std.specs.Cmp.{IsTotalOrder}
use Rattle.std.specs.declared.cmp.Ordering.{Ordering}
use Rattle.std.specs.declared.cmp.Ordering.TheVariants.{Less, Equal, Greater}
use Rattle.std.specs.Ordering.{ordering_reverse, is_lt, is_gt, on}
use Rattle.std.proofs.lemmas.Bool.{false≢true}
use Rattle.std.proofs.lemmas.Cmp.{upto, tied_itself, on_total}
use Rattle.std.proofs.lemmas.List.Elements.{recursion_from_All}
use Rattle.std.proofs.lemmas.List.Sorted.{ranks_by, sorted_far}
use Rattle.feature_values.specs.declared.feature.Feature.{Feature}
use Rattle.fes_filter.specs.declared.query.SortKey.{SortKey}
use Rattle.query_core.specs.declared.keyed.Keyed.{Keyed}
use Rattle.query_core.specs.Keyed.{Pair, pair_of, pair_by, pair_order}
use Rattle.query_core.specs.Sorting.{put_in, sorted, key_order, feature_order}
use Rattle.query_core.proofs.Orders.{pair_total}

-- ---- what an order says of two elements

less_back : (o : Ordering) → is_lt (ordering_reverse o) ≡ is_gt o
less_back Less = refl
less_back Equal = refl
less_back Greater = refl

greater_back : (o : Ordering) → is_gt (ordering_reverse o) ≡ is_lt o
greater_back Less = refl
greater_back Equal = refl
greater_back Greater = refl

not_both : (o : Ordering) → is_gt o ≡ true → is_lt o ≡ false
not_both Less h = sym h
not_both Equal h = refl
not_both Greater h = refl

neither : (a b : Bool) → not a && not b ≡ true → (a ≡ false) × (b ≡ false)
neither false false h = (refl, refl)
neither false true h = absurd (false≢true h)
neither true b h = absurd (false≢true h)

-- ---- lists by any order

module _ {X : Type 0} (R : X → X → Ordering) where
  abbrev pub put_by : X → List X → List X
  put_by f [] = f ∷ []
  put_by f (g ∷ gs) = cond (is_gt (R f g)) (g ∷ put_by f gs) (f ∷ g ∷ gs)

  abbrev pub sorted_by : List X → List X
  sorted_by [] = []
  sorted_by (f ∷ fs) = put_by f (sorted_by fs)

  abbrev pub UpTo : X → X → Type 0
  UpTo x y = is_gt (R x y) ≡ false

  abbrev pub Rises : List X → Type 0
  Rises [] = Unit {0}
  Rises (x ∷ xs) = AllByRecursion (UpTo x) xs × Rises xs

  abbrev pub tied : X → X → Bool
  tied x y = ties (λ a b. is_lt (R a b)) x y

  -- one more element fulfils what all do
  all_put_by : (P : X → Type 0) (f : X) (gs : List X) → P f → AllByRecursion P gs → AllByRecursion P (put_by f gs)
  all_put_by P f [] p all = (p, tt)
  all_put_by P f (g ∷ gs) p all =
      elim (is_gt (R f g)) as (λ b. AllByRecursion P (cond b (g ∷ put_by f gs) (f ∷ g ∷ gs))) [ true ↦ (all.0, all_put_by P f gs p all.1) | false ↦ (p, all) ]

  module _ (o : IsTotalOrder R) where
    turned : (x y : X) → is_lt (R y x) ≡ is_gt (R x y)
    turned x y = ap is_lt (o.antisymm y x) ∙ less_back (R x y)

    up_to_itself : (x : X) → UpTo x x
    up_to_itself x = ap is_gt (tied_itself o x)

    up_to_less : (x y : X) → is_gt (R x y) ≡ true → UpTo y x
    up_to_less x y h = ap is_gt (o.antisymm y x) ∙ greater_back (R x y) ∙ not_both (R x y) h

    all_up_to : (x y : X) (ys : List X) → UpTo x y → AllByRecursion (UpTo y) ys → AllByRecursion (UpTo x) ys
    all_up_to x y [] h all = tt
    all_up_to x y (z ∷ zs) h all = (upto o x y z h all.0, all_up_to x y zs h all.1)

    put_rises_at : (f g : X) (gs : List X) (b : Bool) → is_gt (R f g) ≡ b → Rises (g ∷ gs) → Rises (put_by f gs) → Rises (cond b (g ∷ put_by f gs) (f ∷ g ∷ gs))
    put_rises_at f g gs true is rise more = (all_put_by (UpTo g) f gs (up_to_less f g is) rise.0, more)
    put_rises_at f g gs false is rise more = ((is, all_up_to f g gs is rise.0), rise)

    put_rises : (f : X) (gs : List X) → Rises gs → Rises (put_by f gs)
    put_rises f [] rise = (tt, tt)
    put_rises f (g ∷ gs) rise = put_rises_at f g gs (is_gt (R f g)) refl rise (put_rises f gs rise.1)

    pub sorted_rises : (xs : List X) → Rises (sorted_by xs)
    sorted_rises [] = tt
    sorted_rises (x ∷ xs) = put_rises x (sorted_by xs) (sorted_rises xs)

    -- an element that is put behind another does not tie with what this one ties with
    apart : (x f g : X) → is_gt (R f g) ≡ true → tied x f ≡ true → tied x g ≡ true → ⊥
    apart x f g is tie_f tie_g =
        let up : UpTo f x = sym (turned f x) ∙ (neither _ _ tie_f).0 in
        let down : UpTo x g = sym (turned x g) ∙ (neither _ _ tie_g).1 in
        false≢true (sym (upto o f x g up down) ∙ is)

    put_stable_at : (x f g : X) (gs : List X) (b s t : Bool) → is_gt (R f g) ≡ b → tied x f ≡ s → tied x g ≡ t → filter (tied x) (put_by f gs) ≡ cond s (f ∷ filter (tied x) gs) (filter (tied x) gs) → filter (tied x) (cond b (g ∷ put_by f gs) (f ∷ g ∷ gs)) ≡ cond s (f ∷ cond t (g ∷ filter (tied x) gs) (filter (tied x) gs)) (cond t (g ∷ filter (tied x) gs) (filter (tied x) gs))
    put_stable_at x f g gs false s t is tie_f tie_g more = rw (tie_f, tie_g) refl
    put_stable_at x f g gs true true true is tie_f tie_g more = absurd (apart x f g is tie_f tie_g)
    put_stable_at x f g gs true true false is tie_f tie_g more = rw (tie_g) more
    put_stable_at x f g gs true false true is tie_f tie_g more = rw (tie_g) (ap (λ l. g ∷ l) more)
    put_stable_at x f g gs true false false is tie_f tie_g more = rw (tie_g) more

    put_stable : (x f : X) (gs : List X) → filter (tied x) (put_by f gs) ≡ filter (tied x) (f ∷ gs)
    put_stable x f [] = refl
    put_stable x f (g ∷ gs) = put_stable_at x f g gs (is_gt (R f g)) (tied x f) (tied x g) refl refl refl (put_stable x f gs)

    pub sorted_stable : (x : X) (xs : List X) → filter (tied x) (sorted_by xs) ≡ filter (tied x) xs
    sorted_stable x [] = refl
    sorted_stable x (f ∷ fs) = put_stable x f (sorted_by fs) ∙ ap (λ l. cond (tied x f) (f ∷ l) l) (sorted_stable x fs)

    tied_by : (x y : X) → UpTo x y → UpTo y x → tied x y ≡ true
    tied_by x y h k = rw (turned y x, turned x y, h, k) refl

    all_head_at : (P : X → Type 0) (x : X) (xs rest : List X) (y : X) (ys : List X) (b : Bool) → cond b (x ∷ rest) rest ≡ y ∷ ys → AllByRecursion P (x ∷ xs) → (rest ≡ y ∷ ys → P y) → P y
    all_head_at P x xs rest y ys true is all more = let e : x ≡ y = cc in subst P e all.0
    all_head_at P x xs rest y ys false is all more = more is

    all_head : (P : X → Type 0) (p : X → Bool) (xs : List X) (y : X) (ys : List X) → filter p xs ≡ y ∷ ys → AllByRecursion P xs → P y
    all_head P p [] y ys is all = cc
    all_head P p (x ∷ xs) y ys is all = all_head_at P x xs (filter p xs) y ys (p x) is all (λ e. all_head P p xs y ys e all.1)

    tied_heads : (y z : X) (ys zs : List X) → Rises (y ∷ ys) → ((x : X) → filter (tied x) (y ∷ ys) ≡ filter (tied x) (z ∷ zs)) → UpTo y z
    tied_heads y z ys zs rise same =
        let tie : tied z z ≡ true = tied_by z z (up_to_itself z) (up_to_itself z) in
        all_head (UpTo y) (tied z) (y ∷ ys) z (filter (tied z) zs) (same z ∙ rw tie refl) (up_to_itself y, rise.0)

    drop_same : (b : Bool) (y : X) (ys zs : List X) → cond b (y ∷ ys) ys ≡ cond b (y ∷ zs) zs → ys ≡ zs
    drop_same true y ys zs h = cc
    drop_same false y ys zs h = h

    pub unique : (ys zs : List X) → Rises ys → Rises zs → ((x : X) → filter (tied x) ys ≡ filter (tied x) zs) → ys ≡ zs
    unique [] [] rise_y rise_z same = refl
    unique [] (z ∷ zs) rise_y rise_z same =
        let tie : tied z z ≡ true = tied_by z z (up_to_itself z) (up_to_itself z) in
        let e : [] ≡ z ∷ filter (tied z) zs = same z ∙ rw tie refl in
        cc
    unique (y ∷ ys) [] rise_y rise_z same =
        let tie : tied y y ≡ true = tied_by y y (up_to_itself y) (up_to_itself y) in
        let e : [] ≡ y ∷ filter (tied y) ys = sym (same y) ∙ rw tie refl in
        cc
    unique (y ∷ ys) (z ∷ zs) rise_y rise_z same =
        let up : UpTo y z = tied_heads y z ys zs rise_y same in
        let down : UpTo z y = tied_heads z y zs ys rise_z (λ x. sym (same x)) in
        let tie_y : tied y y ≡ true = tied_by y y (up_to_itself y) (up_to_itself y) in
        let tie_z : tied y z ≡ true = tied_by y z up down in
        let e : y ∷ filter (tied y) ys ≡ z ∷ filter (tied y) zs = rw tie_y at (rw tie_z at (same y)) in
        let head : y ≡ z = cc in
        let rest : ys ≡ zs = unique ys zs rise_y.1 rise_z.1 (λ x. drop_same (tied x y) y _ _ (same x ∙ rw (← head) refl)) in
        cc

    -- what a sort ensures
    pub rises_from_sort : (xs : List X) → IsSortedBy (λ a b. is_lt (R a b)) xs → Rises xs
    rises_from_sort [] up = tt
    rises_from_sort (x ∷ xs) up = (
      recursion_from_All (UpTo x) xs (λ k d lt. sym (turned x (get_or xs k d)) ∙ sorted_far (λ a b. is_lt (R a b)) (ranks_by o (λ a. a)) (x ∷ xs) up 0 (suc k) d (omega arith) (omega (arith, lt))),
      rises_from_sort xs (λ k d low high. let e : suc k + 1 ≡ suc (k + 1) = omega arith in rw e at (up (suc k) d (omega arith) (omega (arith, high)))),
    )

    pub sort_is : (xs ys : List X) → IsSortedBy (λ a b. is_lt (R a b)) ys → IsStableBy (λ a b. is_lt (R a b)) xs ys → ys ≡ sorted_by xs
    sort_is xs ys up stable = unique ys (sorted_by xs) (rises_from_sort ys up) (sorted_rises xs) (λ x. stable x ∙ sym (sorted_stable x xs))

-- ---- lists that stand for others

mapped_cond : {X Y : Type 0} (g : X → Y) (b : Bool) (us vs : List X) → map g (cond b us vs) ≡ cond b (map g us) (map g vs)
mapped_cond g true us vs = refl
mapped_cond g false us vs = refl

put_step : {Y : Type 0} (b c : Bool) (y : Y) (us vs ws : List Y) → b ≡ c → us ≡ vs → cond b (y ∷ us) ws ≡ cond c (y ∷ vs) ws
put_step b c y us vs ws same more = rw (same, more) refl

module _ {X Y : Type 0} (g : X → Y) (R : X → X → Ordering) (S : Y → Y → Ordering) (same : (a b : X) → R a b ≡ S (g a) (g b)) where
  put_as : (f : X) (gs : List X) → map g (put_by R f gs) ≡ put_by S (g f) (map g gs)
  put_as f [] = refl
  put_as f (x ∷ xs) =
      mapped_cond g (is_gt (R f x)) (x ∷ put_by R f xs) (f ∷ x ∷ xs)
      ∙ put_step (is_gt (R f x)) (is_gt (S (g f) (g x))) (g x) (map g (put_by R f xs)) (put_by S (g f) (map g xs)) (g f ∷ g x ∷ map g xs) (ap is_gt (same f x)) (put_as f xs)

  pub sorted_as : (xs : List X) → map g (sorted_by R xs) ≡ sorted_by S (map g xs)
  sorted_as [] = refl
  sorted_as (x ∷ xs) = put_as x (sorted_by R xs) ∙ ap (put_by S (g x)) (sorted_as xs)

-- ---- features

put_is : (keys : List SortKey) (f : Feature) (gs : List Feature) → put_by (feature_order keys) f gs ≡ put_in keys f gs
unfolding put_in
put_is keys f [] = refl
put_is keys f (g ∷ gs) = put_step (is_gt (feature_order keys f g)) (is_gt (feature_order keys f g)) g (put_by (feature_order keys) f gs) (put_in keys f gs) (f ∷ g ∷ gs) refl (put_is keys f gs)

sorted_in : (keys : List SortKey) (fs : List Feature) → sorted_by (feature_order keys) fs ≡ sorted keys fs
unfolding sorted
sorted_in keys [] = refl
sorted_in keys (f ∷ fs) = put_is keys f (sorted_by (feature_order keys) fs) ∙ ap (put_in keys f) (sorted_in keys fs)

pair_same : (keys : List SortKey) (f g : Feature) → feature_order keys f g ≡ pair_order keys (pair_by keys f) (pair_by keys g)
unfolding feature_order pair_order key_order
pair_same [] f g = refl
pair_same (key ∷ keys) f g = refl

pub pairs_by : {X : Type 0} (now : X → Feature) (keys : List SortKey) (fs : List X) → map (λ f. pair_by keys (now f)) fs ≡ map (pair_by keys) (map now fs)
pairs_by now keys [] = refl
pairs_by now keys (f ∷ fs) = ap (λ l. pair_by keys (now f) ∷ l) (pairs_by now keys fs)

seconds : (keys : List SortKey) (fs : List Feature) → map (λ (p : Pair). p.1) (map (pair_by keys) fs) ≡ fs
seconds keys [] = refl
seconds keys (f ∷ fs) = ap (λ l. f ∷ l) (seconds keys fs)

features_in : (all : List Keyed) → map (λ (k : Keyed). k.feature.now) all ≡ map (λ (p : Pair). p.1) (map pair_of all)
features_in [] = refl
features_in (k ∷ ks) = ap (λ l. k.feature.now ∷ l) (features_in ks)

-- what a sort of features beside their first values ensures
pub keyed_sorted : (keys : List SortKey) (fs : List Feature) (xs ys : List Keyed) → map pair_of xs ≡ map (pair_by keys) fs → IsSortedBy (λ a b. is_lt (pair_order keys (pair_of a) (pair_of b))) ys → IsStableBy (λ a b. is_lt (pair_order keys (pair_of a) (pair_of b))) xs ys → map (λ (k : Keyed). k.feature.now) ys ≡ sorted keys fs
keyed_sorted keys fs xs ys beside up stable =
    let by_pairs : map pair_of ys ≡ map (pair_by keys) (sorted keys fs) =
    ap (map pair_of) (sort_is (on pair_of (pair_order keys)) (on_total pair_of (pair_total keys)) xs ys up stable)
    ∙ sorted_as pair_of (on pair_of (pair_order keys)) (pair_order keys) (λ a b. refl) xs
    ∙ ap (sorted_by (pair_order keys)) beside
    ∙ sym (sorted_as (pair_by keys) (feature_order keys) (pair_order keys) (pair_same keys) fs)
    ∙ ap (map (pair_by keys)) (sorted_in keys fs) in
    features_in ys ∙ ap (map (λ (p : Pair). p.1)) by_pairs ∙ seconds keys (sorted keys fs)

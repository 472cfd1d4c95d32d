-- Where a feature stands among features in order, and what is laid there.
use Rattle.std.proofs.Common.{◌≡◌, ℕ, zero, suc, ◌+◌, ◌<◌, ◌≤◌, Bool, true, false, List, [], ◌∷◌, ◌++◌, length, get_or, take, drop, set, filter, length-take, length-drop, nat_lt, All, Option, Some, None, refl, sym, ap, ◌∙◌, subst, add-one, arith}
use Rattle.std.specs.Prelude.{slice_get, slice_set, if◌then◌else◌}
use Rattle.std.specs.List.{AllWithin}
use Rattle.std.specs.List.Sorted.{IsPartitionedBy}
use Rattle.std.specs.Option.{option_to_list}
use Rattle.std.proofs.lemmas.List.{get_or-take, get_or-drop, take-append-drop, at_drop_more, take-set, drop-set}
use Rattle.std.proofs.lemmas.List.Elements.{All-nil, All-cons, All-head, All-tail, All-weaker}
use Rattle.feature_values.specs.declared.feature.Feature.{Feature}
use Rattle.feature_values.specs.declared.feature.Rid.{Rid}
use Rattle.fes_filter.specs.View.{is_same, is_before, IsInOrder, feature_at, next_after}
use Rattle.feature_overlay.specs.Laid.{laid}
use Rattle.feature_overlay.proofs.Ordered.{Before, before_trans, from_apart, not_both, same_is}
use Rattle.wfs_model.proofs.Middle.{append_none, middle_laid}
use Rattle.wfs_machine.specs.Ordered.{has_id}

-- ---- identifiers

not_same_before : (a b : Rid) → is_before a b ≡ true → is_same a b ≡ false
not_same_before a b h = grind (arith, h)

not_same_behind : (a b : Rid) → is_before b a ≡ true → is_same a b ≡ false
not_same_behind a b h = grind (arith, h)

not_behind_same : (a b : Rid) → is_same a b ≡ true → is_before b a ≡ false
not_behind_same a b h = grind (arith, h)

not_behind_before : (a b : Rid) → is_before a b ≡ true → is_before b a ≡ false
not_behind_before a b h = grind (arith, h)

behind_from : (a b c : Rid) → is_before a b ≡ false → is_before a c ≡ true → is_before b c ≡ true
behind_from a b c h g = grind (arith, h, g)

-- ---- places

first_before : (f : Feature) (fs : List Feature) (j : ℕ) (d : Feature) → All (Before f) fs → j < length fs → is_before f.id (get_or fs j d).id ≡ true
first_before f fs j d all lt = all j d lt

in_order_at : (fs : List Feature) (i j : ℕ) (d : Feature) → IsInOrder fs → i < j → j < length fs → is_before (get_or fs i d).id (get_or fs j d).id ≡ true
in_order_at [] i j d order lt within = absurd (omega (arith, within))
in_order_at (f ∷ fs) i zero d order lt within = absurd (omega (arith, lt))
in_order_at (f ∷ fs) zero (suc j) d order lt within = order.0 j d (omega (arith, within))
in_order_at (f ∷ fs) (suc i) (suc j) d order lt within = in_order_at fs i j d order.1 (omega (arith, lt)) (omega (arith, within))

parted_at : (fs : List Feature) (id : Rid) (i j : ℕ) (d : Feature) (b : Bool) → nat_lt i j ≡ b → IsInOrder fs → i ≤ j → j < length fs → is_before (get_or fs j d).id id ≡ true → is_before (get_or fs i d).id id ≡ true
parted_at fs id i j d true is order le lt holds = before_trans (get_or fs i d).id (get_or fs j d).id id (in_order_at fs i j d order (grind (arith, is)) lt) holds
parted_at fs id i j d false is order le lt holds = let same : i ≡ j = grind (arith, is, le) in rw same holds

pub is_parted : (fs : List Feature) (id : Rid) → IsInOrder fs → IsPartitionedBy (λ f. is_before f.id id) fs
is_parted fs id order i j d le lt holds = parted_at fs id i j d (nat_lt i j) refl order le lt holds

-- ---- what stands before a place, and from it on

pub front : (P : Feature → Type 0) (fs : List Feature) (i : ℕ) → AllWithin P fs 0 i → i ≤ length fs → All P (take i fs)
front P fs i all le k d lt =
    let within : k < i = grind (arith, lt, length-take i fs) in
    subst P (sym (get_or-take i fs k d within)) (all k d (omega arith) within)

pub rest : (P : Feature → Type 0) (fs : List Feature) (i : ℕ) → AllWithin P fs i (length fs) → i ≤ length fs → All P (drop i fs)
rest P fs i all le k d lt =
    let within : i + k < length fs = grind (arith, lt, le, length-drop i fs) in
    subst P (sym (get_or-drop i fs k d)) (all (i + k) d (omega arith) within)

-- ---- what is laid between features

module _ (p : Feature → Bool) where
  keeps_all : (fs gs : List Feature) → All (λ f. p f ≡ true) fs → filter p (fs ++ gs) ≡ fs ++ filter p gs
  keeps_all [] gs all = refl
  keeps_all (f ∷ fs) gs all = rw (All-head (λ (g : Feature). p g ≡ true) f fs all) (ap (λ l. f ∷ l) (keeps_all fs gs (All-tail (λ (g : Feature). p g ≡ true) f fs all)))

  keeps_none : (fs gs : List Feature) → All (λ f. p f ≡ false) fs → filter p (fs ++ gs) ≡ filter p gs
  keeps_none [] gs all = refl
  keeps_none (f ∷ fs) gs all = rw (All-head (λ (g : Feature). p g ≡ false) f fs all) (keeps_none fs gs (All-tail (λ (g : Feature). p g ≡ false) f fs all))

kept_whole : (p : Feature → Bool) (fs : List Feature) → All (λ f. p f ≡ true) fs → filter p fs ≡ fs
kept_whole p fs all = sym (ap (filter p) (append_none fs)) ∙ keeps_all p fs [] all ∙ append_none fs

kept_not : (p : Feature → Bool) (fs : List Feature) → All (λ f. p f ≡ false) fs → filter p fs ≡ []
kept_not p fs all = sym (ap (filter p) (append_none fs)) ∙ keeps_none p fs [] all

not_back : (a b : Rid) (c : Bool) → is_before b a ≡ c → is_before a b ≡ true → is_before b a ≡ false
not_back a b true is h = absurd (not_both a b h is)
not_back a b false is h = is

pub gap_laid : (before fs : List Feature) (id : Rid) (now : Option Feature) → All (λ f. is_before f.id id ≡ true) before → All (λ f. is_before id f.id ≡ true) fs → laid (before ++ fs) id now ≡ before ++ (option_to_list now ++ fs)
unfolding laid
gap_laid before fs id now first last =
    let earlier : filter (λ (f : Feature). is_before f.id id) (before ++ fs) ≡ before =
    keeps_all (λ (f : Feature). is_before f.id id) before fs first
    ∙ ap (λ l. before ++ l) (kept_not (λ (f : Feature). is_before f.id id) fs (All-weaker (λ (f : Feature). is_before id f.id ≡ true) (λ (f : Feature). is_before f.id id ≡ false) (λ f h. not_back id f.id (is_before f.id id) refl h) fs last)) ∙ append_none before in
    let later : filter (λ (f : Feature). is_before id f.id) (before ++ fs) ≡ fs =
    keeps_none (λ (f : Feature). is_before id f.id) before fs (All-weaker (λ (f : Feature). is_before f.id id ≡ true) (λ (f : Feature). is_before id f.id ≡ false) (λ f h. not_back f.id id (is_before id f.id) refl h) before first)
    ∙ kept_whole (λ (f : Feature). is_before id f.id) fs last in
    rw (earlier, later) refl

-- ---- the feature at a place

-- all from a place on are behind the identifier, where the first of them does not have it
pub behind : (fs : List Feature) (id : Rid) → IsInOrder fs → All (λ f. is_before f.id id ≡ false) fs → ((f : Feature) (gs : List Feature) → fs ≡ f ∷ gs → is_same f.id id ≡ false) → All (λ f. is_before id f.id ≡ true) fs
behind [] id order not_before other = All-nil (λ (f : Feature). is_before id f.id ≡ true)
behind (f ∷ fs) id order not_before other =
    let here : is_before id f.id ≡ true = from_apart f.id id (other f fs refl) (All-head (λ (g : Feature). is_before g.id id ≡ false) f fs not_before) in
    All-cons (λ (g : Feature). is_before id g.id ≡ true) f fs here (All-weaker (Before f) (λ (g : Feature). is_before id g.id ≡ true) (λ g h. before_trans id f.id g.id here h) fs order.0)

-- what stands from a place on
split : (fs : List Feature) (i : ℕ) → fs ≡ take i fs ++ drop i fs
split fs i = sym (take-append-drop i fs)

drop_at : (fs : List Feature) (i : ℕ) (f : Feature) → i < length fs → f ≡ get_or fs i f → drop i fs ≡ f ∷ drop (i + 1) fs
drop_at fs i f lt is = at_drop_more (λ (l : List Feature). l) fs i f lt ∙ ap (λ (x : Feature). x ∷ drop (i + 1) fs) (sym is)

order_drop : (fs : List Feature) (i : ℕ) → IsInOrder fs → IsInOrder (drop i fs)
order_drop [] zero order = order
order_drop [] (suc i) order = order
order_drop (f ∷ fs) zero order = order
order_drop (f ∷ fs) (suc i) order = order_drop fs i order.1

first_of : (fs : List Feature) (i : ℕ) (f : Feature) (gs : List Feature) → drop i fs ≡ f ∷ gs → (i < length fs) × (f ≡ get_or fs i f)
first_of [] zero f gs is = absurd (let bad = is in cc)
first_of [] (suc i) f gs is = absurd (let bad = is in cc)
first_of (g ∷ fs) zero f gs is = (omega arith, (let same : g ≡ f = cc in sym same))
first_of (g ∷ fs) (suc i) f gs is = let found = first_of fs i f gs is in (omega (arith, found.0), found.1)

other_first : (fs : List Feature) (id : Rid) (i : ℕ) (f : Feature) (gs : List Feature) → drop i fs ≡ f ∷ gs → ((g : Feature) → i < length fs → g ≡ get_or fs i g → is_same g.id id ≡ false) → is_same f.id id ≡ false
other_first fs id i f gs is other = let found = first_of fs i f gs is in other f found.0 found.1

-- no feature has the identifier, where the one at its place has it not: what is laid stands between
pub between : (fs : List Feature) (id : Rid) (i : ℕ) (now : Option Feature) → IsInOrder fs → i ≤ length fs → AllWithin (λ f. is_before f.id id ≡ true) fs 0 i → AllWithin (λ f. is_before f.id id ≡ false) fs i (length fs)
    → ((f : Feature) → i < length fs → f ≡ get_or fs i f → is_same f.id id ≡ false) → laid fs id now ≡ take i fs ++ (option_to_list now ++ drop i fs)
between fs id i now order le low high other =
    let last : All (λ f. is_before f.id id ≡ false) (drop i fs) = rest (λ (f : Feature). is_before f.id id ≡ false) fs i high le in
    let tail_order : IsInOrder (drop i fs) = order_drop fs i order in
    let after : All (λ f. is_before id f.id ≡ true) (drop i fs) = behind (drop i fs) id tail_order last (λ f gs is. other_first fs id i f gs is other) in
    ap (λ (l : List Feature). laid l id now) (split fs i) ∙ gap_laid (take i fs) (drop i fs) id now (front (λ (f : Feature). is_before f.id id ≡ true) fs i low le) after

-- the feature at the place has the identifier: what is laid stands in its place
pub instead_of : (fs : List Feature) (i : ℕ) (f : Feature) (now : Option Feature) → IsInOrder fs → i < length fs → f ≡ get_or fs i f → laid fs f.id now ≡ take i fs ++ (option_to_list now ++ drop (i + 1) fs)
instead_of fs i f now order lt is =
    let whole : fs ≡ take i fs ++ f ∷ drop (i + 1) fs = split fs i ∙ ap (λ (l : List Feature). take i fs ++ l) (drop_at fs i f lt is) in
    ap (λ (l : List Feature). laid l f.id now) whole ∙ middle_laid (take i fs) f (drop (i + 1) fs) now (subst (λ (l : List Feature). IsInOrder l) whole order)

-- a feature takes the place of the one with its identifier
pub set_is : (fs : List Feature) (g f : Feature) (i : ℕ) → IsInOrder fs → i < length fs → f ≡ get_or fs i f → is_same f.id g.id ≡ true → set fs i g ≡ laid fs g.id (Some g)
set_is fs g f i order lt is same =
    sym (take-append-drop i (set fs i g)) ∙ ap (λ l. l ++ drop i (set fs i g)) (take-set fs i g) ∙ ap (λ l. take i fs ++ l) (drop-set fs i g lt)
    ∙ sym (instead_of fs i f (Some g) order lt is) ∙ ap (λ (id : Rid). laid fs id (Some g)) (same_is f.id g.id same)

-- ---- the feature at the place of an identifier

abbrev pub IsFirst : Rid → List Feature → ℕ → Type 0
IsFirst id fs i = AllWithin (λ f. is_before f.id id ≡ true) fs 0 i × AllWithin (λ f. is_before f.id id ≡ false) fs i (length fs)

shifted : (f : Feature) (fs : List Feature) (id : Rid) (i : ℕ) → IsFirst id (f ∷ fs) (suc i) → IsFirst id fs i
shifted f fs id i first = (λ k d from lt. first.0 (suc k) d (omega arith) (omega (arith, lt)), λ k d from lt. first.1 (suc k) d (omega (arith, from)) (omega (arith, lt)))

head_before : (f : Feature) (fs : List Feature) (id : Rid) (i : ℕ) → IsFirst id (f ∷ fs) (suc i) → is_before f.id id ≡ true
head_before f fs id i first = first.0 0 f (omega arith) (omega arith)

head_not : (f : Feature) (fs : List Feature) (id : Rid) → IsFirst id (f ∷ fs) 0 → is_before f.id id ≡ false
head_not f fs id first = first.1 0 f (omega arith) (omega arith)

none_same : (fs : List Feature) (id : Rid) → All (λ f. is_before id f.id ≡ true) fs → feature_at id fs ≡ None
none_same [] id all = refl
none_same (f ∷ fs) id all = rw (not_same_behind f.id id (All-head (λ (g : Feature). is_before id g.id ≡ true) f fs all)) (none_same fs id (All-tail (λ (g : Feature). is_before id g.id ≡ true) f fs all))

-- all that follow a feature which is not before an identifier are behind it
follow : (f : Feature) (fs : List Feature) (id : Rid) → IsInOrder (f ∷ fs) → is_before f.id id ≡ false → All (λ g. is_before id g.id ≡ true) fs
follow f fs id order not_before = All-weaker (Before f) (λ (g : Feature). is_before id g.id ≡ true) (λ g h. behind_from f.id id g.id not_before h) fs order.0

at_head : (b : Bool) (f : Feature) (fs : List Feature) (id : Rid) → is_same f.id id ≡ b → All (λ g. is_before id g.id ≡ true) fs → feature_at id (f ∷ fs) ≡ (if b then Some f else None)
at_head true f fs id is all = rw is refl
at_head false f fs id is all = rw is (none_same fs id all)

pub found_at : (fs : List Feature) (id : Rid) (i : ℕ) → IsInOrder fs → IsFirst id fs i → feature_at id fs ≡ (if has_id id (slice_get fs i) then slice_get fs i else None)
found_at [] id zero order first = refl
found_at [] id (suc i) order first = refl
found_at (f ∷ fs) id zero order first = at_head (is_same f.id id) f fs id refl (follow f fs id order (head_not f fs id first))
found_at (f ∷ fs) id (suc i) order first = rw (not_same_before f.id id (head_before f fs id i first)) (found_at fs id i order.1 (shifted f fs id i first))

first_after : (fs : List Feature) (id : Rid) → All (λ g. is_before id g.id ≡ true) fs → next_after (Some id) fs ≡ slice_get fs 0
first_after [] id all = refl
first_after (f ∷ fs) id all = rw (All-head (λ (g : Feature). is_before id g.id ≡ true) f fs all) refl

behind_head : (b : Bool) (f : Feature) (fs : List Feature) (id : Rid) → is_same f.id id ≡ b → is_before f.id id ≡ false → All (λ g. is_before id g.id ≡ true) fs → next_after (Some id) (f ∷ fs) ≡ (if b then slice_get fs 0 else Some f)
behind_head true f fs id is not_before all = rw (not_behind_same f.id id is) (first_after fs id all)
behind_head false f fs id is not_before all = rw (from_apart f.id id is not_before) refl

behind_at : (fs : List Feature) (id : Rid) (i : ℕ) → IsInOrder fs → IsFirst id fs i → next_after (Some id) fs ≡ (if has_id id (slice_get fs i) then slice_get fs (suc i) else slice_get fs i)
behind_at [] id zero order first = refl
behind_at [] id (suc i) order first = refl
behind_at (f ∷ fs) id zero order first = behind_head (is_same f.id id) f fs id refl (head_not f fs id first) (follow f fs id order (head_not f fs id first))
behind_at (f ∷ fs) id (suc i) order first = rw (not_behind_before f.id id (head_before f fs id i first)) (behind_at fs id i order.1 (shifted f fs id i first))

pub behind_is : (fs : List Feature) (id : Rid) (i : ℕ) → IsInOrder fs → IsFirst id fs i → next_after (Some id) fs ≡ (if has_id id (slice_get fs i) then slice_get fs (i + 1) else slice_get fs i)
behind_is fs id i order first = rw add-one (behind_at fs id i order first)

-- ---- what is laid at a place

pub record Stands (fs : List Feature) (id : Rid) (i : ℕ) : Type 0 where
  pub feature : Feature
  pub within : i < length fs
  pub is : feature ≡ get_or fs i feature
  pub same : is_same feature.id id ≡ true

stands : (fs : List Feature) (id : Rid) (i : ℕ) → has_id id (slice_get fs i) ≡ true → Stands fs id i
stands [] id zero h = absurd (let bad = h in cc)
stands [] id (suc i) h = absurd (let bad = h in cc)
stands (f ∷ fs) id zero h = record { feature = f; within = omega arith; is = refl; same = h }
stands (f ∷ fs) id (suc i) h = let below = stands fs id i h in record { feature = below.feature; within = omega (arith, below.within); is = below.is; same = below.same }

stands_not : (fs : List Feature) (id : Rid) (i : ℕ) → has_id id (slice_get fs i) ≡ false → (f : Feature) → i < length fs → f ≡ get_or fs i f → is_same f.id id ≡ false
stands_not [] id i h f lt is = absurd (omega (arith, lt))
stands_not (g ∷ fs) id zero h f lt is = subst (λ (x : Feature). is_same x.id id ≡ false) (sym is) h
stands_not (g ∷ fs) id (suc i) h f lt is = stands_not fs id i h f (omega (arith, lt)) is

pub put_there : (fs : List Feature) (g : Feature) (i : ℕ) → IsInOrder fs → has_id g.id (slice_get fs i) ≡ true → slice_set fs i g ≡ laid fs g.id (Some g)
put_there fs g i order h = let at = stands fs g.id i h in set_is fs g at.feature i order at.within at.is at.same

pub put_between : (fs : List Feature) (g : Feature) (i : ℕ) → IsInOrder fs → i ≤ length fs → IsFirst g.id fs i → has_id g.id (slice_get fs i) ≡ false → take i fs ++ g ∷ drop i fs ≡ laid fs g.id (Some g)
put_between fs g i order le first h = sym (between fs g.id i (Some g) order le first.0 first.1 (stands_not fs g.id i h))

pub removed : (fs : List Feature) (id : Rid) (i : ℕ) → IsInOrder fs → has_id id (slice_get fs i) ≡ true → take i fs ++ drop (i + 1) fs ≡ laid fs id None
removed fs id i order h =
    let at = stands fs id i h in
    sym (instead_of fs i at.feature None order at.within at.is) ∙ ap (λ (other : Rid). laid fs other None) (same_is at.feature.id id at.same)

pub not_there : (fs : List Feature) (id : Rid) (i : ℕ) → IsInOrder fs → i ≤ length fs → IsFirst id fs i → has_id id (slice_get fs i) ≡ false → fs ≡ laid fs id None
not_there fs id i order le first h = split fs i ∙ sym (between fs id i None order le first.0 first.1 (stands_not fs id i h))

not_before_same : (a b : Rid) → is_same a b ≡ true → is_before a b ≡ false
not_before_same a b h = grind (arith, h)

pub behind_there : (fs : List Feature) (id : Rid) (i : ℕ) → IsInOrder fs → has_id id (slice_get fs i) ≡ true → next_after (Some id) fs ≡ slice_get fs (suc i)
behind_there [] id zero order h = absurd (let bad = h in cc)
behind_there [] id (suc i) order h = absurd (let bad = h in cc)
behind_there (f ∷ fs) id zero order h = behind_head true f fs id h (not_before_same f.id id h) (follow f fs id order (not_before_same f.id id h))
behind_there (f ∷ fs) id (suc i) order h =
    let at = stands fs id i h in
    let reached : is_before f.id (get_or fs i at.feature).id ≡ true = order.0 i at.feature at.within in
    let earlier : is_before f.id id ≡ true = subst (λ (other : Rid). is_before f.id other ≡ true) (ap (λ (g : Feature). g.id) (sym at.is) ∙ same_is at.feature.id id at.same) reached in
    rw (not_behind_before f.id id earlier) (behind_there fs id i order.1 h)

pub behind_before : (fs : List Feature) (id : Rid) (before place : ℕ) → IsInOrder fs → place ≡ suc before → has_id id (slice_get fs before) ≡ true → slice_get fs place ≡ next_after (Some id) fs
behind_before fs id before place order is h = rw is (sym (behind_there fs id before order h))

-- A walk over features in order, each found behind the one before.
use Rattle.std.proofs.Common.{◌≡◌, ◌<◌, Bool, true, false, cond, ◌&&◌, ◌||◌, ◌==◌, nat_lt, List, [], ◌∷◌, ◌++◌, length, filter, map, All, IsTrue, Option, Some, None, slice_get, find, refl, sym, ap, ◌∙◌, append_assoc, append-nil, arith}
use Rattle.std.specs.declared.cmp.Ordering.{Ordering}
use Rattle.std.specs.declared.cmp.Ordering.TheVariants.{Less, Equal, Greater}
use Rattle.std.specs.Ordering.{ordering_then, ordering_reverse, nat_cmp, is_lt}
use Rattle.std.proofs.lemmas.Bool.{false≢true}
use Rattle.std.proofs.lemmas.Cmp.{tied_itself}
use Rattle.std.proofs.lemmas.List.{map-append}
use Rattle.std.proofs.lemmas.List.Elements.{All-filter, All-head, All-tail, All-same, All-weaker}
use Rattle.feature_values.specs.declared.feature.Feature.{Feature}
use Rattle.feature_values.specs.declared.feature.Rid.{Rid}
use Rattle.fes_filter.specs.View.{is_before, IsInOrder, next_after}
use Rattle.query_core.specs.Sorting.{rid_order}
use Rattle.query_core.proofs.Orders.{rid_total}

-- ---- the default order

less_at : (b e : Bool) → is_lt (cond b Less (cond e Equal Greater)) ≡ b
less_at true e = refl
less_at false true = refl
less_at false false = refl

before_at : (b e q : Bool) (o : Ordering) → is_lt o ≡ q → (b || (e && q)) ≡ is_lt (ordering_then (cond b Less (cond e Equal Greater)) o)
before_at true e q o is = refl
before_at false true q o is = sym is
before_at false false q o is = refl

pub before_is : (a b : Rid) → is_before a b ≡ is_lt (rid_order a b)
unfolding rid_order
before_is a b = before_at (nat_lt a.kind b.kind) (a.kind == b.kind) (nat_lt a.number b.number) (nat_cmp a.number b.number) (less_at (nat_lt a.number b.number) (a.number == b.number))

is_less : (o : Ordering) → is_lt o ≡ true → o ≡ Less
is_less Less h = refl
is_less Equal h = absurd (false≢true h)
is_less Greater h = absurd (false≢true h)

pub less : (a b : Rid) → is_before a b ≡ true → rid_order a b ≡ Less
less a b h = is_less (rid_order a b) (sym (before_is a b) ∙ h)

pub before_trans : (a b c : Rid) → is_before a b ≡ true → is_before b c ≡ true → is_before a c ≡ true
before_trans a b c h k = before_is a c ∙ ap is_lt (rid_total.trans a b c (less a b h) (less b c k))

pub not_before_itself : (a : Rid) → is_before a a ≡ false
not_before_itself a = before_is a a ∙ ap is_lt (tied_itself rid_total a)

pub not_back : (a b : Rid) → is_before a b ≡ true → is_before b a ≡ false
not_back a b h = before_is b a ∙ ap is_lt (rid_total.antisymm b a ∙ ap ordering_reverse (less a b h))

-- ---- what is behind an identifier

abbrev pub behind : Option Rid → List Feature → List Feature
behind None features = features
behind (Some id) features = filter (λ f. is_before id f.id) features

pub all_pass : {X : Type 0} (p : X → Bool) (xs : List X) → All (λ x. IsTrue (p x)) xs → filter p xs ≡ xs
all_pass p [] all = refl
all_pass p (x ∷ xs) all = rw (All-head (λ y. p y ≡ true) x xs all) (ap (λ l. x ∷ l) (all_pass p xs (All-tail (λ y. p y ≡ true) x xs all)))

behind_first : (g : Feature) (gs : List Feature) → IsInOrder (g ∷ gs) → gs ≡ behind (Some g.id) (g ∷ gs)
behind_first g gs order = rw (not_before_itself g.id) (sym (all_pass (λ f. is_before g.id f.id) gs order.0))

behind_at : (id : Rid) (g : Feature) (gs : List Feature) (f : Feature) (rest : List Feature) (b : Bool) → is_before id g.id ≡ b → IsInOrder (g ∷ gs) → (filter (λ h. is_before id h.id) gs ≡ f ∷ rest → rest ≡ filter (λ h. is_before f.id h.id) gs) → cond b (g ∷ filter (λ h. is_before id h.id) gs) (filter (λ h. is_before id h.id) gs) ≡ f ∷ rest → rest ≡ behind (Some f.id) (g ∷ gs)
behind_at id g gs f rest true is order more at =
    let head : g ≡ f = cc in
    let tail : filter (λ h. is_before id h.id) gs ≡ rest = cc in
    let all = all_pass (λ h. is_before id h.id) gs (All-weaker (λ h. is_before g.id h.id ≡ true) (λ h. is_before id h.id ≡ true) (λ h k. before_trans id g.id h.id is k) gs order.0) in
    sym tail ∙ all ∙ behind_first g gs order ∙ ap (λ (x : Feature). behind (Some x.id) (g ∷ gs)) head
behind_at id g gs f rest false is order more at =
    let past : All (λ h. is_before g.id h.id ≡ true) (f ∷ rest) = All-same (λ h. is_before g.id h.id ≡ true) (f ∷ rest) (filter (λ h. is_before id h.id) gs) (sym at) (All-filter (λ h. is_before id h.id) (λ h. is_before g.id h.id ≡ true) gs order.0) in
    more at ∙ rw (not_back g.id f.id (All-head (λ h. is_before g.id h.id ≡ true) f rest past)) refl

behind_step : (id : Rid) (fs : List Feature) (f : Feature) (rest : List Feature) → IsInOrder fs → behind (Some id) fs ≡ f ∷ rest → rest ≡ behind (Some f.id) fs
behind_step id [] f rest order at = cc
behind_step id (g ∷ gs) f rest order at = behind_at id g gs f rest (is_before id g.id) refl order (behind_step id gs f rest order.1) at

find_at : {X : Type 0} (b : Bool) (x : X) (found : Option X) (l : List X) → found ≡ slice_get l 0 → cond b (Some x) found ≡ slice_get (cond b (x ∷ l) l) 0
find_at true x found l is = refl
find_at false x found l is = is

find_is : {X : Type 0} (p : X → Bool) (xs : List X) → find p xs ≡ slice_get (filter p xs) 0
find_is p [] = refl
find_is p (x ∷ xs) = find_at (p x) x (find p xs) (filter p xs) (find_is p xs)

-- the next feature is the first of those behind, and behind it are the others
split_first : {X : Type 0} (xs : List X) (x : X) → Some x ≡ slice_get xs 0 → {P : Type 0} → ((rest : List X) → xs ≡ x ∷ rest → P) → P
split_first [] x at k = cc
split_first (y ∷ ys) x at k = let e : y ≡ x = cc in k ys (ap (λ z. z ∷ ys) e)

none_left : {X : Type 0} (xs : List X) → None ≡ slice_get xs 0 → xs ≡ []
none_left [] at = refl
none_left (y ∷ ys) at = cc

first_and_behind : (fs : List Feature) (f : Feature) (rest : List Feature) → IsInOrder fs → fs ≡ f ∷ rest → fs ≡ f ∷ behind (Some f.id) fs
first_and_behind [] f rest order is = cc
first_and_behind (g ∷ gs) f rest order is = let e : g ≡ f = cc in ap (λ l. g ∷ l) (behind_first g gs order) ∙ ap (λ (x : Feature). x ∷ behind (Some x.id) (g ∷ gs)) e

pub next_found : (after : Option Rid) (fs : List Feature) (f : Feature) → IsInOrder fs → Some f ≡ next_after after fs → behind after fs ≡ f ∷ behind (Some f.id) fs
next_found None fs f order at = split_first fs f at (λ rest is. first_and_behind fs f rest order is)
next_found (Some id) fs f order at =
    split_first (behind (Some id) fs) f (at ∙ find_is (λ h. is_before id h.id) fs) (λ rest is. is ∙ ap (λ l. f ∷ l) (behind_step id fs f rest order is))

pub next_none : (after : Option Rid) (fs : List Feature) → None ≡ next_after after fs → behind after fs ≡ []
next_none None fs at = none_left fs at
next_none (Some id) fs at = none_left (behind (Some id) fs) (at ∙ find_is (λ h. is_before id h.id) fs)

-- ---- what was found

-- what was found, and what is still to be found among the features behind an identifier, is all
abbrev pub Walked : {X : Type 0} → (X → Feature) → (Feature → Bool) → List Feature → List X → Option Rid → Type 0
Walked now test features found after = map now found ++ filter test (behind after features) ≡ filter test features

pub walk_takes : {X : Type 0} (now : X → Feature) (test : Feature → Bool) (features : List Feature) (found : List X) (after : Option Rid) (f : X) → IsInOrder features → Some (now f) ≡ next_after after features → test (now f) ≡ true → Walked now test features found after → Walked now test features (found ++ f ∷ []) (Some (now f).id)
walk_takes now test features found after f order at passes so_far =
    let step = next_found after features (now f) order at in
    let before : map now found ++ now f ∷ filter test (behind (Some (now f).id) features) ≡ filter test features = sym (ap (λ l. map now found ++ filter test l) step ∙ rw passes refl) ∙ so_far in
    rw (map-append, append_assoc) before

pub walk_passes : {X : Type 0} (now : X → Feature) (test : Feature → Bool) (features : List Feature) (found : List X) (after : Option Rid) (f : Feature) → IsInOrder features → Some f ≡ next_after after features → test f ≡ false → Walked now test features found after → Walked now test features found (Some f.id)
walk_passes now test features found after f order at fails so_far =
    let step = next_found after features f order at in
    sym (ap (λ l. map now found ++ filter test l) step ∙ rw fails refl) ∙ so_far

pub walk_ends : {X : Type 0} (now : X → Feature) (test : Feature → Bool) (features : List Feature) (found : List X) (after : Option Rid) → None ≡ next_after after features → Walked now test features found after → map now found ≡ filter test features
walk_ends now test features found after at so_far =
    sym (ap (λ l. map now found ++ filter test l) (next_none after features at) ∙ append-nil (map now found)) ∙ so_far

pub walk_falls : (features : List Feature) (after : Option Rid) (f : Feature) → IsInOrder features → Some f ≡ next_after after features → length (behind (Some f.id) features) < length (behind after features)
walk_falls features after f order at = omega (arith, ap length (next_found after features f order at))

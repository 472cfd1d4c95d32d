-- Where a walk of the features of a type may begin and end.
use Rattle.std.proofs.Common.{◌≡◌, ℕ, ◌≤◌, ◌-◌, Bool, true, false, cond, ◌&&◌, ◌||◌, ◌==◌, nat_lt, List, [], ◌∷◌, ◌++◌, filter, map, All, get_or, Option, Some, None, refl, sym, ap, ◌∙◌, arith, append-nil, ltb-true, lt-ltb, eqb-true}
use Rattle.std.proofs.lemmas.Bool.{false≢true, and_parts, and_left, ne_eqb, eqb-false}
use Rattle.std.proofs.lemmas.List.Elements.{All-head, All-tail}
use Rattle.feature_values.specs.declared.feature.Feature.{Feature}
use Rattle.feature_values.specs.declared.feature.Rid.{Rid}
use Rattle.fes_filter.specs.declared.query.Query.{Query}
use Rattle.fes_filter.specs.View.{is_before, IsInOrder, next_after}
use Rattle.query_core.specs.Selecting.{is_of_type, passes_filter, is_selected}
use Rattle.query_core.specs.Finding.{start_of, is_past}
use Rattle.query_core.proofs.Walks.{behind, next_found, Walked}

-- ---- two tests in turn

kept_at : {X : Type 0} (b c : Bool) (x : X) (l m : List X) (q : X → Bool) → q x ≡ c → (c ≡ true → b ≡ true) → filter q l ≡ m → filter q (cond b (x ∷ l) l) ≡ cond c (x ∷ m) m
kept_at true c x l m q is all more = rw (is, more) refl
kept_at false true x l m q is all more = absurd (false≢true (all refl))
kept_at false false x l m q is all more = more

pub all_kept_in : {X : Type 0} (p q : X → Bool) (xs : List X) → All (λ x. q x ≡ true → p x ≡ true) xs → filter q (filter p xs) ≡ filter q xs
all_kept_in p q [] all = refl
all_kept_in p q (x ∷ xs) all =
    kept_at (p x) (q x) x (filter p xs) (filter q xs) q refl (All-head (λ y. q y ≡ true → p y ≡ true) x xs all) (all_kept_in p q xs (All-tail (λ y. q y ≡ true → p y ≡ true) x xs all))

all_kept : {X : Type 0} (p q : X → Bool) → ((x : X) → q x ≡ true → p x ≡ true) → (xs : List X) → filter q (filter p xs) ≡ filter q xs
all_kept p q all xs = all_kept_in p q xs (λ k d lt. all (get_or xs k d))

none_at : {X : Type 0} (b : Bool) (x : X) (l : List X) (q : X → Bool) → (b ≡ true → q x ≡ false) → filter q l ≡ [] → filter q (cond b (x ∷ l) l) ≡ []
none_at true x l q none more = rw (none refl) more
none_at false x l q none more = more

none_kept : {X : Type 0} (p q : X → Bool) → ((x : X) → p x ≡ true → q x ≡ false) → (xs : List X) → filter q (filter p xs) ≡ []
none_kept p q none [] = refl
none_kept p q none (x ∷ xs) = none_at (p x) x (filter p xs) q (none x) (none_kept p q none xs)

-- ---- types

kinds_rise : (b e q : Bool) (k m : ℕ) → nat_lt k m ≡ b → (k == m) ≡ e → (b || (e && q)) ≡ true → k ≤ m
kinds_rise true e q k m less same h = omega (arith, ltb-true k m less)
kinds_rise false true q k m less same h = omega (arith, eqb-true k m same)
kinds_rise false false q k m less same h = absurd (false≢true h)

pub before_kind : (a b : Rid) → is_before a b ≡ true → a.kind ≤ b.kind
before_kind a b h = kinds_rise (nat_lt a.kind b.kind) (a.kind == b.kind) (nat_lt a.number b.number) a.kind b.kind refl refl h

past_at : (kind : Option ℕ) (id : Rid) (f : Feature) (b : Bool) → is_past kind id ≡ true → id.kind ≤ f.id.kind → (is_of_type kind f && b) ≡ false
past_at None id f b past le = absurd (false≢true past)
past_at (Some kind) id f b past le =
    and_left (f.id.kind == kind) b (ne_eqb f.id.kind kind (λ same. omega (arith, ltb-true kind id.kind past)))

-- a feature of a type behind the query's is not selected
not_past : (query : Query) (id : Rid) (f : Feature) → is_past query.kind id ≡ true → id.kind ≤ f.id.kind → is_selected query f ≡ false
unfolding is_selected
not_past query id f past le = past_at query.kind id f (passes_filter query.filter f) past le

pub walk_past : {X : Type 0} (now : X → Feature) (query : Query) (features : List Feature) (found : List X) (after : Option Rid) (f : Feature) → IsInOrder features → Some f ≡ next_after after features → is_past query.kind f.id ≡ true → Walked now (is_selected query) features found after → map now found ≡ filter (is_selected query) features
walk_past now query features found after f order at past so_far =
    let test = is_selected query in
    let rest : filter test (behind (Some f.id) features) ≡ [] = none_kept (λ (g : Feature). is_before f.id g.id) test (λ g h. not_past query f.id g past (before_kind f.id g.id h)) features in
    let all : filter test (f ∷ behind (Some f.id) features) ≡ [] = rw (not_past query f.id f past (omega arith)) rest in
    sym (ap (λ l. map now found ++ filter test l) (next_found after features f order at) ∙ ap (λ l. map now found ++ l) all ∙ append-nil (map now found)) ∙ so_far

begin_some : (kind : ℕ) (b : Bool) (test : Feature → Bool) → (kind == 0) ≡ b → ((f : Feature) → test f ≡ true → (f.id.kind == kind) ≡ true) → (fs : List Feature) → filter test (behind (cond b None (Some (record { kind = kind - 1; number = 18446744073709551615 }))) fs) ≡ filter test fs
begin_some kind true test is all fs = refl
begin_some kind false test is all fs =
    all_kept (λ (f : Feature). is_before (record { kind = kind - 1; number = 18446744073709551615 }) f.id) test (λ f h. rw (lt-ltb (kind - 1) f.id.kind (omega (arith, eqb-true f.id.kind kind (all f h), eqb-false kind 0 is))) refl) fs

begin_at : (kind : Option ℕ) (test : Feature → Bool) → ((f : Feature) → test f ≡ true → is_of_type kind f ≡ true) → (fs : List Feature) → filter test (behind (start_of kind) fs) ≡ filter test fs
begin_at None test all fs = refl
begin_at (Some kind) test all fs = begin_some kind (kind == 0) test refl all fs

pub walk_begins : (query : Query) (features : List Feature) → filter (is_selected query) (behind (start_of query.kind) features) ≡ filter (is_selected query) features
unfolding is_selected
walk_begins query features = begin_at query.kind (is_selected query) (λ f h. (and_parts (is_of_type query.kind f) (passes_filter query.filter f) h).0) features

-- One turn over a scope, or over attributes in it.
use Rattle.std.proofs.Common.{◌≡◌, ℕ, ◌<◌, ◌≤◌, ◌+◌, Bool, true, false, cond, ◌||◌, List, [], ◌∷◌, ◌++◌, length, get_or, take, drop, map, Option, Some, None, refl, ap, sym, ◌∙◌}
use Rattle.std.specs.Str.{bytes_eq}
use Rattle.std.proofs.lemmas.List.{at_drop_more, at_drop_all, take_more, append-nil}
use Rattle.doc_tree.specs.declared.tree.Attribute.{Attribute}
use Rattle.doc_read.specs.declared.tag.RawAttribute.{RawAttribute}
use Rattle.doc_read.specs.Lex.{raw_of}
use Rattle.doc_read.specs.declared.scope.Bound.{Bound}
use Rattle.doc_read.specs.declared.level.Level.{Level}
use Rattle.doc_read.specs.Levels.{bounds_of}
use Rattle.doc_read.specs.Scope.{newer, newest, attribute_of, attributes_in, is_unknown, has_unknown}

-- a list from a place on, where it has one more item there, and where it ends
from_place : {X Y Z : Type 0} (F : List Y → Z) (f : X → Y) (xs : List X) (i : ℕ) (x : X) → i < length xs → x ≡ get_or xs i x → F (map f (drop i xs)) ≡ F (f x ∷ map f (drop (i + 1) xs))
from_place F f xs i x lt is = at_drop_more (λ ys. F (map f ys)) xs i x lt ∙ ap (λ y. F (f y ∷ map f (drop (i + 1) xs))) (sym is)

from_end : {X Y Z : Type 0} (F : List Y → Z) (f : X → Y) (xs : List X) (i : ℕ) → length xs ≤ i → F (map f (drop i xs)) ≡ F []
from_end F f xs i le = at_drop_all (λ ys. F (map f ys)) xs i le

-- ---- the newest declaration

or_found : Option (List ℕ) → Option (List ℕ) → Option (List ℕ)
or_found (Some space) found = Some space
or_found None found = found

or_twice : (o : Option (List ℕ)) (space : List ℕ) (found : Option (List ℕ)) → or_found o (Some space) ≡ or_found (or_found o (Some space)) found
unfolding or_found
or_twice (Some x) space found = refl
or_twice None space found = refl

newest_with : (prefix : List ℕ) (found : Option (List ℕ)) (bs : List Bound) → newest prefix found bs ≡ or_found (newest prefix None bs) found
unfolding newest or_found
newest_with prefix found [] = refl
newest_with prefix found (b ∷ bs) = go (bytes_eq b.prefix prefix) (λ x. newest_with prefix x bs)
  where
    go : (same : Bool) → ((x : Option (List ℕ)) → newest prefix x bs ≡ or_found (newest prefix None bs) x) → newest prefix (cond same (Some b.space) found) bs ≡ or_found (newest prefix (cond same (Some b.space) None) bs) found
    go true all = all (Some b.space) ∙ or_twice (newest prefix None bs) b.space found ∙ ap (λ (o : Option (List ℕ)). or_found o found) (sym (all (Some b.space)))
    go false all = all found

pub newest_found : (prefix : List ℕ) (found : Option (List ℕ)) (bs : List Bound) (space : List ℕ) → newest prefix None bs ≡ Some space → newest prefix found bs ≡ Some space
unfolding or_found
newest_found prefix found bs space is = newest_with prefix found bs ∙ rw is refl

pub newest_none : (prefix : List ℕ) (found : Option (List ℕ)) (bs : List Bound) → newest prefix None bs ≡ None → newest prefix found bs ≡ found
unfolding or_found
newest_none prefix found bs is = newest_with prefix found bs ∙ rw is refl

newest_append : (prefix : List ℕ) (found : Option (List ℕ)) (front back : List Bound) → newest prefix found (front ++ back) ≡ newest prefix (newest prefix found front) back
unfolding newest
newest_append prefix found [] back = refl
newest_append prefix found (b ∷ front) back = newest_append prefix (newer prefix found b) front back

pub newest_turn : (prefix : List ℕ) (found : Option (List ℕ)) (levels : List Level) (i : ℕ) (level : Level) → i < length levels → level ≡ get_or levels i level → newest prefix found (bounds_of (drop i levels)) ≡ newest prefix (newest prefix found level.bounds.items) (bounds_of (drop (i + 1) levels))
newest_turn prefix found levels i level lt is =
    at_drop_more (λ ls. newest prefix found (bounds_of ls)) levels i level lt
    ∙ ap (λ l. newest prefix found (l.bounds.items ++ bounds_of (drop (i + 1) levels))) (sym is)
    ∙ newest_append prefix found level.bounds.items (bounds_of (drop (i + 1) levels))

pub newest_end : (prefix : List ℕ) (found : Option (List ℕ)) (levels : List Level) (i : ℕ) → length levels ≤ i → newest prefix found (bounds_of (drop i levels)) ≡ found
unfolding newest
newest_end prefix found levels i le = at_drop_all (λ ls. newest prefix found (bounds_of ls)) levels i le

pub newest_nothing : (prefix : List ℕ) → newest prefix None [] ≡ None
unfolding newest
newest_nothing prefix = refl

pub newest_push : (prefix : List ℕ) (bs : List Bound) (i : ℕ) (b : Bound) → i < length bs → b ≡ get_or bs i b → newest prefix None (take (i + 1) bs) ≡ newer prefix (newest prefix None (take i bs)) b
unfolding newest
newest_push prefix bs i b lt is =
    ap (newest prefix None) (take_more bs i b lt)
    ∙ newest_append prefix None (take i bs) (get_or bs i b ∷ [])
    ∙ ap (newer prefix (newest prefix None (take i bs))) (sym is)

pub attributes_turn : (scope : List Bound) (rs : List RawAttribute) (i : ℕ) (r : RawAttribute) → i < length rs → r ≡ get_or rs i r → attributes_in scope (map raw_of (drop i rs)) ≡ attribute_of scope (raw_of r) ++ attributes_in scope (map raw_of (drop (i + 1) rs))
attributes_turn scope rs i r lt is = from_place (attributes_in scope) raw_of rs i r lt is

pub attributes_end : (found : List Attribute) (scope : List Bound) (rs : List RawAttribute) (i : ℕ) → length rs ≤ i → found ++ attributes_in scope (map raw_of (drop i rs)) ≡ found
attributes_end found scope rs i le = ap (λ ys. found ++ ys) (from_end (attributes_in scope) raw_of rs i le) ∙ append-nil found

pub unknown_turn : (scope : List Bound) (rs : List RawAttribute) (i : ℕ) (r : RawAttribute) → i < length rs → r ≡ get_or rs i r → has_unknown scope (map raw_of (drop i rs)) ≡ (is_unknown scope (raw_of r) || has_unknown scope (map raw_of (drop (i + 1) rs)))
unfolding has_unknown
unknown_turn scope rs i r lt is = from_place (has_unknown scope) raw_of rs i r lt is

pub unknown_end : (scope : List Bound) (rs : List RawAttribute) (i : ℕ) → length rs ≤ i → has_unknown scope (map raw_of (drop i rs)) ≡ false
unfolding has_unknown
unknown_end scope rs i le = from_end (has_unknown scope) raw_of rs i le

pub unknown_pass : (scope : List Bound) (rs : List RawAttribute) (i : ℕ) (r : RawAttribute) (b total : Bool) → i < length rs → r ≡ get_or rs i r → b ≡ is_unknown scope (raw_of r) → b ≡ false → has_unknown scope (map raw_of (drop i rs)) ≡ total → has_unknown scope (map raw_of (drop (i + 1) rs)) ≡ total
unknown_pass scope rs i r b total lt is same clear so_far =
    sym (unknown_turn scope rs i r lt is ∙ ap (λ (x : Bool). x || has_unknown scope (map raw_of (drop (i + 1) rs))) (sym same ∙ clear)) ∙ so_far

pub unknown_found : (scope : List Bound) (rs : List RawAttribute) (i : ℕ) (r : RawAttribute) (b total : Bool) → i < length rs → r ≡ get_or rs i r → b ≡ is_unknown scope (raw_of r) → b ≡ true → has_unknown scope (map raw_of (drop i rs)) ≡ total → true ≡ total
unknown_found scope rs i r b total lt is same set so_far =
    sym (unknown_turn scope rs i r lt is ∙ ap (λ (x : Bool). x || has_unknown scope (map raw_of (drop (i + 1) rs))) (sym same ∙ set)) ∙ so_far

-- A map of changes, and what has changed under an identifier.
use Rattle.std.proofs.Common.{All, ◌≡◌, ℕ, cond, List, [], ◌∷◌, Option, Some, refl, sym, ap, ◌∙◌, subst, arith}
use Rattle.std.specs.declared.cmp.Ordering.{Ordering}
use Rattle.std.specs.declared.cmp.Ordering.TheVariants.{Less, Equal, Greater}
use Rattle.std.specs.Ordering.{ordering_then, nat_cmp, is_eq, match_ordering}
use Rattle.std.specs.Map.{lookup}
use Rattle.std.specs.BTreeMap.{is_at, insert_entry}
use Rattle.std.proofs.lemmas.Bool.Decides.{nat_tests}
use Rattle.std.proofs.lemmas.List.Elements.{All-nil, All-cons, All-head, All-tail}
use Rattle.feature_values.specs.declared.feature.Feature.{Feature}
use Rattle.feature_values.specs.declared.feature.Rid.{Rid}
use Rattle.fes_filter.specs.View.{is_same}
use Rattle.feature_overlay.specs.Changed.{change_at, IsOf, AreKeyed}
use Rattle.feature_overlay.specs.Laid.{Change, id_of}
use Rattle.feature_overlay.proofs.Ordered.{same_is}

abbrev pub Key : Type 0
Key = ℕ × ℕ

-- the order of the keys
abbrev pub key_order : Key → Key → Ordering
key_order a b = ordering_then (nat_cmp a.0 b.0) (nat_cmp a.1 b.1)

abbrev pub key_of : Rid → Key
key_of id = (id.kind, id.number)

same_key : (id : Rid) (key : Key) → is_same (id_of key) id ≡ is_at (key_order (key_of id)) key
same_key id key = grind (arith, nat_tests)

key_same : (id : Rid) (key : Key) → is_at (key_order (key_of id)) key ≡ is_same id (id_of key)
key_same id key = grind (arith, nat_tests)

pub change_is : (id : Rid) (changes : List Change) → change_at id changes ≡ lookup (is_at (key_order (key_of id))) changes
change_is id [] = refl
change_is id (change ∷ changes) = rw (same_key id change.0) (ap (λ o. cond (is_at (key_order (key_of id)) change.0) (Some change.1) o) (change_is id changes))

-- after an insertion
pub change_put : (id : Rid) (now : Option Feature) (old new : List Change) → ((q : Key) → lookup (is_at (key_order q)) new ≡ cond (is_at (key_order (key_of id)) q) (Some now) (lookup (is_at (key_order q)) old)) → (other : Rid) → change_at other new ≡ cond (is_same id other) (Some now) (change_at other old)
change_put id now old new is other =
    change_is other new ∙ is (key_of other) ∙ ap (λ b. cond b (Some now) (lookup (is_at (key_order (key_of other))) old)) (key_same id (key_of other)) ∙ ap (λ o. cond (is_same id other) (Some now) o) (sym (change_is other old))

abbrev pub KeyedChange : Change → Type 0
KeyedChange change = IsOf (id_of change.0) change.1

-- what holds of each change holds of each with one more
module _ (P : Rid → Option Feature → Type 0) where
  abbrev Of : Change → Type 0
  Of change = P (id_of change.0) change.1

  put_at : (id : Rid) (now : Option Feature) (change : Change) (changes more : List Change) (o : Ordering) → key_order (key_of id) change.0 ≡ o → P id now → All Of (change ∷ changes) → All Of more → All Of (match_ordering o ((key_of id, now) ∷ change ∷ changes) ((change.0, now) ∷ changes) (change ∷ more))
  put_at id now change changes more Less is of all rest = All-cons Of (key_of id, now) (change ∷ changes) of all
  put_at id now change changes more Equal is of all rest =
      let same : id ≡ id_of change.0 = same_is id (id_of change.0) (sym (key_same id change.0) ∙ ap is_eq is) in
      All-cons Of (change.0, now) changes (subst (λ i. P i now) same of) (All-tail Of change changes all)
  put_at id now change changes more Greater is of all rest = All-cons Of change more (All-head Of change changes all) rest

  pub all_put : (id : Rid) (now : Option Feature) (changes : List Change) → P id now → All Of changes → All Of (insert_entry key_order changes (key_of id) now)
  all_put id now [] of all = All-cons Of (key_of id, now) [] of (All-nil Of)
  all_put id now (change ∷ changes) of all =
      put_at id now change changes (insert_entry key_order changes (key_of id) now) (key_order (key_of id) change.0) refl of all (all_put id now changes of (All-tail Of change changes all))

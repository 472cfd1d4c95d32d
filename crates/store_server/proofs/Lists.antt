-- Lists: two side by side, the last element, and the order of seats.
use Rattle.std.proofs.Common.{◌≡◌, ℕ, zero, suc, ◌<◌, List, [], ◌∷◌, ◌++◌, length, Some, refl, sym, ap, ◌∙◌, subst, arith}
use Rattle.std.specs.Prelude.{slice_get, reverse, All}
use mathlib.Core.Option.{some, some-injective, some-ne-none}
use lib.ListN.{get_elem?}
use Rattle.std.proofs.lemmas.Option.{none-some, same_Some}
use Rattle.std.proofs.lemmas.List.{reverse-append}
use Rattle.std.proofs.lemmas.List.Elements.{All-nil, All-head, All-tail, All-push}
use Rattle.store_server.specs.Seating.{zip_by, AreInOrder}
use Rattle.turnstile_core.specs.declared.view.Past.{Past}

module _ {A : Type 0} where
  pub get_longer : (xs ys : List A) (k : ℕ) (x : A) → slice_get xs k ≡ Some x → slice_get (xs ++ ys) k ≡ Some x
  get_longer [] ys k x e = absurd (none-some x e)
  get_longer (z ∷ xs) ys zero x e = e
  get_longer (z ∷ xs) ys (suc k) x e = get_longer xs ys k x e

  pub get_last : (xs : List A) (x : A) → slice_get (xs ++ x ∷ []) (length xs) ≡ Some x
  get_last [] x = refl
  get_last (z ∷ xs) x = get_last xs x

  pub get_within : (xs : List A) (k : ℕ) → k < length xs → (x : A) × (slice_get xs k ≡ Some x)
  get_within [] k h = absurd (omega arith)
  get_within (x ∷ xs) zero h = (x, refl)
  get_within (x ∷ xs) (suc k) h = get_within xs k (omega arith)

  -- the same look-up, in the words of the turnstile
  pub elem_at : (xs : List A) (k : ℕ) (x : A) → slice_get xs k ≡ Some x → get_elem? xs k ≡ some x
  elem_at [] k x e = absurd (none-some x e)
  elem_at (z ∷ xs) zero x e = ap some (same_Some z x e)
  elem_at (z ∷ xs) (suc k) x e = elem_at xs k x e

  pub get_at : (xs : List A) (k : ℕ) (x : A) → get_elem? xs k ≡ some x → slice_get xs k ≡ Some x
  get_at [] k x e = absurd (some-ne-none x (sym e))
  get_at (z ∷ xs) zero x e = ap (λ (y : A). Some y) (some-injective z x e)
  get_at (z ∷ xs) (suc k) x e = get_at xs k x e

  pub reverse_push : (xs : List A) (x : A) → reverse (xs ++ x ∷ []) ≡ x ∷ reverse xs
  reverse_push xs x = reverse-append xs (x ∷ [])

  pub All-reverse : (P : A → Type 0) (xs : List A) → All P xs → All P (reverse xs)
  All-reverse P [] all = All-nil P
  All-reverse P (x ∷ xs) all = subst (All P) (sym (reverse-append (x ∷ []) xs)) (All-push P (reverse xs) x (All-reverse P xs (All-tail P x xs all)) (All-head P x xs all))

module _ {A B W : Type 0} (f : A → B → W) where
  pub zip_by-push : (xs : List A) (ys : List B) (x : A) (y : B) → length xs ≡ length ys → zip_by f (xs ++ x ∷ []) (ys ++ y ∷ []) ≡ zip_by f xs ys ++ f x y ∷ []
  zip_by-push [] [] x y e = refl
  zip_by-push [] (v ∷ ys) x y e = absurd (omega arith)
  zip_by-push (u ∷ xs) [] x y e = absurd (omega arith)
  zip_by-push (u ∷ xs) (v ∷ ys) x y e = ap (λ (l : List W). f u v ∷ l) (zip_by-push xs ys x y (omega arith))

  pub zip_by-get : (xs : List A) (ys : List B) (k : ℕ) (x : A) (y : B) → slice_get xs k ≡ Some x → slice_get ys k ≡ Some y → slice_get (zip_by f xs ys) k ≡ Some (f x y)
  zip_by-get [] ys k x y e h = absurd (none-some x e)
  zip_by-get (u ∷ xs) [] k x y e h = absurd (none-some y h)
  zip_by-get (u ∷ xs) (v ∷ ys) zero x y e h = ap (λ (w : W). Some w) (ap (λ (z : A). f z v) (same_Some u x e) ∙ ap (f x) (same_Some v y h))
  zip_by-get (u ∷ xs) (v ∷ ys) (suc k) x y e h = zip_by-get xs ys k x y e h

  pub length-zip_by : (xs : List A) (ys : List B) → length xs ≡ length ys → length (zip_by f xs ys) ≡ length xs
  length-zip_by [] ys e = refl
  length-zip_by (u ∷ xs) [] e = absurd (omega arith)
  length-zip_by (u ∷ xs) (v ∷ ys) e = ap suc (length-zip_by xs ys (omega arith))

module _ {T E : Type 0} where
  -- seats in the order of their numbers, without the last one
  pub in_order_but : (ps : List (Past T E)) (p : Past T E) → AreInOrder (ps ++ p ∷ []) → AreInOrder ps
  in_order_but ps p order k q e = order k q (get_longer ps (p ∷ []) k q e)

  pub last_number : (ps : List (Past T E)) (p : Past T E) → AreInOrder (ps ++ p ∷ []) → p.number ≡ length ps
  last_number ps p order = order (length ps) p (get_last ps p)

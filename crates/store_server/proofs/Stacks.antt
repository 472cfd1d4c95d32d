-- What is popped off one list and pushed onto another stands there the other way round.
use Rattle.std.proofs.Common.{◌≡◌, List, [], ◌∷◌, ◌++◌, length, map, Some, sym, ap, ◌∙◌, subst, append_assoc}
use Rattle.std.specs.Prelude.{reverse, All}
use Rattle.std.proofs.lemmas.List.{map-append, length-map}
use Rattle.std.proofs.lemmas.List.Elements.{All-pop}
use Rattle.store_server.specs.Seating.{zip_by, AreInOrder}
use Rattle.store_server.proofs.Lists.{reverse_push, zip_by-push, in_order_but, last_number}
use Rattle.turnstile_core.specs.declared.view.Past.{Past}

module _ {A B W : Type 0} (f : A → B → W) where
  -- the last of both lists are joined, and stand first behind those that are left
  pub joined : (xs xs' : List A) (ys ys' : List B) (ws ws' all : List W) (x : A) (y : B) → xs ≡ xs' ++ x ∷ [] → ys ≡ ys' ++ y ∷ [] → length xs' ≡ length ys' → ws' ≡ ws ++ f x y ∷ []
      → zip_by f xs ys ++ reverse ws ≡ all → zip_by f xs' ys' ++ reverse ws' ≡ all
  joined xs xs' ys ys' ws ws' all x y px py same pw so_far =
      ap (λ (l : List W). zip_by f xs' ys' ++ reverse l) pw ∙ (ap (λ (l : List W). zip_by f xs' ys' ++ l) (reverse_push ws (f x y))
      ∙ (sym (append_assoc (zip_by f xs' ys') (f x y ∷ []) (reverse ws)) ∙ (ap (λ (l : List W). l ++ reverse ws) (sym (zip_by-push f xs' ys' x y same))
      ∙ (ap (λ (l : List A). zip_by f l (ys' ++ y ∷ []) ++ reverse ws) (sym px) ∙ (ap (λ (l : List B). zip_by f xs l ++ reverse ws) (sym py) ∙ so_far)))))

module _ {S T E : Type 0} (past : S → Past T E) (xs ys : List S) (x : S) (pop : xs ≡ ys ++ x ∷ []) where
  pub popped : map past xs ≡ map past ys ++ past x ∷ []
  popped = ap (map past) pop ∙ map-append past ys (x ∷ [])

  -- what holds of all seats, holds of those that are left and of the last one
  pub popped_all : (P : Past T E → Type 0) → All P (map past xs) → All P (map past ys) × P (past x)
  popped_all P all = All-pop P (map past xs) (map past ys) (Some (past x)) popped all

  pub popped_order : AreInOrder (map past xs) → AreInOrder (map past ys) × ((past x).number ≡ length ys)
  popped_order order =
      let whole : AreInOrder (map past ys ++ past x ∷ []) = subst (λ (l : List (Past T E)). AreInOrder l) popped order in
      (in_order_but (map past ys) (past x) whole, last_number (map past ys) (past x) whole ∙ length-map ys past)

module _ {W : Type 0} where
  -- the last one left is the next one done
  pub one_more_done : (all done ws ws' : List W) (w : W) → ws ≡ ws' ++ w ∷ [] → all ≡ done ++ reverse ws → all ≡ (done ++ w ∷ []) ++ reverse ws'
  one_more_done all done ws ws' w pop parts =
      parts ∙ (ap (λ (l : List W). done ++ reverse l) pop ∙ (ap (λ (l : List W). done ++ l) (reverse_push ws' w) ∙ sym (append_assoc done (w ∷ []) (reverse ws'))))

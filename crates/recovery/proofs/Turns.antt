-- Turn by turn through the records of a side.
use Rattle.std.proofs.Common.{◌≡◌, ℕ, List, [], ◌∷◌, ◌++◌, sym, ◌∙◌, ap, subst, append_assoc, Option, None, Some, Ok, Bool}
use Rattle.std.proofs.lemmas.List.{append-nil}
use Rattle.std.proofs.lemmas.Grind.{flat_map-append}
use Rattle.std.specs.List.{AllByRecursion, flat_map}
use Rattle.feature_journal.specs.Side.{opened}
use Rattle.feature_journal.specs.Whole.{Fits}
use Rattle.recovery.specs.Outcome.{Judge}
use Rattle.recovery.specs.Outcome.Outcome.{found}
use Rattle.recovery.specs.Walk.{Turned, Refuses, left}
use Rattle.recovery.specs.declared.fault.RecoverFault.{RecoverFault}

module _ (judge now : Judge) (limit : ℕ) (second : Bool) (generation : ℕ) (c : List ℕ) (gate : ℕ) (old new : List (List ℕ)) (same : judge ≡ now)
    (so_far : left now limit second generation c 16 [] ≡ left now limit second generation c gate old) where
  so : left now limit second generation c 16 [] ≡ left judge limit second generation c gate old
  so = so_far ∙ ap (λ (j : Judge). left j limit second generation c gate old) (sym same)

  pub all_taken : (o : Option ℕ) → o ≡ None → Turned (Ok o) (left judge limit second generation c) second generation gate old new → left now limit second generation c 16 [] ≡ found second generation gate new
  all_taken o is turn =
      let end = subst (λ x. Turned (Ok x) (left judge limit second generation c) second generation gate old new) is turn in
      so ∙ end.0 ∙ ap (found second generation gate) (sym end.1)

  pub one_more : (o : Option ℕ) (next : ℕ) → o ≡ Some next → Turned (Ok o) (left judge limit second generation c) second generation gate old new → left now limit second generation c 16 [] ≡ left now limit second generation c next new
  one_more o next is turn =
      so ∙ subst (λ x. Turned (Ok x) (left judge limit second generation c) second generation gate old new) is turn ∙ ap (λ (j : Judge). left j limit second generation c next new) same

  pub refused_then : (fault : RecoverFault) → Refuses fault (left judge limit second generation c gate old) new → Refuses fault (left now limit second generation c 16 []) new
  refused_then fault turn = subst (λ x. Refuses fault x new) (sym so) turn

-- the bodies with one more
pub fits_more : (bodies all : List (List ℕ)) (body : List ℕ) → all ≡ bodies ++ body ∷ [] → Fits body → AllByRecursion Fits bodies → AllByRecursion Fits all
fits_more bodies all body is fits front = subst (AllByRecursion Fits) (sym is) (more bodies front)
  where
    more : (bodies : List (List ℕ)) → AllByRecursion Fits bodies → AllByRecursion Fits (bodies ++ body ∷ [])
    more [] before = (fits, tt)
    more (first ∷ rest) before = (before.0, more rest before.1)

pub spelled_more : (front bytes upto : List ℕ) (bodies all : List (List ℕ)) (body : List ℕ) → all ≡ bodies ++ body ∷ [] → upto ≡ bytes ++ opened body → bytes ≡ front ++ flat_map opened bodies → upto ≡ front ++ flat_map opened all
spelled_more front bytes upto bodies all body is last so_far =
    last ∙ ap (λ (l : List ℕ). l ++ opened body) so_far ∙ append_assoc front (flat_map opened bodies) (opened body)
    ∙ ap (λ (l : List ℕ). front ++ l) (sym (joined ∙ ap (λ (l : List ℕ). flat_map opened bodies ++ l) one))
  where
    joined : flat_map opened all ≡ flat_map opened bodies ++ flat_map opened (body ∷ [])
    joined = ap (flat_map opened) is ∙ flat_map-append opened bodies (body ∷ [])

    one : flat_map opened (body ∷ []) ≡ opened body
    one = append-nil (opened body)

-- A walk over the features of a view that passes those under whose identifiers something has changed.
use Rattle.std.proofs.Common.{◌≡◌, true, false, List, Option, Some, None, sym, ◌∙◌, subst}
use Rattle.std.specs.Prelude.{is_some}
use Rattle.feature_values.specs.declared.feature.Feature.{Feature}
use Rattle.feature_values.specs.declared.feature.Rid.{Rid}
use Rattle.fes_filter.specs.View.{IsInOrder, feature_at, next_after}
use Rattle.feature_overlay.specs.First.{IsFirst, lesser}
use Rattle.feature_overlay.specs.Changed.{change_at, kept_at, put_at, AreKeyed}
use Rattle.feature_overlay.specs.Laid.{Change, all_laid}
use Rattle.feature_overlay.proofs.Firsts.{Walked, walk_passes, walk_finds, walk_ends, next_first, lesser_first, first_unique}
use Rattle.feature_overlay.proofs.Layings.{kept_here, kept_gone, kept_fewer, all_is, all_in_order}

module _ (fs : List Feature) (changes : List Change) (after place : Option Rid) (order : IsInOrder fs) (so_far : Walked after place (kept_at fs changes)) where
  first_at : (r : Option Feature) → r ≡ next_after place fs → IsFirst place (λ id. feature_at id fs) r
  first_at r at = subst (λ (o : Option Feature). IsFirst place (λ id. feature_at id fs) o) (sym at) (next_first place fs order)

  pub kept_finds : (f : Feature) → Some f ≡ next_after place fs → is_some (change_at f.id changes) ≡ false → IsFirst after (kept_at fs changes) (Some f)
  kept_finds f at is =
      let first : IsFirst place (λ id. feature_at id fs) (Some f) = first_at (Some f) at in
      walk_finds (λ id. feature_at id fs) (kept_at fs changes) (kept_fewer fs changes) after place f so_far first (kept_here fs changes f.id is ∙ first.0)

  pub kept_passes : (f : Feature) → Some f ≡ next_after place fs → is_some (change_at f.id changes) ≡ true → Walked after (Some f.id) (kept_at fs changes)
  kept_passes f at is = walk_passes (λ id. feature_at id fs) (kept_at fs changes) (kept_fewer fs changes) after place f so_far (first_at (Some f) at) (kept_gone fs changes f.id is)

  pub kept_ends : None ≡ next_after place fs → IsFirst after (kept_at fs changes) None
  kept_ends at = walk_ends (λ id. feature_at id fs) (kept_at fs changes) (kept_fewer fs changes) after place so_far (first_at None at)

-- what is first of both is the next feature
pub next_is_lesser : (fs : List Feature) (changes : List Change) (after : Option Rid) (kept put : Option Feature) → AreKeyed changes → IsInOrder fs → IsFirst after (kept_at fs changes) kept → IsFirst after (put_at changes) put → lesser kept put ≡ next_after after (all_laid fs changes)
next_is_lesser fs changes after kept put keyed order first second =
    first_unique after (λ id. feature_at id (all_laid fs changes)) (lesser kept put) (next_after after (all_laid fs changes))
    (lesser_first after (λ id. feature_at id (all_laid fs changes)) (kept_at fs changes) (put_at changes) (λ id. all_is fs changes id keyed) kept put first second)
    (next_first after (all_laid fs changes) (all_in_order fs changes keyed order))

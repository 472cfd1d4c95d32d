-- Features with changes laid over them are those of a view.
use Rattle.std.proofs.Common.{◌≡◌, List, [], ◌∷◌, ◌++◌, filter, All, Option, Some, None, Ok}
use Rattle.std.specs.Option.{option_to_list}
use Rattle.std.proofs.lemmas.List.Elements.{All-nil, All-cons, All-head, All-tail, All-append, All-filter}
use Rattle.feature_values.specs.declared.feature.Feature.{Feature}
use Rattle.feature_values.specs.declared.feature.Rid.{Rid}
use Rattle.feature_values.specs.declared.schema.Schema.{Schema}
use Rattle.feature_values.specs.Fits.{feature_fits}
use Rattle.fes_filter.specs.View.{is_before, IsView}
use Rattle.feature_overlay.specs.Changed.{FitsIf, AreKeyed, AreFitting}
use Rattle.feature_overlay.specs.Laid.{Change, id_of, laid, all_laid}
use Rattle.feature_overlay.proofs.Layings.{all_in_order}

module _ (schema : Schema) where
  abbrev Fits : Feature → Type 0
  Fits f = feature_fits schema f ≡ Ok tt

  now_fits : (now : Option Feature) → FitsIf schema now → All Fits (option_to_list now)
  now_fits None fits = All-nil Fits
  now_fits (Some f) fits = All-cons Fits f [] fits (All-nil Fits)

  laid_fits : (fs : List Feature) (at : Rid) (now : Option Feature) → All Fits fs → FitsIf schema now → All Fits (laid fs at now)
  unfolding laid
  laid_fits fs at now all fits =
      All-append Fits (filter (λ (f : Feature). is_before f.id at) fs) (option_to_list now ++ filter (λ (f : Feature). is_before at f.id) fs)
      (All-filter (λ (f : Feature). is_before f.id at) Fits fs all)
      (All-append Fits (option_to_list now) (filter (λ (f : Feature). is_before at f.id) fs) (now_fits now fits) (All-filter (λ (f : Feature). is_before at f.id) Fits fs all))

  all_fit : (fs : List Feature) (changes : List Change) → All Fits fs → AreFitting schema changes → All Fits (all_laid fs changes)
  all_fit fs [] all fitting = all
  all_fit fs (change ∷ changes) all fitting =
      laid_fits (all_laid fs changes) (id_of change.0) change.1 (all_fit fs changes all (All-tail (λ (c : Change). FitsIf schema c.1) change changes fitting)) (All-head (λ (c : Change). FitsIf schema c.1) change changes fitting)

  pub laid_view : (fs : List Feature) (changes : List Change) → IsView schema fs → AreKeyed changes → AreFitting schema changes → IsView schema (all_laid fs changes)
  laid_view fs changes view keyed fitting = record {
    order = all_in_order fs changes keyed view.order;
    fitting = all_fit fs changes view.fitting fitting;
  }

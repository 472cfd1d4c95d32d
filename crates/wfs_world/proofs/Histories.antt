-- One entry more at the end of a history.
use Rattle.std.proofs.Common.{◌≡◌, ◌≤◌, List, [], ◌∷◌, ◌++◌, refl, sym, ap, ◌∙◌, append_assoc}
use Rattle.std.specs.Option.{option_to_list}
use Rattle.std.proofs.lemmas.List.Sums.{fold-append}
use Rattle.feature_values.specs.declared.schema.Schema.{Schema}
use Rattle.wfs_model.specs.declared.entry.Entry.{Entry}
use Rattle.wfs_model.specs.Changing.{IsChange}
use Rattle.wfs_model.specs.History.{stepped, after_all, IsLegal, replies, reply_after}
use Rattle.wfs_model.specs.OfSchema.{IsOfSchema}
use Rattle.wfs_model.specs.Played.{change_of, accepted}
use Rattle.wfs_model.specs.State.{State, last_moment}
use Rattle.wfs_model.proofs.Middle.{append_none}
use Rattle.wfs_world.specs.Kept.{AreSteps}

pub after_more : (schema : Schema) (state : State) (entries : List Entry) (e : Entry) → after_all schema state (entries ++ e ∷ []) ≡ stepped schema (after_all schema state entries) e
after_more schema state entries e = fold-append (stepped schema) state entries (e ∷ [])

pub accepted_more : (schema : Schema) (state : State) (entries : List Entry) (e : Entry)
    → accepted schema state (entries ++ e ∷ []) ≡ accepted schema state entries ++ option_to_list (change_of schema (after_all schema state entries) e.moment e.request)
accepted_more schema state [] e = append_none (option_to_list (change_of schema state e.moment e.request))
accepted_more schema state (f ∷ fs) e =
    ap (λ l. option_to_list (change_of schema state f.moment f.request) ++ l) (accepted_more schema (stepped schema state f) fs e)
    ∙ sym (append_assoc (option_to_list (change_of schema state f.moment f.request)) (accepted schema (stepped schema state f) fs) (option_to_list (change_of schema (after_all schema (stepped schema state f) fs) e.moment e.request)))

pub replies_more : (schema : Schema) (state : State) (entries : List Entry) (e : Entry) → replies schema state (entries ++ e ∷ []) ≡ replies schema state entries ++ reply_after schema state entries e ∷ []
replies_more schema state [] e = refl
replies_more schema state (f ∷ fs) e = ap (λ l. reply_after schema state [] f ∷ l) (replies_more schema (stepped schema state f) fs e)

-- an entry whose step can be taken in a state
pub record IsStep (schema : Schema) (state : State) (e : Entry) : Type 0 where
  pub change : IsChange e.request
  pub fits : IsOfSchema schema e.request
  pub later : state.last ≤ e.moment
  pub last : e.moment ≤ last_moment

pub steps_more : (schema : Schema) (state : State) (entries : List Entry) (e : Entry) → AreSteps schema state entries → IsStep schema (after_all schema state entries) e → AreSteps schema state (entries ++ e ∷ [])
steps_more schema state [] e steps one = (one.change, one.fits, one.later, one.last, tt)
steps_more schema state (f ∷ fs) e steps one = (steps.0, steps.1, steps.2, steps.3, steps_more schema (stepped schema state f) fs e steps.4 one)

pub legal_steps : (schema : Schema) (state : State) (entries : List Entry) → AreSteps schema state entries → IsLegal schema state entries
legal_steps schema state [] steps = tt
legal_steps schema state (f ∷ fs) steps = (steps.0, steps.2, legal_steps schema (stepped schema state f) fs steps.4)

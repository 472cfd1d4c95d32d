-- An action's work on the features that it selected, one after the other, is its work on all features at once.
use Rattle.std.proofs.Common.{◌≡◌, Bool, true, false, cond, List, [], ◌∷◌, ◌++◌, map, filter, Option, Some, None, refl, sym, ap, ◌∙◌, subst, append_assoc}
use Rattle.std.specs.Prelude.{flat_map}
use Rattle.std.specs.List.{fold}
use Rattle.feature_values.specs.declared.feature.Feature.{Feature}
use Rattle.fes_filter.specs.View.{IsInOrder}
use Rattle.query_core.specs.Selecting.{to_list, ids_of}
use Rattle.wfs_model.specs.declared.action.Action.{Action}
use Rattle.wfs_model.specs.declared.change.Part.{Part}
use Rattle.wfs_model.specs.Acts.{selects, instead, left_of, part_of}
use Rattle.wfs_model.proofs.Middle.{append_none, middle_found, now_laid, turn_in_order}
use Rattle.transaction_core.specs.Planning.{Turning, part_at, turned, turned_at}

-- ---- one turn

same_part : (f : Feature) (o : Option Feature) → part_at f.id o ≡ part_of f o
same_part f None = refl
same_part f (Some g) = refl

abbrev pub part : Action → Feature → Part
part action f = part_of f (instead action f)

abbrev pub turning : List Feature → List Part → Turning
turning features parts = record { features = features; parts = parts }

one_turn : (action : Action) (before : List Feature) (f : Feature) (fs : List Feature) (parts : List Part) → IsInOrder (before ++ f ∷ fs) → turned action (turning (before ++ f ∷ fs) parts) f.id ≡ turning ((before ++ to_list (instead action f)) ++ fs) (parts ++ part action f ∷ [])
unfolding turned
one_turn action before f fs parts order =
    ap (turned_at action (turning (before ++ f ∷ fs) parts)) (middle_found before f fs order)
    ∙ ap (λ l. turning l (parts ++ part_at f.id (instead action f) ∷ [])) (now_laid action before f fs order)
    ∙ ap (λ p. turning ((before ++ to_list (instead action f)) ++ fs) (parts ++ p ∷ [])) (same_part f (instead action f))

-- ---- all turns

-- what comes of the rest, whatever stands before it
abbrev Rest : Action → List Feature → Type 0
Rest action fs = (before : List Feature) (parts : List Part) → IsInOrder (before ++ fs) → fold (turned action) (turning (before ++ fs) parts) (ids_of (filter (selects action) fs)) ≡ turning (before ++ flat_map (left_of action) fs) (parts ++ map (part action) (filter (selects action) fs))

turns_at : (action : Action) (f : Feature) (fs : List Feature) (b : Bool) → Rest action fs → (before : List Feature) (parts : List Part) → IsInOrder (before ++ f ∷ fs)
    → fold (turned action) (turning (before ++ f ∷ fs) parts) (ids_of (cond b (f ∷ filter (selects action) fs) (filter (selects action) fs))) ≡ turning (before ++ (cond b (to_list (instead action f)) (f ∷ []) ++ flat_map (left_of action) fs)) (parts ++ map (part action) (cond b (f ∷ filter (selects action) fs) (filter (selects action) fs)))
turns_at action f fs true rest before parts order =
    ap (λ t. fold (turned action) t (ids_of (filter (selects action) fs))) (one_turn action before f fs parts order)
    ∙ rest (before ++ to_list (instead action f)) (parts ++ part action f ∷ []) (turn_in_order action before f fs order)
    ∙ ap (λ l. turning l ((parts ++ part action f ∷ []) ++ map (part action) (filter (selects action) fs))) (append_assoc before (to_list (instead action f)) (flat_map (left_of action) fs))
    ∙ ap (λ l. turning (before ++ (to_list (instead action f) ++ flat_map (left_of action) fs)) l) (append_assoc parts (part action f ∷ []) (map (part action) (filter (selects action) fs)))
turns_at action f fs false rest before parts order =
    let moved : (before ++ f ∷ []) ++ fs ≡ before ++ f ∷ fs = append_assoc before (f ∷ []) fs in
    ap (λ l. fold (turned action) (turning l parts) (ids_of (filter (selects action) fs))) (sym moved)
    ∙ rest (before ++ f ∷ []) parts (subst (λ (l : List Feature). IsInOrder l) (sym moved) order)
    ∙ ap (λ l. turning l (parts ++ map (part action) (filter (selects action) fs))) (append_assoc before (f ∷ []) (flat_map (left_of action) fs))

turns : (action : Action) (fs : List Feature) → Rest action fs
unfolding left_of
turns action [] before parts order = ap (turning (before ++ [])) (sym (append_none parts))
turns action (f ∷ fs) before parts order = turns_at action f fs (selects action f) (turns action fs) before parts order

pub turned_all : (action : Action) (fs : List Feature) (parts : List Part) → IsInOrder fs → fold (turned action) (turning fs parts) (ids_of (filter (selects action) fs)) ≡ turning (flat_map (left_of action) fs) (parts ++ map (part action) (filter (selects action) fs))
turned_all action fs parts order = turns action fs [] parts order

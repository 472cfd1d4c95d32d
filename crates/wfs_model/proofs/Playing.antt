-- The parts of actions, played on what is kept, leave what the actions leave.
use Rattle.std.proofs.Common.{◌≡◌, ℕ, ◌+◌, ◌<◌, ◌≤◌, Bool, true, false, cond, List, [], ◌∷◌, ◌++◌, length, get_or, map, filter, All, Option, Some, None, refl, sym, ap, ◌∙◌, subst, append_assoc, set, length-set, arith}
use Rattle.std.specs.Prelude.{zero, suc, nat_lt, flat_map, max}
use Rattle.std.specs.List.{fold}
use Rattle.std.proofs.lemmas.List.{set-get_or, get_or-set_same}
use Rattle.std.proofs.lemmas.List.Elements.{All-nil, All-cons, All-head, All-tail, All-append}
use Rattle.feature_values.specs.declared.feature.Feature.{Feature}
use Rattle.feature_values.specs.declared.feature.Rid.{Rid}
use Rattle.fes_filter.specs.View.{IsInOrder}
use Rattle.feature_overlay.specs.Changed.{IsOf}
use Rattle.feature_overlay.specs.Laid.{laid}
use Rattle.query_core.specs.Selecting.{to_list}
use Rattle.wfs_model.specs.declared.action.Action.{Action}
use Rattle.wfs_model.specs.declared.change.Part.{Part}
use Rattle.wfs_model.specs.Acts.{Acting, numbered, selects, instead, left_of, part_of}
use Rattle.wfs_model.specs.State.{Durable}
use Rattle.wfs_model.specs.Played.{raised, part_played}
use Rattle.wfs_model.proofs.Middle.{instead_keeps, now_laid, turn_in_order}

-- ---- counters

-- a number that was given, of a type that has a counter
abbrev pub IsCounted : List ℕ → Feature → Type 0
IsCounted counters f = f.id.kind < length counters → f.id.number ≤ get_or counters f.id.kind 0

set_beyond : (counters : List ℕ) (k n : ℕ) → length counters ≤ k → set counters k n ≡ counters
set_beyond [] k n le = refl
set_beyond (c ∷ cs) zero n le = absurd (omega (arith, le))
set_beyond (c ∷ cs) (suc k) n le = ap (λ l. c ∷ l) (set_beyond cs k n (omega (arith, le)))

greater_is : (c n : ℕ) → n ≤ c → max c n ≡ c
greater_is c n le = omega (arith, le)

pub next_is : (c : ℕ) → max c (c + 1) ≡ c + 1
next_is c = omega arith

raised_at : (counters : List ℕ) (kind number : ℕ) (b : Bool) → nat_lt kind (length counters) ≡ b → (kind < length counters → number ≤ get_or counters kind 0) → raised counters kind number ≡ counters
raised_at counters kind number true is given = ap (set counters kind) (greater_is (get_or counters kind 0) number (given (grind (arith, is)))) ∙ set-get_or counters kind 0
raised_at counters kind number false is given = set_beyond counters kind (max (get_or counters kind 0) number) (grind (arith, is))

-- a feature under a number that was given raises no counter
raised_same : (counters : List ℕ) (f : Feature) → IsCounted counters f → raised counters f.id.kind f.id.number ≡ counters
raised_same counters f given = raised_at counters f.id.kind f.id.number (nat_lt f.id.kind (length counters)) refl given

pub raise_more : (cs : List ℕ) (k v j : ℕ) → get_or cs k 0 ≤ v → get_or cs j 0 ≤ get_or (set cs k v) j 0
raise_more [] k v j le = omega arith
raise_more (c ∷ cs) zero v zero le = le
raise_more (c ∷ cs) zero v (suc j) le = omega arith
raise_more (c ∷ cs) (suc k) v zero le = omega arith
raise_more (c ∷ cs) (suc k) v (suc j) le = raise_more cs k v j le

pub counted_more : (counters : List ℕ) (k v : ℕ) (f : Feature) → get_or counters k 0 ≤ v → IsCounted counters f → IsCounted (set counters k v) f
counted_more counters k v f le given lt =
    let there : f.id.kind < length counters = rw (← length-set counters k v) lt in
    let low : f.id.number ≤ get_or counters f.id.kind 0 = given there in
    let high : get_or counters f.id.kind 0 ≤ get_or (set counters k v) f.id.kind 0 = raise_more counters k v f.id.kind le in
    omega (arith, low, high)

pub new_counted : (counters : List ℕ) (f : Feature) → IsCounted (set counters f.id.kind (get_or counters f.id.kind 0 + 1)) (numbered counters f)
new_counted counters f lt =
    let there : f.id.kind < length counters = rw (← length-set counters f.id.kind (get_or counters f.id.kind 0 + 1)) lt in
    let is : get_or (set counters f.id.kind (get_or counters f.id.kind 0 + 1)) f.id.kind 0 ≡ get_or counters f.id.kind 0 + 1 = get_or-set_same counters f.id.kind (get_or counters f.id.kind 0 + 1) 0 there in
    omega (arith, is)

-- ---- what is kept, with features in the middle of actions

abbrev pub at : Durable → List Feature → Durable
at kept features = record kept { features = features }

abbrev pub onto : Durable → Acting → Durable
onto kept acting = record kept { features = acting.features; counters = acting.counters }

abbrev pub part : Action → Feature → Part
part action f = part_of f (instead action f)

part_played_at : (kept : Durable) (f : Feature) (o : Option Feature) → IsOf f.id o → IsCounted kept.counters f → part_played kept (part_of f o) ≡ at kept (laid kept.features f.id o)
unfolding part_played
part_played_at kept f None of counted = refl
part_played_at kept f (Some g) of counted =
    ap (λ (counters : List ℕ). record (at kept (laid kept.features g.id (Some g))) { counters = counters }) (ap (λ (id : Rid). raised kept.counters id.kind id.number) of ∙ raised_same kept.counters f counted)
    ∙ ap (λ (id : Rid). at kept (laid kept.features id (Some g))) of

pub one_part : (kept : Durable) (action : Action) (before : List Feature) (f : Feature) (fs : List Feature) → IsInOrder (before ++ f ∷ fs) → IsCounted kept.counters f → part_played (at kept (before ++ f ∷ fs)) (part action f) ≡ at kept ((before ++ to_list (instead action f)) ++ fs)
one_part kept action before f fs order counted = part_played_at (at kept (before ++ f ∷ fs)) f (instead action f) (instead_keeps action f) counted ∙ ap (at kept) (now_laid action before f fs order)

-- what comes of the rest, whatever stands before it
abbrev pub Rest : Durable → Action → List Feature → Type 0
Rest kept action fs = (before : List Feature) → IsInOrder (before ++ fs) → All (IsCounted kept.counters) fs → fold part_played (at kept (before ++ fs)) (map (part action) (filter (selects action) fs)) ≡ at kept (before ++ flat_map (left_of action) fs)

plays_at : (kept : Durable) (action : Action) (f : Feature) (fs : List Feature) (b : Bool) → Rest kept action fs → (before : List Feature) → IsInOrder (before ++ f ∷ fs) → All (IsCounted kept.counters) (f ∷ fs)
    → fold part_played (at kept (before ++ f ∷ fs)) (map (part action) (cond b (f ∷ filter (selects action) fs) (filter (selects action) fs))) ≡ at kept (before ++ (cond b (to_list (instead action f)) (f ∷ []) ++ flat_map (left_of action) fs))
plays_at kept action f fs true rest before order counted =
    ap (λ (k : Durable). fold part_played k (map (part action) (filter (selects action) fs))) (one_part kept action before f fs order (All-head (IsCounted kept.counters) f fs counted))
    ∙ rest (before ++ to_list (instead action f)) (turn_in_order action before f fs order) (All-tail (IsCounted kept.counters) f fs counted)
    ∙ ap (at kept) (append_assoc before (to_list (instead action f)) (flat_map (left_of action) fs))
plays_at kept action f fs false rest before order counted =
    let moved : (before ++ f ∷ []) ++ fs ≡ before ++ f ∷ fs = append_assoc before (f ∷ []) fs in
    ap (λ (l : List Feature). fold part_played (at kept l) (map (part action) (filter (selects action) fs))) (sym moved)
    ∙ rest (before ++ f ∷ []) (subst (λ (l : List Feature). IsInOrder l) (sym moved) order) (All-tail (IsCounted kept.counters) f fs counted)
    ∙ ap (at kept) (append_assoc before (f ∷ []) (flat_map (left_of action) fs))

pub plays : (kept : Durable) (action : Action) (fs : List Feature) → Rest kept action fs
unfolding left_of
plays kept action [] before order counted = refl
plays kept action (f ∷ fs) before order counted = plays_at kept action f fs (selects action f) (plays kept action fs) before order counted

-- ---- the order of what is left

abbrev pub RestInOrder : Action → List Feature → Type 0
RestInOrder action fs = (before : List Feature) → IsInOrder (before ++ fs) → IsInOrder (before ++ flat_map (left_of action) fs)

in_order_at : (action : Action) (f : Feature) (fs : List Feature) (b : Bool) → RestInOrder action fs → (before : List Feature) → IsInOrder (before ++ f ∷ fs) → IsInOrder (before ++ (cond b (to_list (instead action f)) (f ∷ []) ++ flat_map (left_of action) fs))
in_order_at action f fs true rest before order =
    subst (λ (l : List Feature). IsInOrder l) (append_assoc before (to_list (instead action f)) (flat_map (left_of action) fs)) (rest (before ++ to_list (instead action f)) (turn_in_order action before f fs order))
in_order_at action f fs false rest before order =
    subst (λ (l : List Feature). IsInOrder l) (append_assoc before (f ∷ []) (flat_map (left_of action) fs))
    (rest (before ++ f ∷ []) (subst (λ (l : List Feature). IsInOrder l) (sym (append_assoc before (f ∷ []) fs)) order))

pub left_in_order : (action : Action) (fs : List Feature) → RestInOrder action fs
unfolding left_of
left_in_order action [] before order = order
left_in_order action (f ∷ fs) before order = in_order_at action f fs (selects action f) (left_in_order action fs) before order

-- ---- the numbers of what is left

one_counted : (counters : List ℕ) (f : Feature) (o : Option Feature) → IsOf f.id o → IsCounted counters f → All (IsCounted counters) (to_list o)
one_counted counters f None of counted = All-nil (IsCounted counters)
one_counted counters f (Some g) of counted =
    All-cons (IsCounted counters) g [] (subst (λ (id : Rid). id.kind < length counters → id.number ≤ get_or counters id.kind 0) (sym of) counted) (All-nil (IsCounted counters))

left_counted_at : (counters : List ℕ) (action : Action) (f : Feature) (b : Bool) → IsCounted counters f → All (IsCounted counters) (cond b (to_list (instead action f)) (f ∷ []))
left_counted_at counters action f true counted = one_counted counters f (instead action f) (instead_keeps action f) counted
left_counted_at counters action f false counted = All-cons (IsCounted counters) f [] counted (All-nil (IsCounted counters))

pub left_counted : (counters : List ℕ) (action : Action) (fs : List Feature) → All (IsCounted counters) fs → All (IsCounted counters) (flat_map (left_of action) fs)
unfolding left_of
left_counted counters action [] counted = All-nil (IsCounted counters)
left_counted counters action (f ∷ fs) counted =
    All-append (IsCounted counters) (left_of action f) (flat_map (left_of action) fs) (left_counted_at counters action f (selects action f) (All-head (IsCounted counters) f fs counted)) (left_counted counters action fs (All-tail (IsCounted counters) f fs counted))

-- The change that a step makes may be played, where the numbers stay within their limit.
use Rattle.std.proofs.Common.{◌≡◌, ℕ, suc, ◌+◌, ◌<◌, ◌≤◌, ◌⊎◌, inl, inr, Bool, true, false, cond, not, List, [], ◌∷◌, ◌++◌, length, get_or, map, filter, All, Option, Some, None, Result, Ok, Err, refl, sym, ap, ◌∙◌, subst, append_assoc, length-set, arith}
use Rattle.std.specs.Prelude.{◌==◌, if◌then◌else◌, nat_lt}
use Rattle.std.specs.List.{AllPairs, fold, list_all, list_any}
use Rattle.std.specs.Option.{IfSome}
use Rattle.std.proofs.lemmas.Bool.{and_parts, and_from, not_from_false, cases_lt}
use Rattle.std.proofs.lemmas.List.{get_or_past, get_or-set_same}
use Rattle.std.proofs.lemmas.List.Folds.{list_any_none}
use Rattle.std.proofs.lemmas.List.Elements.{All-head, All-tail}
use Rattle.wfs_ends.specs.Read.{◌>>=◌, each}
use Rattle.feature_values.specs.declared.feature.Feature.{Feature}
use Rattle.feature_values.specs.declared.schema.Schema.{Schema}
use Rattle.fes_filter.specs.View.{IsInOrder, feature_at}
use Rattle.query_core.specs.Selecting.{to_list}
use Rattle.lock_table.specs.declared.id.LockId.{LockId}
use Rattle.lock_table.specs.declared.words.Release.{Release}
use Rattle.wfs_model.specs.declared.action.Action.{Action}
use Rattle.wfs_model.specs.declared.action.Action.TheVariants.{Insert, Update, Replace, Delete}
use Rattle.wfs_model.specs.declared.change.Part.{Part}
use Rattle.wfs_model.specs.declared.change.Part.TheVariants.{Put, Remove}
use Rattle.wfs_model.specs.declared.change.Change.{Change}
use Rattle.wfs_model.specs.declared.change.Change.TheVariants.{Rows, Created, Dropped}
use Rattle.wfs_model.specs.declared.stored.StoredQuery.{StoredQuery}
use Rattle.wfs_model.specs.declared.reply.Refusal.{Refusal}
use Rattle.wfs_model.specs.declared.fault.StoredFault.{StoredFault}
use Rattle.wfs_model.specs.declared.fault.StoredFault.TheVariants.{Unknown}
use Rattle.wfs_model.specs.declared.request.Request.{Request}
use Rattle.wfs_model.specs.declared.request.Request.TheVariants.{Capabilities, DescribeTypes, GetFeatures, GetValues, GetLocked, Lock, Renew, Transact, ListStored, DescribeStored, CreateStored, DropStored}
use Rattle.wfs_model.specs.Acts.{Acting, begun, numbered, inserted, selects, instead, changed, acted, touched_by, are_too_many, parts_in, part_of, parts_of}
use Rattle.wfs_model.specs.Expand.{is_same_name}
use Rattle.wfs_model.specs.Kept.{IsKept}
use Rattle.wfs_model.specs.Locking.{named_if}
use Rattle.wfs_model.specs.OfSchema.{IsNewOf, IsActionOf, IsStoredOf, IsOfSchema}
use Rattle.wfs_model.specs.Plans.{Planning, permitted, planned, planned_all}
use Rattle.wfs_model.specs.State.{State, Durable, durable}
use Rattle.wfs_model.specs.Step.{plan_with, plan_of, carried_out, settled, step}
use Rattle.wfs_model.specs.Stored.{is_there, created, without_query, dropped}
use Rattle.wfs_model.specs.Played.{rows_if, if_accepted, change_of, part_played}
use Rattle.wfs_model.specs.Playable.{most_number, is_ok, is_number, is_part, are_parts, are_names, is_playable}
use Rattle.wfs_model.specs.Refusals.{not_one}
use Rattle.wfs_model.proofs.Fitting.{Fits, IsNumbered, IsAllowed, numbered_fits, instead_fits, plan_allowed}
use Rattle.wfs_model.proofs.Keeping.{kind_within, numbered_kept}
use Rattle.wfs_model.proofs.Middle.{instead_keeps, middle_found, turn_in_order}
use Rattle.wfs_model.proofs.Playing.{IsCounted, onto, at, part, one_part, raise_more}
use Rattle.wfs_model.proofs.Stepping.{sound_kept}
use Rattle.wfs_model.proofs.Sound.{IsSound, May, Plays, bind_ok, one_comes, plan_plays, after_counters, done_is}

-- no number that was given is beyond the limit
abbrev pub InLimit : List ℕ → Type 0
InLimit counters = (k : ℕ) → get_or counters k 0 ≤ most_number

-- counters that have risen, or not
abbrev pub Risen : List ℕ → List ℕ → Type 0
Risen old new = (k : ℕ) → get_or old k 0 ≤ get_or new k 0

-- ---- single parts

number_is : (n : ℕ) → 1 ≤ n → n ≤ most_number → is_number n ≡ true
number_is n low high = grind (arith, low, high)

put_is : (schema : Schema) (kept : Durable) (f : Feature) → Fits schema f → 1 ≤ f.id.number → f.id.number ≤ most_number → is_part schema kept (Put f) ≡ true
unfolding is_part
put_is schema kept f fits low high = rw fits (number_is f.id.number low high)

remove_is : (schema : Schema) (kept : Durable) (f : Feature) → feature_at f.id kept.features ≡ Some f → is_part schema kept (Remove f.id) ≡ true
unfolding is_part
remove_is schema kept f there = rw there refl

pub are_append : (schema : Schema) (kept : Durable) (parts more : List Part) → are_parts schema kept parts ≡ true → are_parts schema (fold part_played kept parts) more ≡ true → are_parts schema kept (parts ++ more) ≡ true
unfolding are_parts
are_append schema kept [] more is rest = rest
are_append schema kept (part ∷ parts) more is rest =
    let both = and_parts (is_part schema kept part) (are_parts schema (part_played kept part) parts) is in
    and_from (is_part schema kept part) (are_parts schema (part_played kept part) (parts ++ more)) both.0 (are_append schema (part_played kept part) parts more both.1 rest)

-- ---- features that come in

come_more : (handle : Option (List ℕ)) (acting : Acting) (fs : List Feature) → Risen acting.counters (fold (inserted handle) acting fs).counters
unfolding inserted
come_more handle acting [] k = omega arith
come_more handle acting (f ∷ fs) k =
    let first : get_or acting.counters k 0 ≤ get_or (inserted handle acting f).counters k 0 = raise_more acting.counters f.id.kind (get_or acting.counters f.id.kind 0 + 1) k (omega arith) in
    let rest : get_or (inserted handle acting f).counters k 0 ≤ get_or (fold (inserted handle) (inserted handle acting f) fs).counters k 0 = come_more handle (inserted handle acting f) fs k in
    omega (arith, first, rest)

come_parts : (schema : Schema) (kept : Durable) (handle : Option (List ℕ)) (acting : Acting) (fs : List Feature) → All (IsNewOf schema) fs → length acting.counters ≡ length schema.types
    → InLimit (fold (inserted handle) acting fs).counters → are_parts schema (onto kept acting) (parts_in handle acting fs) ≡ true
unfolding parts_in are_parts inserted
come_parts schema kept handle acting [] new types limit = refl
come_parts schema kept handle acting (f ∷ fs) new types limit =
    let fits : Fits schema f = (All-head (IsNewOf schema) f fs new).fits in
    let n : ℕ = get_or acting.counters f.id.kind 0 + 1 in
    let within : f.id.kind < length acting.counters = (let there = kind_within schema f fits in rw types there) in
    let is_n : get_or (inserted handle acting f).counters f.id.kind 0 ≡ get_or acting.counters f.id.kind 0 + 1 = get_or-set_same acting.counters f.id.kind (get_or acting.counters f.id.kind 0 + 1) 0 within in
    let more : get_or (inserted handle acting f).counters f.id.kind 0 ≤ get_or (fold (inserted handle) (inserted handle acting f) fs).counters f.id.kind 0 = come_more handle (inserted handle acting f) fs f.id.kind in
    let high : get_or acting.counters f.id.kind 0 + 1 ≤ most_number = omega (arith, is_n, more, limit f.id.kind) in
    let rest = come_parts schema kept handle (inserted handle acting f) fs (All-tail (IsNewOf schema) f fs new) (length-set acting.counters f.id.kind (get_or acting.counters f.id.kind 0 + 1) ∙ types) limit in
    and_from (is_part schema (onto kept acting) (Put (numbered acting.counters f))) _ (put_is schema (onto kept acting) (numbered acting.counters f) (numbered_fits schema acting.counters f fits) (omega arith) high)
    (subst (λ (k : Durable). are_parts schema k (parts_in handle (inserted handle acting f) fs) ≡ true) (sym (one_comes kept handle acting f)) rest)

-- ---- features that are selected

-- what is known of features of which some are selected
record AreKnown (schema : Schema) (counters : List ℕ) (fs : List Feature) : Type 0 where
  pub counted : All (IsCounted counters) fs
  pub numbered : All (IsNumbered schema) fs

known_tail : (schema : Schema) (counters : List ℕ) (f : Feature) (fs : List Feature) → AreKnown schema counters (f ∷ fs) → AreKnown schema counters fs
known_tail schema counters f fs known = record { counted = All-tail (IsCounted counters) f fs known.counted; numbered = All-tail (IsNumbered schema) f fs known.numbered }

module _ (schema : Schema) (kept : Durable) (action : Action) (of : IsActionOf schema action) (types : length kept.counters ≡ length schema.types) (limit : InLimit kept.counters) where
  one_number : (f : Feature) → IsCounted kept.counters f → IsNumbered schema f → f.id.number ≤ most_number
  one_number f counted one =
      let within : f.id.kind < length kept.counters = (let there = kind_within schema f one.fits in rw types there) in
      omega (arith, counted within, limit f.id.kind)

  one_is : (before : List Feature) (f : Feature) (fs : List Feature) (o : Option Feature) → instead action f ≡ o → IsInOrder (before ++ f ∷ fs) → IsCounted kept.counters f → IsNumbered schema f → selects action f ≡ true
      → is_part schema (at kept (before ++ f ∷ fs)) (part_of f o) ≡ true
  one_is before f fs None is order counted one aim = remove_is schema (at kept (before ++ f ∷ fs)) f (middle_found before f fs order)
  one_is before f fs (Some g) is order counted one aim =
      let same : g.id ≡ f.id = subst (λ (o : Option Feature). IfSome o (λ h. h.id ≡ f.id)) is (instead_keeps action f) in
      let high : f.id.number ≤ most_number = one_number f counted one in
      put_is schema (at kept (before ++ f ∷ fs)) g (instead_fits schema action f g of one.fits aim is) (rw same one.number) (rw same high)

  rest_at : (before : List Feature) (f : Feature) (fs : List Feature) (b : Bool) → selects action f ≡ b → IsInOrder (before ++ f ∷ fs) → AreKnown schema kept.counters (f ∷ fs)
      → ((front : List Feature) → IsInOrder (front ++ fs) → are_parts schema (at kept (front ++ fs)) (map (part action) (filter (selects action) fs)) ≡ true)
      → are_parts schema (at kept (before ++ f ∷ fs)) (map (part action) (cond b (f ∷ filter (selects action) fs) (filter (selects action) fs))) ≡ true
  unfolding are_parts
  rest_at before f fs true aim order known rest =
      let counted : IsCounted kept.counters f = All-head (IsCounted kept.counters) f fs known.counted in
      let one : IsNumbered schema f = All-head (IsNumbered schema) f fs known.numbered in
      and_from (is_part schema (at kept (before ++ f ∷ fs)) (part action f)) _ (one_is before f fs (instead action f) refl order counted one aim)
      (subst (λ (k : Durable). are_parts schema k (map (part action) (filter (selects action) fs)) ≡ true) (sym (one_part kept action before f fs order counted))
      (rest (before ++ to_list (instead action f)) (turn_in_order action before f fs order)))
  rest_at before f fs false aim order known rest =
      let moved : (before ++ f ∷ []) ++ fs ≡ before ++ f ∷ fs = append_assoc before (f ∷ []) fs in
      subst (λ (l : List Feature). are_parts schema (at kept l) (map (part action) (filter (selects action) fs)) ≡ true) moved (rest (before ++ f ∷ []) (subst (λ (l : List Feature). IsInOrder l) (sym moved) order))

  rest_parts : (fs : List Feature) → AreKnown schema kept.counters fs → (before : List Feature) → IsInOrder (before ++ fs) → are_parts schema (at kept (before ++ fs)) (map (part action) (filter (selects action) fs)) ≡ true
  unfolding are_parts
  rest_parts [] known before order = refl
  rest_parts (f ∷ fs) known before order = rest_at before f fs (selects action f) refl order known (rest_parts fs (known_tail schema kept.counters f fs known))

-- ---- actions

risen_changed : (action : Action) (acting : Acting) → Risen acting.counters (changed action acting).counters
risen_changed action acting k = (let same = ap (λ (l : List ℕ). get_or l k 0) (after_counters action acting) in omega (arith, same))

act_risen : (acting : Acting) (action : Action) (done : Acting) → acted acting action ≡ Ok done → Risen acting.counters done.counters
unfolding acted
act_risen acting (Insert handle features) done is k = let now : fold (inserted handle) acting features ≡ done = cc in subst (λ (d : Acting). get_or acting.counters k 0 ≤ get_or d.counters k 0) now (come_more handle acting features k)
act_risen acting (Update handle kind sets passing) done is k = let action : Action = Update handle kind sets passing in subst (λ (d : Acting). Risen acting.counters d.counters) (done_is (are_too_many action (touched_by action acting)) not_one (changed action acting) done is) (risen_changed action acting) k
act_risen acting (Replace handle feature passing) done is k = let action : Action = Replace handle feature passing in subst (λ (d : Acting). Risen acting.counters d.counters) (done_is (are_too_many action (touched_by action acting)) not_one (changed action acting) done is) (risen_changed action acting) k
act_risen acting (Delete kind passing) done is k = let action : Action = Delete kind passing in subst (λ (d : Acting). Risen acting.counters d.counters) (done_is (are_too_many action (touched_by action acting)) not_one (changed action acting) done is) (risen_changed action acting) k

change_parts : (schema : Schema) (kept : Durable) (action : Action) (acting : Acting) → IsActionOf schema action → IsSound acting → IsAllowed schema (length schema.types) acting → InLimit acting.counters
    → are_parts schema (onto kept acting) (map (part action) (filter (selects action) acting.features)) ≡ true
change_parts schema kept action acting of sound allowed limit =
    rest_parts schema (onto kept acting) action of allowed.counters limit acting.features (record { counted = sound.counted; numbered = allowed.fitting }) [] sound.order

act_parts : (schema : Schema) (kept : Durable) (action : Action) (acting done : Acting) → IsActionOf schema action → IsSound acting → IsAllowed schema (length schema.types) acting → acted acting action ≡ Ok done → InLimit done.counters
    → are_parts schema (onto kept acting) (parts_of action acting) ≡ true
unfolding acted parts_of
act_parts schema kept (Insert handle features) acting done of sound allowed is limit =
    let now : fold (inserted handle) acting features ≡ done = cc in
    come_parts schema kept handle acting features of allowed.counters (subst (λ (d : Acting). InLimit d.counters) (sym now) limit)
act_parts schema kept (Update handle kind sets passing) acting done of sound allowed is limit =
    change_parts schema kept (Update handle kind sets passing) acting of sound allowed (λ k. omega (arith, act_risen acting (Update handle kind sets passing) done is k, limit k))
act_parts schema kept (Replace handle feature passing) acting done of sound allowed is limit =
    change_parts schema kept (Replace handle feature passing) acting of sound allowed (λ k. omega (arith, act_risen acting (Replace handle feature passing) done is k, limit k))
act_parts schema kept (Delete kind passing) acting done of sound allowed is limit =
    change_parts schema kept (Delete kind passing) acting of sound allowed (λ k. omega (arith, act_risen acting (Delete kind passing) done is k, limit k))

-- ---- plans

plan_risen : (may : May) (plan next : Planning) (action : Action) → planned may plan action ≡ Ok next → Risen plan.at.counters next.at.counters
unfolding planned
plan_risen may plan next action is k =
    let one = bind_ok (acted plan.at action) _ next is in
    let two = bind_ok (may (touched_by action plan.at)) _ next one.2 in
    let now : one.0 ≡ next.at = (let e = two.2 in cc) in
    subst (λ (d : Acting). get_or plan.at.counters k 0 ≤ get_or d.counters k 0) now (act_risen plan.at action one.0 one.1 k)

each_risen : (may : May) (plan done : Planning) (actions : List Action) → each (planned may) plan actions ≡ Ok done → Risen plan.at.counters done.at.counters
unfolding each
each_risen may plan done [] is k = let same : plan ≡ done = cc in subst (λ (d : Planning). get_or plan.at.counters k 0 ≤ get_or d.at.counters k 0) same (omega arith)
each_risen may plan done (action ∷ actions) is k =
    let one = bind_ok (planned may plan action) _ done is in
    omega (arith, plan_risen may plan one.0 action one.1 k, each_risen may one.0 done actions one.2 k)

plan_parts : (schema : Schema) (kept : Durable) (may : May) (start : Acting) (plan next : Planning) (action : Action) → IsActionOf schema action → IsAllowed schema (length schema.types) plan.at → Plays kept plan.parts start plan.at
    → are_parts schema (onto kept start) plan.parts ≡ true → InLimit next.at.counters → planned may plan action ≡ Ok next → are_parts schema (onto kept start) next.parts ≡ true
unfolding planned
plan_parts schema kept may start plan next action of allowed so_far is limit done =
    let one = bind_ok (acted plan.at action) _ next done in
    let two = bind_ok (may (touched_by action plan.at)) _ next one.2 in
    let now : one.0 ≡ next.at = (let e = two.2 in cc) in
    let parts : plan.parts ++ parts_of action plan.at ≡ next.parts = (let e = two.2 in cc) in
    let more = act_parts schema kept action plan.at one.0 of so_far.sound allowed one.1 (subst (λ (d : Acting). InLimit d.counters) (sym now) limit) in
    subst (λ (l : List Part). are_parts schema (onto kept start) l ≡ true) parts
    (are_append schema (onto kept start) plan.parts (parts_of action plan.at) is (subst (λ (k : Durable). are_parts schema k (parts_of action plan.at) ≡ true) (sym so_far.played) more))

each_parts : (schema : Schema) (kept : Durable) (may : May) (start : Acting) (plan done : Planning) (actions : List Action) → All (IsActionOf schema) actions → IsAllowed schema (length schema.types) plan.at → Plays kept plan.parts start plan.at
    → are_parts schema (onto kept start) plan.parts ≡ true → InLimit done.at.counters → each (planned may) plan actions ≡ Ok done → are_parts schema (onto kept start) done.parts ≡ true
unfolding each
each_parts schema kept may start plan done [] of allowed so_far is limit e = let same : plan ≡ done = cc in subst (λ (p : Planning). are_parts schema (onto kept start) p.parts ≡ true) same is
each_parts schema kept may start plan done (action ∷ actions) of allowed so_far is limit e =
    let one = bind_ok (planned may plan action) _ done e in
    let here : IsActionOf schema action = All-head (IsActionOf schema) action actions of in
    each_parts schema kept may start one.0 done actions (All-tail (IsActionOf schema) action actions of) (plan_allowed schema (length schema.types) may plan one.0 action here allowed one.1) (plan_plays kept may start plan one.0 action so_far one.1)
    (plan_parts schema kept may start plan one.0 action here allowed so_far is (λ k. omega (arith, each_risen may one.0 done actions one.2 k, limit k)) one.1) limit one.2

-- ---- stored queries

names_are : (names : List (List ℕ)) → All (λ name. 0 < length name) names → AllPairs (λ a b. is_same_name a b ≡ false) names → are_names names ≡ true
unfolding are_names
names_are [] some apart = refl
names_are (name ∷ names) some apart =
    let first : 0 < length name = All-head (λ (n : List ℕ). 0 < length n) name names some in
    let others : list_any (is_same_name name) names ≡ false = list_any_none (is_same_name name) names (λ k d lt. apart 0 (suc k) d (omega arith) (omega (arith, lt))) in
    let rest : are_names names ≡ true = names_are names (All-tail (λ (n : List ℕ). 0 < length n) name names some) (λ i j d lt within. apart (suc i) (suc j) d (omega (arith, lt)) (omega (arith, within))) in
    and_from (nat_lt 0 (length name)) _ (grind (arith, first)) (and_from (not (list_any (is_same_name name) names)) (are_names names) (not_from_false (list_any (is_same_name name) names) others) rest)

all_named : (schema : Schema) (queries : List StoredQuery) → All (IsStoredOf schema) queries → list_all (λ query. are_names query.parameters) queries ≡ true
all_named schema [] of = refl
all_named schema (query ∷ queries) of =
    let one : IsStoredOf schema query = All-head (IsStoredOf schema) query queries of in
    and_from (are_names query.parameters) _ (names_are query.parameters one.names one.different) (all_named schema queries (All-tail (IsStoredOf schema) query queries of))

-- ---- steps

accepted_ok : {X E : Type 0} (r : Result X E) (made change : Change) → if_accepted r made ≡ Some change → (is_ok r ≡ true) × (made ≡ change)
accepted_ok (Ok x) made change is = (refl, cc)
accepted_ok (Err fault) made change is = absurd cc

dropped_ok : (b : Bool) (stored : List StoredQuery) (fault : StoredFault) → is_ok (let r : Result (List StoredQuery) StoredFault = if b then Ok stored else Err fault in r) ≡ true → b ≡ true
dropped_ok true stored fault is = refl
dropped_ok false stored fault is = absurd cc

dropped_there : (stored : List StoredQuery) (id : List ℕ) → is_ok (dropped stored id) ≡ true → is_there stored id ≡ true
unfolding dropped
dropped_there stored id is = dropped_ok (is_there stored id) (without_query stored id) (Unknown id) is

rows_at : (parts : List Part) (b : Bool) (change : Change) → (let o : Option Change = if b then None else Some (Rows parts) in o) ≡ Some change → Rows parts ≡ change
rows_at parts true change is = absurd cc
rows_at parts false change is = cc

-- the plan behind the change of a transaction
plan_behind : (r : Result Planning Refusal) (change : Change) → rows_if r ≡ Some change → (plan : Planning) × (r ≡ Ok plan) × (Rows plan.parts ≡ change)
plan_behind (Err refusal) change is = absurd cc
plan_behind (Ok plan) change is = (plan, refl, rows_at plan.parts (length plan.parts == 0) change is)

all_in_limit : (counters : List ℕ) → All (λ n. n ≤ most_number) counters → InLimit counters
all_in_limit counters all k = by_place (cases_lt k (length counters))
  where
    by_place : (k < length counters) ⊎ (length counters ≤ k) → get_or counters k 0 ≤ most_number
    by_place (inl within) = all k 0 within
    by_place (inr past) = rw (get_or_past counters k 0 past) (omega arith)

transact_playable : (schema : Schema) (state : State) (moment : ℕ) (lock : Option LockId) (release : Release) (actions : List Action) (change : Change) → IsKept schema (durable state) → All (IsActionOf schema) actions
    → rows_if (plan_of schema state moment lock actions) ≡ Some change → All (λ n. n ≤ most_number) (settled state moment (plan_of schema state moment lock actions >>= λ plan. Ok (carried_out state moment lock release plan))).1.counters
    → is_playable schema (durable state) change ≡ true
unfolding plan_of plan_with planned_all carried_out is_playable are_parts
transact_playable schema state moment lock release actions change kept of makes limit =
    let found = plan_behind (plan_of schema state moment lock actions) change makes in
    let named = bind_ok (named_if state moment lock) _ found.0 found.1 in
    let high : All (λ n. n ≤ most_number) found.0.at.counters = subst (λ (r : Result Planning Refusal). All (λ n. n ≤ most_number) (settled state moment (r >>= λ plan. Ok (carried_out state moment lock release plan))).1.counters) found.1 limit in
    let start : Planning = record { at = begun state.features state.counters; parts = []; touched = [] } in
    let sound : IsSound (begun state.features state.counters) = sound_kept schema (durable state) kept in
    subst (λ (c : Change). is_playable schema (durable state) c ≡ true) found.2
    (each_parts schema (durable state) (permitted schema state.locks moment named.0) (begun state.features state.counters) start found.0 actions of (record { fitting = numbered_kept schema (durable state) kept; counters = kept.counters })
    (record { sound = sound; played = refl }) refl (all_in_limit found.0.at.counters high) named.2)

-- the change that a step makes may be played, where the counters behind the step are within the limit
pub made_playable : (schema : Schema) (state : State) (moment : ℕ) (request : Request) (change : Change) → IsKept schema (durable state) → IsOfSchema schema request → change_of schema state moment request ≡ Some change
    → All (λ n. n ≤ most_number) (step schema state moment request).1.counters → is_playable schema (durable state) change ≡ true
unfolding change_of step is_playable
made_playable schema state moment Capabilities change kept of makes limit = absurd cc
made_playable schema state moment (DescribeTypes kinds) change kept of makes limit = absurd cc
made_playable schema state moment (GetFeatures present asked) change kept of makes limit = absurd cc
made_playable schema state moment (GetValues present asked property) change kept of makes limit = absurd cc
made_playable schema state moment (GetLocked present asked take period) change kept of makes limit = absurd cc
made_playable schema state moment (Lock asked take period) change kept of makes limit = absurd cc
made_playable schema state moment (Renew lock period) change kept of makes limit = absurd cc
made_playable schema state moment (Transact lock release actions) change kept of makes limit = transact_playable schema state moment lock release actions change kept of.actions makes limit
made_playable schema state moment ListStored change kept of makes limit = absurd cc
made_playable schema state moment (DescribeStored ids) change kept of makes limit = absurd cc
made_playable schema state moment (CreateStored queries) change kept of makes limit =
    let made = accepted_ok (created state.stored queries) (Created queries) change makes in
    subst (λ (c : Change). is_playable schema (durable state) c ≡ true) made.1 (and_from (is_ok (created state.stored queries)) _ made.0 (all_named schema queries of.stored))
made_playable schema state moment (DropStored id) change kept of makes limit =
    let made = accepted_ok (dropped state.stored id) (Dropped id) change makes in
    subst (λ (c : Change). is_playable schema (durable state) c ≡ true) made.1 (dropped_there state.stored id made.0)

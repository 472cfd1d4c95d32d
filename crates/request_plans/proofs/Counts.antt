-- How many features stand behind a transaction: as many as stood, with those that came in and without those that went.
use Rattle.std.proofs.Common.{◌≡◌, ℕ, ◌+◌, ◌<◌, ◌≤◌, Bool, true, false, cond, not, List, [], ◌∷◌, ◌++◌, length, get_or, filter, All, Option, Some, Result, Ok, refl, ap, ◌∙◌, subst, set, length-set, length-append, arith}
use Rattle.std.specs.Prelude.{flat_map}
use Rattle.std.specs.List.{fold}
use Rattle.std.proofs.lemmas.List.{length-map}
use Rattle.std.proofs.lemmas.List.Elements.{All-head, All-tail, All-weaker}
use Rattle.wfs_ends.specs.Read.{each}
use Rattle.feature_values.specs.declared.feature.Feature.{Feature}
use Rattle.feature_values.specs.declared.feature.Rid.{Rid}
use Rattle.feature_values.specs.declared.schema.Schema.{Schema}
use Rattle.fes_filter.specs.View.{is_before}
use Rattle.feature_overlay.specs.Laid.{laid}
use Rattle.wfs_model.specs.declared.action.Action.{Action}
use Rattle.wfs_model.specs.declared.action.Action.TheVariants.{Insert, Update, Replace, Delete}
use Rattle.wfs_model.specs.declared.reply.Refusal.{Refusal}
use Rattle.wfs_model.specs.Acts.{Acting, begun, numbered, inserted, told, selects, instead, left_of, noted, changed, acted, selected_by, touched_by, are_too_many, parts_of, with_value}
use Rattle.wfs_model.specs.OfSchema.{IsNewOf, IsActionOf}
use Rattle.wfs_model.specs.Plans.{Planning, planned, planned_all}
use Rattle.wfs_model.specs.Refusals.{not_one}
use Rattle.wfs_model.proofs.Keeping.{kind_within}
use Rattle.wfs_model.proofs.Playing.{IsCounted, counted_more, new_counted, left_counted}
use Rattle.wfs_model.proofs.Sound.{bind_ok, all_laid, after_features, after_counters, done_is}

-- ---- a feature that comes in

split_at : (b c : Bool) (f : Feature) (fs gs : List Feature) (n : ℕ) → c ≡ not b → length fs + length gs ≡ n → length (cond b (f ∷ fs) fs) + length (cond c (f ∷ gs) gs) ≡ n + 1
split_at true false f fs gs n is sum = omega (arith, sum)
split_at false true f fs gs n is sum = omega (arith, sum)
split_at true true f fs gs n is sum = absurd (let bad = is in cc)
split_at false false f fs gs n is sum = absurd (let bad = is in cc)

split : (p q : Feature → Bool) (fs : List Feature) → All (λ f. q f ≡ not (p f)) fs → length (filter p fs) + length (filter q fs) ≡ length fs
split p q [] all = refl
split p q (f ∷ fs) all =
    let more : length (filter p fs) + length (filter q fs) ≡ length fs = split p q fs (All-tail (λ (g : Feature). q g ≡ not (p g)) f fs all) in
    let sum = split_at (p f) (q f) f (filter p fs) (filter q fs) (length fs) (All-head (λ (g : Feature). q g ≡ not (p g)) f fs all) more in
    omega (arith, sum)

-- under an identifier that no feature has
abbrev IsApart : Rid → Feature → Type 0
IsApart id f = is_before id f.id ≡ not (is_before f.id id)

laid_longer : (fs : List Feature) (id : Rid) (g : Feature) → All (IsApart id) fs → length (laid fs id (Some g)) ≡ length fs + 1
unfolding laid
laid_longer fs id g apart =
    let whole = length-append (filter (λ (f : Feature). is_before f.id id) fs) (g ∷ filter (λ (f : Feature). is_before id f.id) fs) in
    let parts = split (λ (f : Feature). is_before f.id id) (λ (f : Feature). is_before id f.id) fs apart in
    whole ∙ omega (arith, parts)

apart_at : (a b : Rid) (n : ℕ) → b.number ≡ n + 1 → (a.kind ≡ b.kind → a.number ≤ n) → is_before b a ≡ not (is_before a b)
apart_at a b n next low = grind (arith, next, low)

new_apart : (counters : List ℕ) (f g : Feature) → f.id.kind < length counters → IsCounted counters g → IsApart (numbered counters f).id g
new_apart counters f g within counted =
    apart_at g.id (numbered counters f).id (get_or counters f.id.kind 0) refl
    (λ same. let low : g.id.number ≤ get_or counters g.id.kind 0 = counted (rw same within) in subst (λ (k : ℕ). g.id.number ≤ get_or counters k 0) same low)

-- ---- in the middle

-- so many counters, numbers that were given, and as many features as is told
record IsTallied (types before : ℕ) (at : Acting) : Type 0 where
  many : length at.counters ≡ types
  counted : All (IsCounted at.counters) at.features
  sum : length at.features + at.deleted ≡ before + length at.inserted

one_comes : (types before : ℕ) (handle : Option (List ℕ)) (at : Acting) (f : Feature) → f.id.kind < types → IsTallied types before at → IsTallied types before (inserted handle at f)
unfolding inserted
one_comes types before handle at f within so_far =
    let g : Feature = numbered at.counters f in
    let there : f.id.kind < length at.counters = rw so_far.many within in
    let longer : length (laid at.features g.id (Some g)) ≡ length at.features + 1 =
    laid_longer at.features g.id g (All-weaker (IsCounted at.counters) (IsApart g.id) (λ h counted. new_apart at.counters f h there counted) at.features so_far.counted) in
    let told_all : length (at.inserted ++ told handle g.id ∷ []) ≡ length at.inserted + 1 = length-append at.inserted (told handle g.id ∷ []) in
    let before_sum = so_far.sum in
    record {
      many = length-set at.counters f.id.kind (get_or at.counters f.id.kind 0 + 1) ∙ so_far.many;
      counted = all_laid (IsCounted (set at.counters f.id.kind (get_or at.counters f.id.kind 0 + 1))) at.features g (new_counted at.counters f)
          (All-weaker (IsCounted at.counters) (IsCounted (set at.counters f.id.kind (get_or at.counters f.id.kind 0 + 1))) (λ h given. counted_more at.counters f.id.kind (get_or at.counters f.id.kind 0 + 1) h (omega arith) given) at.features so_far.counted);
      sum = omega (arith, longer, told_all, before_sum);
    }

all_come : (schema : Schema) (before : ℕ) (handle : Option (List ℕ)) (at : Acting) (fs : List Feature) → All (IsNewOf schema) fs → IsTallied (length schema.types) before at → IsTallied (length schema.types) before (fold (inserted handle) at fs)
all_come schema before handle at [] new so_far = so_far
all_come schema before handle at (f ∷ fs) new so_far =
    all_come schema before handle (inserted handle at f) fs (All-tail (IsNewOf schema) f fs new)
    (one_comes (length schema.types) before handle at f (kind_within schema f (All-head (IsNewOf schema) f fs new).fits) so_far)

-- ---- features that are selected

-- how many features an action takes away
abbrev gone : Action → List Feature → ℕ
gone (Delete kind filter_of) fs = length (filter (selects (Delete kind filter_of)) fs)
gone action fs = 0

kept_at : (b : Bool) (f g : Feature) (fs : List Feature) (n : ℕ) → length fs ≡ n → length (cond b (g ∷ []) (f ∷ []) ++ fs) ≡ n + 1
kept_at true f g fs n is = omega (arith, is)
kept_at false f g fs n is = omega (arith, is)

gone_at : (b : Bool) (f : Feature) (fs gs : List Feature) (n : ℕ) → length fs + length gs ≡ n → length (cond b [] (f ∷ []) ++ fs) + length (cond b (f ∷ gs) gs) ≡ n + 1
gone_at true f fs gs n is = omega (arith, is)
gone_at false f fs gs n is = omega (arith, is)

left_many : (action : Action) (fs : List Feature) → length (flat_map (left_of action) fs) + gone action fs ≡ length fs
unfolding left_of instead
left_many (Insert handle features) [] = refl
left_many (Update handle kind sets filter_of) [] = refl
left_many (Replace handle feature filter_of) [] = refl
left_many (Delete kind filter_of) [] = refl
left_many (Insert handle features) (f ∷ fs) =
    let action : Action = Insert handle features in
    let more = left_many action fs in let here = kept_at (selects action f) f f (flat_map (left_of action) fs) (length (flat_map (left_of action) fs)) refl in omega (arith, more, here)
left_many (Update handle kind sets filter_of) (f ∷ fs) =
    let action : Action = Update handle kind sets filter_of in
    let more = left_many action fs in let here = kept_at (selects action f) f (record f { values = fold with_value f.values sets }) (flat_map (left_of action) fs) (length (flat_map (left_of action) fs)) refl in omega (arith, more, here)
left_many (Replace handle feature filter_of) (f ∷ fs) =
    let action : Action = Replace handle feature filter_of in
    let more = left_many action fs in let here = kept_at (selects action f) f (record f { values = feature.values }) (flat_map (left_of action) fs) (length (flat_map (left_of action) fs)) refl in omega (arith, more, here)
left_many (Delete kind filter_of) (f ∷ fs) =
    let action : Action = Delete kind filter_of in
    let more = left_many action fs in
    let here = gone_at (selects action f) f (flat_map (left_of action) fs) (filter (selects action) fs) (length fs) more in omega (arith, here)

noted_deleted : (action : Action) (ids : List Rid) (fs : List Feature) (at : Acting) → length ids ≡ length (filter (selects action) fs) → (noted action ids at).deleted ≡ at.deleted + gone action fs
unfolding noted
noted_deleted (Insert handle features) ids fs at is = omega arith
noted_deleted (Update handle kind sets filter_of) ids fs at is = omega arith
noted_deleted (Replace handle feature filter_of) ids fs at is = omega arith
noted_deleted (Delete kind filter_of) ids fs at is = ap (λ n. at.deleted + n) is

noted_inserted : (action : Action) (ids : List Rid) (at : Acting) → (noted action ids at).inserted ≡ at.inserted
unfolding noted
noted_inserted (Insert handle features) ids at = refl
noted_inserted (Update handle kind sets filter_of) ids at = refl
noted_inserted (Replace handle feature filter_of) ids at = refl
noted_inserted (Delete kind filter_of) ids at = refl

change_tallied : (types before : ℕ) (action : Action) (at : Acting) → IsTallied types before at → IsTallied types before (changed action at)
change_tallied types before action at so_far =
    let left = left_many action at.features in
    let deleted = noted_deleted action (touched_by action at) at.features (record at { features = flat_map (left_of action) at.features }) (length-map (selected_by action at) (λ (f : Feature). f.id)) in
    let come = ap (λ l. length l) (noted_inserted action (touched_by action at) (record at { features = flat_map (left_of action) at.features })) in
    let features = ap (λ (l : List Feature). length l) (after_features action at) in
    let before_sum = so_far.sum in
    record {
      many = ap (λ (l : List ℕ). length l) (after_counters action at) ∙ so_far.many;
      counted = rw (after_features action at, after_counters action at) (left_counted at.counters action at.features so_far.counted);
      sum = omega (arith, left, deleted, come, features, before_sum);
    }

-- ---- actions

acts_tallied : (schema : Schema) (before : ℕ) (action : Action) (at done : Acting) → IsActionOf schema action → IsTallied (length schema.types) before at → acted at action ≡ Ok done → IsTallied (length schema.types) before done
unfolding acted
acts_tallied schema before (Insert handle features) at done fits so_far is =
    let now : fold (inserted handle) at features ≡ done = cc in subst (IsTallied (length schema.types) before) now (all_come schema before handle at features fits so_far)
acts_tallied schema before (Update handle kind sets filter_of) at done fits so_far is =
    let action : Action = Update handle kind sets filter_of in
    subst (IsTallied (length schema.types) before) (done_is (are_too_many action (touched_by action at)) not_one (changed action at) done is) (change_tallied (length schema.types) before action at so_far)
acts_tallied schema before (Replace handle feature filter_of) at done fits so_far is =
    let action : Action = Replace handle feature filter_of in
    subst (IsTallied (length schema.types) before) (done_is (are_too_many action (touched_by action at)) not_one (changed action at) done is) (change_tallied (length schema.types) before action at so_far)
acts_tallied schema before (Delete kind filter_of) at done fits so_far is =
    let action : Action = Delete kind filter_of in
    subst (IsTallied (length schema.types) before) (done_is (are_too_many action (touched_by action at)) not_one (changed action at) done is) (change_tallied (length schema.types) before action at so_far)

abbrev May : Type 0
May = List Rid → Result (Unit {0}) Refusal

plan_tallied : (schema : Schema) (before : ℕ) (may : May) (plan next : Planning) (action : Action) → IsActionOf schema action → IsTallied (length schema.types) before plan.at → planned may plan action ≡ Ok next → IsTallied (length schema.types) before next.at
unfolding planned
plan_tallied schema before may plan next action fits so_far is =
    let one = bind_ok (acted plan.at action) _ next is in
    let two = bind_ok (may (touched_by action plan.at)) _ next one.2 in
    let now : Planning = record { at = one.0; parts = plan.parts ++ parts_of action plan.at; touched = plan.touched ++ touched_by action plan.at } in
    let same : now ≡ next = (let e = two.2 in cc) in
    subst (λ (p : Planning). IsTallied (length schema.types) before p.at) same (acts_tallied schema before action plan.at one.0 fits so_far one.1)

each_tallied : (schema : Schema) (before : ℕ) (may : May) (plan done : Planning) (actions : List Action) → All (IsActionOf schema) actions → IsTallied (length schema.types) before plan.at → each (planned may) plan actions ≡ Ok done → IsTallied (length schema.types) before done.at
unfolding each
each_tallied schema before may plan done [] fits so_far is = let same : plan ≡ done = cc in subst (λ (p : Planning). IsTallied (length schema.types) before p.at) same so_far
each_tallied schema before may plan done (action ∷ actions) fits so_far is =
    let one = bind_ok (planned may plan action) _ done is in
    each_tallied schema before may one.0 done actions (All-tail (IsActionOf schema) action actions fits) (plan_tallied schema before may plan one.0 action (All-head (IsActionOf schema) action actions fits) so_far one.1) one.2

-- as many features stand behind actions as is told
pub tally_is : (schema : Schema) (may : May) (features : List Feature) (counters : List ℕ) (actions : List Action) (done : Planning) → length counters ≡ length schema.types → All (IsCounted counters) features → All (IsActionOf schema) actions → planned_all may features counters actions ≡ Ok done
    → length done.at.features + done.at.deleted ≡ length features + length done.at.inserted
unfolding planned_all
tally_is schema may features counters actions done many counted fits is =
    (each_tallied schema (length features) may (record { at = begun features counters; parts = []; touched = [] }) done actions fits (record { many = many; counted = counted; sum = omega arith }) is).sum

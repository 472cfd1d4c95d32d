-- What the actions of a transaction leave is in order, under numbers that were given, and it is what their parts leave.
use Rattle.std.proofs.Common.{◌≡◌, ℕ, ◌+◌, Bool, true, false, cond, List, [], ◌∷◌, ◌++◌, get_or, map, filter, All, Option, Some, Result, Ok, Err, refl, sym, ap, ◌∙◌, subst, set, arith}
use Rattle.std.specs.Prelude.{flat_map, if◌then◌else◌}
use Rattle.std.specs.List.{fold}
use Rattle.std.proofs.lemmas.List.Sums.{fold-append}
use Rattle.std.proofs.lemmas.List.Elements.{All-nil, All-cons, All-head, All-tail, All-weaker, All-append}
use Rattle.wfs_ends.specs.Read.{◌>>=◌, each}
use Rattle.feature_values.specs.declared.feature.Feature.{Feature}
use Rattle.feature_values.specs.declared.feature.Rid.{Rid}
use Rattle.fes_filter.specs.View.{is_before, IsInOrder}
use Rattle.feature_overlay.specs.Laid.{laid}
use Rattle.feature_overlay.proofs.Layings.{laid_in_order}
use Rattle.wfs_model.specs.declared.action.Action.{Action}
use Rattle.wfs_model.specs.declared.action.Action.TheVariants.{Insert, Update, Replace, Delete}
use Rattle.wfs_model.specs.declared.change.Part.{Part}
use Rattle.wfs_model.specs.declared.change.Part.TheVariants.{Put}
use Rattle.wfs_model.specs.declared.reply.Refusal.{Refusal}
use Rattle.wfs_model.specs.Acts.{Acting, begun, numbered, inserted, selects, left_of, noted, changed, acted, touched_by, are_too_many, parts_in, parts_of}
use Rattle.wfs_model.specs.Refusals.{not_one}
use Rattle.wfs_model.specs.Plans.{Planning, planned, planned_all}
use Rattle.wfs_model.specs.State.{Durable}
use Rattle.wfs_model.specs.Played.{part_played}
use Rattle.wfs_model.proofs.Playing.{IsCounted, next_is, counted_more, new_counted, onto, plays, part, left_in_order, left_counted}

-- the features are in order, under numbers that were given
pub record IsSound (acting : Acting) : Type 0 where
  pub order : IsInOrder acting.features
  pub counted : All (IsCounted acting.counters) acting.features

-- ---- results

pub bind_ok : {E A B : Type 0} (r : Result A E) (f : A → Result B E) (y : B) → (r >>= f) ≡ Ok y → (x : A) × (r ≡ Ok x) × (f x ≡ Ok y)
bind_ok (Ok x) f y e = (x, refl, e)
bind_ok (Err fault) f y e = absurd (let bad = e in cc)

-- ---- a feature that comes in

filter_at : (P : Feature → Type 0) (p : Feature → Bool) (f : Feature) (fs : List Feature) (b : Bool) → P f → All P (filter p fs) → All P (cond b (f ∷ filter p fs) (filter p fs))
filter_at P p f fs true here rest = All-cons P f (filter p fs) here rest
filter_at P p f fs false here rest = rest

all_filter : (P : Feature → Type 0) (p : Feature → Bool) (fs : List Feature) → All P fs → All P (filter p fs)
all_filter P p [] all = All-nil P
all_filter P p (f ∷ fs) all = filter_at P p f fs (p f) (All-head P f fs all) (all_filter P p fs (All-tail P f fs all))

pub all_laid : (P : Feature → Type 0) (fs : List Feature) (g : Feature) → P g → All P fs → All P (laid fs g.id (Some g))
unfolding laid
all_laid P fs g here all =
    All-append P (filter (λ f. is_before f.id g.id) fs) (g ∷ filter (λ f. is_before g.id f.id) fs) (all_filter P (λ f. is_before f.id g.id) fs all)
    (All-cons P g (filter (λ f. is_before g.id f.id) fs) here (all_filter P (λ f. is_before g.id f.id) fs all))

pub one_comes : (kept : Durable) (handle : Option (List ℕ)) (acting : Acting) (f : Feature) → part_played (onto kept acting) (Put (numbered acting.counters f)) ≡ onto kept (inserted handle acting f)
unfolding part_played inserted
one_comes kept handle acting f =
    ap (λ n. record kept { features = laid acting.features (numbered acting.counters f).id (Some (numbered acting.counters f)); counters = set acting.counters f.id.kind n }) (next_is (get_or acting.counters f.id.kind 0))

come_in : (kept : Durable) (handle : Option (List ℕ)) (acting : Acting) (fs : List Feature) → fold part_played (onto kept acting) (parts_in handle acting fs) ≡ onto kept (fold (inserted handle) acting fs)
unfolding parts_in
come_in kept handle acting [] = refl
come_in kept handle acting (f ∷ fs) =
    ap (λ (k : Durable). fold part_played k (parts_in handle (inserted handle acting f) fs)) (one_comes kept handle acting f) ∙ come_in kept handle (inserted handle acting f) fs

comes_sound : (handle : Option (List ℕ)) (acting : Acting) (f : Feature) → IsSound acting → IsSound (inserted handle acting f)
unfolding inserted
comes_sound handle acting f sound =
    let g : Feature = numbered acting.counters f in
    record {
      order = laid_in_order acting.features g.id (Some g) refl sound.order;
      counted = all_laid (IsCounted (set acting.counters f.id.kind (get_or acting.counters f.id.kind 0 + 1))) acting.features g (new_counted acting.counters f)
          (All-weaker (IsCounted acting.counters) (IsCounted (set acting.counters f.id.kind (get_or acting.counters f.id.kind 0 + 1))) (λ h given. counted_more acting.counters f.id.kind (get_or acting.counters f.id.kind 0 + 1) h (omega arith) given) acting.features sound.counted);
    }

come_sound : (handle : Option (List ℕ)) (acting : Acting) (fs : List Feature) → IsSound acting → IsSound (fold (inserted handle) acting fs)
come_sound handle acting [] sound = sound
come_sound handle acting (f ∷ fs) sound = come_sound handle (inserted handle acting f) fs (comes_sound handle acting f sound)

-- ---- features that are selected

noted_features : (action : Action) (ids : List Rid) (acting : Acting) → (noted action ids acting).features ≡ acting.features
unfolding noted
noted_features (Insert handle features) ids acting = refl
noted_features (Update handle kind sets passing) ids acting = refl
noted_features (Replace handle feature passing) ids acting = refl
noted_features (Delete kind passing) ids acting = refl

noted_counters : (action : Action) (ids : List Rid) (acting : Acting) → (noted action ids acting).counters ≡ acting.counters
unfolding noted
noted_counters (Insert handle features) ids acting = refl
noted_counters (Update handle kind sets passing) ids acting = refl
noted_counters (Replace handle feature passing) ids acting = refl
noted_counters (Delete kind passing) ids acting = refl

-- the features and counters after an action that changes features
pub after_features : (action : Action) (acting : Acting) → (changed action acting).features ≡ flat_map (left_of action) acting.features
after_features action acting = noted_features action (touched_by action acting) (record acting { features = flat_map (left_of action) acting.features })

pub after_counters : (action : Action) (acting : Acting) → (changed action acting).counters ≡ acting.counters
after_counters action acting = noted_counters action (touched_by action acting) (record acting { features = flat_map (left_of action) acting.features })

change_sound : (action : Action) (acting : Acting) → IsSound acting → IsSound (changed action acting)
change_sound action acting sound = record {
  order = subst (λ (l : List Feature). IsInOrder l) (sym (after_features action acting)) (left_in_order action acting.features [] sound.order);
  counted = rw (after_features action acting, after_counters action acting) (left_counted acting.counters action acting.features sound.counted);
}

change_plays : (kept : Durable) (action : Action) (acting : Acting) → IsSound acting → fold part_played (onto kept acting) (map (part action) (filter (selects action) acting.features)) ≡ onto kept (changed action acting)
change_plays kept action acting sound =
    plays (onto kept acting) action acting.features [] sound.order sound.counted
    ∙ ap (λ (l : List Feature). record kept { features = l; counters = acting.counters }) (sym (after_features action acting))
    ∙ ap (λ (l : List ℕ). record kept { features = (changed action acting).features; counters = l }) (sym (after_counters action acting))

-- ---- actions

-- the action leaves what its parts leave, in order
pub record Plays (kept : Durable) (parts : List Part) (before now : Acting) : Type 0 where
  pub sound : IsSound now
  pub played : fold part_played (onto kept before) parts ≡ onto kept now

pub done_is : (b : Bool) (refusal : Refusal) (acting done : Acting) → (let r : Result Acting Refusal = if b then Err refusal else Ok acting in r) ≡ Ok done → acting ≡ done
done_is true refusal acting done e = absurd cc
done_is false refusal acting done e = cc

changes : (kept : Durable) (action : Action) (acting done : Acting) → IsSound acting → changed action acting ≡ done → Plays kept (map (part action) (filter (selects action) acting.features)) acting done
changes kept action acting done sound is = subst (λ (now : Acting). Plays kept (map (part action) (filter (selects action) acting.features)) acting now) is (record { sound = change_sound action acting sound; played = change_plays kept action acting sound })

acts : (kept : Durable) (action : Action) (acting done : Acting) → IsSound acting → acted acting action ≡ Ok done → Plays kept (parts_of action acting) acting done
unfolding acted parts_of
acts kept (Insert handle features) acting done sound is =
    let now : fold (inserted handle) acting features ≡ done = cc in
    subst (λ (now : Acting). Plays kept (parts_in handle acting features) acting now) now (record { sound = come_sound handle acting features sound; played = come_in kept handle acting features })
acts kept (Update handle kind sets passing) acting done sound is = let action : Action = Update handle kind sets passing in changes kept action acting done sound (done_is (are_too_many action (touched_by action acting)) not_one (changed action acting) done is)
acts kept (Replace handle feature passing) acting done sound is = let action : Action = Replace handle feature passing in changes kept action acting done sound (done_is (are_too_many action (touched_by action acting)) not_one (changed action acting) done is)
acts kept (Delete kind passing) acting done sound is = let action : Action = Delete kind passing in changes kept action acting done sound (done_is (are_too_many action (touched_by action acting)) not_one (changed action acting) done is)

-- ---- all actions

abbrev pub May : Type 0
May = List Rid → Result (Unit {0}) Refusal

pub plan_plays : (kept : Durable) (may : May) (start : Acting) (plan next : Planning) (action : Action) → Plays kept plan.parts start plan.at → planned may plan action ≡ Ok next → Plays kept next.parts start next.at
unfolding planned
plan_plays kept may start plan next action so_far is =
    let one = bind_ok (acted plan.at action) _ next is in
    let two = bind_ok (may (touched_by action plan.at)) _ next one.2 in
    let step : Plays kept (parts_of action plan.at) plan.at one.0 = acts kept action plan.at one.0 so_far.sound one.1 in
    let now : Planning = record { at = one.0; parts = plan.parts ++ parts_of action plan.at; touched = plan.touched ++ touched_by action plan.at } in
    let same : now ≡ next = (let e = two.2 in cc) in
    subst (λ (p : Planning). Plays kept p.parts start p.at) same (record {
      sound = step.sound;
      played = fold-append part_played (onto kept start) plan.parts (parts_of action plan.at) ∙ ap (λ (k : Durable). fold part_played k (parts_of action plan.at)) so_far.played ∙ step.played;
    })

each_plays : (kept : Durable) (may : May) (start : Acting) (plan done : Planning) (actions : List Action) → Plays kept plan.parts start plan.at → each (planned may) plan actions ≡ Ok done → Plays kept done.parts start done.at
unfolding each
each_plays kept may start plan done [] so_far is = let same : plan ≡ done = cc in subst (λ (p : Planning). Plays kept p.parts start p.at) same so_far
each_plays kept may start plan done (action ∷ actions) so_far is =
    let one = bind_ok (planned may plan action) _ done is in
    each_plays kept may start one.0 done actions (plan_plays kept may start plan one.0 action so_far one.1) one.2

-- what a plan's parts leave is what the plan leaves
pub all_play : (kept : Durable) (may : May) (features : List Feature) (counters : List ℕ) (actions : List Action) (done : Planning) → IsSound (begun features counters) → planned_all may features counters actions ≡ Ok done → Plays kept done.parts (begun features counters) done.at
unfolding planned_all
all_play kept may features counters actions done sound is =
    each_plays kept may (begun features counters) (record { at = begun features counters; parts = []; touched = [] }) done actions (record { sound = sound; played = refl }) is

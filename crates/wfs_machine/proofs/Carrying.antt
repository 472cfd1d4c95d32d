-- What a transaction leaves is what its plan leaves, and is kept well.
use Rattle.std.proofs.Common.{◌≡◌, ℕ, List, Option, Ok, refl, sym, ap, ◌∙◌, subst}
use Rattle.std.specs.List.{fold}
use Rattle.feature_values.specs.declared.feature.Feature.{Feature}
use Rattle.feature_values.specs.declared.feature.Rid.{Rid}
use Rattle.feature_values.specs.declared.schema.Schema.{Schema}
use Rattle.lock_table.specs.declared.id.LockId.{LockId}
use Rattle.lock_table.specs.declared.words.Release.{Release}
use Rattle.wfs_model.specs.declared.action.Action.{Action}
use Rattle.wfs_model.specs.declared.change.Part.{Part}
use Rattle.wfs_model.specs.declared.change.Change.TheVariants.{Rows}
use Rattle.lock_table.specs.Lock.{Lock}
use Rattle.wfs_model.specs.declared.stored.StoredQuery.{StoredQuery}
use Rattle.wfs_model.specs.declared.request.Request.TheVariants.{Transact}
use Rattle.wfs_model.specs.Acts.{begun}
use Rattle.wfs_model.specs.Kept.{IsKept}
use Rattle.wfs_model.specs.Locking.{named_if}
use Rattle.wfs_model.specs.OfSchema.{IsOfSchema}
use Rattle.wfs_model.specs.Plans.{Planning, permitted}
use Rattle.wfs_model.specs.Played.{part_played}
use Rattle.wfs_model.specs.State.{State, Durable, durable}
use Rattle.wfs_model.specs.Step.{Done, plan_of, plan_with, transacted, unlocked, carried_out, settled, step}
use Rattle.wfs_model.proofs.Sound.{Plays, bind_ok, all_play}
use Rattle.wfs_model.proofs.Stepping.{sound_kept}
use Rattle.wfs_model.proofs.Keeping.{step_keeps}
use Rattle.transaction_core.specs.declared.planned.Planned.{Planned}
use Rattle.transaction_core.specs.Plan.{planned_by, transaction}
use Rattle.wfs_machine.specs.Carried.{carried}
use Rattle.wfs_machine.specs.Ordered.{with_rows}

-- the plan of a transaction that is not refused
pub record HasPlan (schema : Schema) (state : State) (moment : ℕ) (lock : Option LockId) (actions : List Action) (planned : Planned) : Type 0 where
  pub plan : Planning
  pub is : plan_of schema state moment lock actions ≡ Ok plan
  pub told : planned_by plan ≡ planned

pub plan_behind : (schema : Schema) (state : State) (moment : ℕ) (lock : Option LockId) (release : Release) (actions : List Action) (planned : Planned) → transaction schema state moment (Transact lock release actions) ≡ Ok planned → HasPlan schema state moment lock actions planned
unfolding transaction
plan_behind schema state moment lock release actions planned e =
    let one = bind_ok (plan_of schema state moment lock actions) _ planned e in
    record { plan = one.0; is = one.1; told = (let said = one.2 in cc) }

parts_are : (plan : Planning) (planned : Planned) (parts : List Part) → planned_by plan ≡ planned → planned.change ≡ Rows parts → plan.parts ≡ parts
parts_are plan planned parts told is = let same : Rows plan.parts ≡ Rows parts = ap (λ (p : Planned). p.change) told ∙ is in cc

plan_plays : (schema : Schema) (state : State) (moment : ℕ) (lock : Option LockId) (actions : List Action) (plan : Planning) → IsKept schema (durable state) → plan_of schema state moment lock actions ≡ Ok plan → Plays (durable state) plan.parts (begun state.features state.counters) plan.at
unfolding plan_of plan_with
plan_plays schema state moment lock actions plan kept e =
    let one = bind_ok (named_if state moment lock) _ plan e in
    all_play (durable state) (permitted schema state.locks moment one.0) state.features state.counters actions plan (sound_kept schema (durable state) kept) one.2

-- what a transaction that was carried out left beside the rows
pub record Leaves (state : State) (moment : ℕ) (lock : Option LockId) (release : Release) (planned : Planned) (parts : List Part) (now : State) : Type 0 where
  pub rows : with_rows (durable state) now.features now.counters ≡ fold part_played (durable state) parts
  pub stored : now.stored ≡ state.stored
  pub opening : now.opening ≡ state.opening
  pub locks : now.locks ≡ unlocked state.locks moment lock planned.touched release
  pub given : now.given ≡ state.given
  pub last : now.last ≡ moment

same_state : (now : State) (features : List Feature) (counters : List ℕ) (stored : List StoredQuery) (opening : ℕ) (locks : List Lock) (given last : ℕ)
    → now.features ≡ features → now.counters ≡ counters → now.stored ≡ stored → now.opening ≡ opening → now.locks ≡ locks → now.given ≡ given → now.last ≡ last
    → now ≡ record { features = features; counters = counters; stored = stored; opening = opening; locks = locks; given = given; last = last }
same_state now features counters stored opening locks given last a b c d e f g = rw (sym a, sym b, sym c, sym d, sym e, sym f, sym g) refl

pub step_is : (schema : Schema) (state : State) (moment : ℕ) (lock : Option LockId) (release : Release) (actions : List Action) (planned : Planned) (parts : List Part) (now : State)
    → IsKept schema (durable state) → transaction schema state moment (Transact lock release actions) ≡ Ok planned → planned.change ≡ Rows parts → Leaves state moment lock release planned parts now
    → (planned.reply, now) ≡ settled state moment (carried schema state moment (Transact lock release actions))
unfolding carried_out
step_is schema state moment lock release actions planned parts now kept e rows left =
    let found = plan_behind schema state moment lock release actions planned e in
    let plan = found.plan in
    let plays : Plays (durable state) plan.parts (begun state.features state.counters) plan.at = plan_plays schema state moment lock actions plan kept found.is in
    let after = left.rows ∙ ap (fold part_played (durable state)) (sym (parts_are plan planned parts found.told rows)) ∙ plays.played in
    let touched : planned.touched ≡ plan.touched = ap (λ (p : Planned). p.touched) (sym found.told) in
    let its : now ≡ record (carried_out state moment lock release plan).1 { last = moment } =
    same_state now plan.at.features plan.at.counters state.stored state.opening (unlocked state.locks moment lock plan.touched release) state.given moment
    (ap (λ (k : Durable). k.features) after) (ap (λ (k : Durable). k.counters) after) left.stored left.opening (left.locks ∙ ap (λ (t : List Rid). unlocked state.locks moment lock t release) touched) left.given left.last in
    let reply : planned.reply ≡ transacted plan.at = ap (λ (p : Planned). p.reply) (sym found.told) in
    rw (reply, its, found.is) refl

pub step_keeps_it : (schema : Schema) (state : State) (moment : ℕ) (lock : Option LockId) (release : Release) (actions : List Action) (planned : Planned) (parts : List Part) (now : State)
    → IsKept schema (durable state) → IsOfSchema schema (Transact lock release actions) → transaction schema state moment (Transact lock release actions) ≡ Ok planned → planned.change ≡ Rows parts → Leaves state moment lock release planned parts now
    → IsKept schema (durable now)
unfolding step
step_keeps_it schema state moment lock release actions planned parts now kept fits e rows left =
    subst (λ (done : Done). IsKept schema (durable done.1)) (sym (step_is schema state moment lock release actions planned parts now kept e rows left)) (step_keeps schema state moment (Transact lock release actions) kept fits)

use Rattle.std.proofs.Common.{List, refl, ap, sym, ◌∙◌, subst}
use Rattle.std.specs.Prelude.{IfSome, IsTrue}
use Rattle.lock_table.specs.Lock.{Lock}
use Rattle.lock_table.specs.Held.{is_live_number}
use Rattle.wfs_model.specs.Kept.{IsKept}
use Rattle.wfs_model.specs.State.{Machine, durable}
use Rattle.wfs_model.specs.Step.{unlocked}
use Rattle.wfs_machine.proofs.Carrying.{Leaves, plan_behind, step_is, step_keeps_it}
use Rattle.wfs_machine.proofs.Telling.{plan_is_live}
use Rattle.wfs_machine.proofs.plain.Plain.carry_out.Goals as goal

pub release_if-requires-clause-live : goal.release_if-requires-clause-live
release_if-requires-clause-live c =
    let schema = c.args.self.now.schema in
    let state = c.args.self.now.state in
    let planned = rw c.in-Transact.is at c.requires.planned in
    let found = plan_behind schema state c.args.moment c.in-Transact.lock c.in-Transact.release c.in-Transact.actions c.args.planned planned in
    subst (λ (ls : List Lock). IfSome c.in-Transact.lock (λ id. IsTrue (is_live_number ls c.args.moment id.number))) (sym (ap (λ m. m.state.locks) c.self.view_is))
    (plan_is_live schema state c.args.moment c.in-Transact.lock c.in-Transact.actions found.plan found.is)

left_by : (c : goal.After-drop-2) → Leaves c.args.self.now.state c.args.moment c.in-Transact.lock c.in-Transact.release c.args.planned c.in-Rows.parts (record {
  features = c.play_rows.new.features.items;
  counters = c.play_rows.new.counters;
  stored = c.self.inside.stored.list;
  opening = c.self.inside.opening;
  locks = c.release_if.new.locks.locks;
  given = c.self.inside.given;
  last = c.args.moment;
})
left_by c =
    let state = c.args.self.now.state in
    let features = c.in-Ok.ensures.items ∙ ap (λ m. m.state.features) c.self.view_is in
    let counters = ap (λ m. m.state.counters) c.self.view_is in
    record {
      rows = rw (features, counters) at c.play_rows.ensures (durable state);
      stored = ap (λ m. m.state.stored) c.self.view_is;
      opening = ap (λ m. m.state.opening) c.self.view_is;
      locks = c.release_if.ensures.locks ∙ ap (λ (ls : List Lock). unlocked ls c.args.moment c.in-Transact.lock c.args.planned.touched c.in-Transact.release) (ap (λ m. m.state.locks) c.self.view_is);
      given = ap (λ m. m.state.given) c.self.view_is;
      last = refl;
    }

kept_at : (c : goal.After-drop-2) → IsKept c.args.self.now.schema (durable c.args.self.now.state)
kept_at c = subst (λ (m : Machine). IsKept m.schema (durable m.state)) c.self.view_is c.self.invariant.kept

pub invariant_of-self-2 : goal.invariant_of-self-2
invariant_of-self-2 c =
    let kept = step_keeps_it c.args.self.now.schema c.args.self.now.state c.args.moment c.in-Transact.lock c.in-Transact.release c.in-Transact.actions c.args.planned c.in-Rows.parts _ (kept_at c) (rw c.in-Transact.is at c.requires.fitting) (rw c.in-Transact.is at c.requires.planned) c.in-Rows.is (left_by c) in
    record {
      kept = rw (ap (λ m. m.schema) c.self.view_is) kept;
      opening = c.release_if.ensures.opening ∙ c.self.invariant.opening;
      given = c.release_if.ensures.given ∙ c.self.invariant.given;
      later = c.release_if.ensures.last;
      last = c.requires.next.1;
    }

pub returns : goal.returns
returns c = record {
  ok = rw c.in-Transact.is (step_is c.args.self.now.schema c.args.self.now.state c.args.moment c.in-Transact.lock c.in-Transact.release c.in-Transact.actions c.args.planned c.in-Rows.parts _ (kept_at c) (rw c.in-Transact.is at c.requires.planned) c.in-Rows.is (left_by c));
  err = tt;
  schema = ap (λ m. m.schema) c.self.view_is;
}

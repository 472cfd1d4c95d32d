use Rattle.std.proofs.Common.{◌≡◌, ◌≤◌, Ok, ap, sym, subst, arith}
use Rattle.wfs_model.specs.Kept.{IsKept}
use Rattle.wfs_model.specs.State.{Machine, durable}
use Rattle.wfs_model.specs.Stored.{dropped}
use Rattle.wfs_machine.specs.Carried.{unmade}
use Rattle.wfs_machine.proofs.Stores.{dropped_keeps, stored_said}
use Rattle.wfs_machine.proofs.plain.Plain.drop_stored.Goals as goal

pub invariant_of-self : goal.invariant_of-self
invariant_of-self c =
    let last : c.self.inside.last ≤ c.args.moment = rw (ap (λ m. m.state.last) c.self.view_is) c.requires.next.0 in
    let before : IsKept c.args.self.now.schema (durable c.args.self.now.state) = subst (λ (m : Machine). IsKept m.schema (durable m.state)) c.self.view_is c.self.invariant.kept in
    let stored = ap (λ m. m.state.stored) c.self.view_is in
    let asked = c.in_ok-id.ensures in
    let said : dropped c.args.self.now.state.stored c.args.id.now ≡ Ok c.drop_query.new.self.list = sym (rw (stored, asked) at c.in-Ok.ensures.value) in
    let kept = dropped_keeps c.args.self.now.schema c.args.self.now.state c.args.id.now c.drop_query.new.self.list before c.requires.fitting said in
    record {
      kept = subst (λ (m : Machine). IsKept m.schema (record (durable m.state) { stored = c.drop_query.new.self.list })) (sym c.self.view_is) kept;
      opening = c.self.invariant.opening;
      given = c.self.invariant.given;
      later = omega (arith, last, c.self.invariant.later);
      last = c.requires.next.1;
    }

pub returns-in-Err : goal.returns-in-Err
returns-in-Err c =
    let stored = ap (λ m. m.state.stored) c.self.view_is in
    let asked = c.in_ok-id.ensures in
    let settles = c.fail.ensures (unmade c.args.self.now.state c.args.id.now) (stored_said c.refused_by-fault.result c.in-Err.fault (dropped c.args.self.now.state.stored c.args.id.now) _ c.refused_by-fault.ensures.value (sym (rw (stored, asked) at c.in-Err.ensures.value))) in
    rw (c.in-Err.ensures.err, c.self.view_is) at settles

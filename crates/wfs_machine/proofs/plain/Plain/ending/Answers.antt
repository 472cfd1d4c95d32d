use Rattle.std.proofs.Common.{true, false, ap}
use Rattle.wfs_model.specs.declared.change.Change.TheVariants.{Dropped}
use Rattle.wfs_machine.proofs.Changes.{there_is, drops_one, drops_none}
use Rattle.wfs_machine.proofs.plain.Plain.ending.Goals as goal

pub returns-then-not-has : goal.returns-then-not-has
returns-then-not-has c =
    let there = there_is c.self.inside.stored.list c.args.self.now.state.stored c.as_str.result.now c.args.id.now c.has.result false (ap (λ m. m.state.stored) c.self.view_is) c.as_str.ensures.value c.has.ensures c.if-not-has.true in
    drops_none c.args.self.now.state.stored c.args.id.now (Dropped c.args.id.now) there

pub returns : goal.returns
returns c =
    let there = there_is c.self.inside.stored.list c.args.self.now.state.stored c.as_str.result.now c.args.id.now c.has.result true (ap (λ m. m.state.stored) c.self.view_is) c.as_str.ensures.value c.has.ensures c.if-not-has.false in
    rw c.in_ok-copy.ensures (drops_one c.args.self.now.state.stored c.args.id.now (Dropped c.args.id.now) there)

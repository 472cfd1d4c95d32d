use Rattle.std.proofs.Common.{◌∙◌}
use Rattle.wfs_model.specs.Played.{played_one}
use Rattle.wfs_model.specs.State.{State}
use Rattle.wfs_machine.specs.declared.plain.Plain.TheInside.{Inside}
use Rattle.wfs_machine.proofs.Changes.{begins, begun_is}
use Rattle.wfs_machine.proofs.plain.Plain.begin.Goals as goal

abbrev before : Inside → State
before inside = record {
  features = inside.features.items;
  counters = inside.counters;
  stored = inside.stored.list;
  opening = inside.opening;
  locks = inside.locks.locks;
  given = inside.given;
  last = inside.last;
}

pub invariant_of-self : goal.invariant_of-self
unfolding played_one
invariant_of-self c = begins c.args.self.now c.self.inside.schema (before c.self.inside) c.args.opening c.args.counters c.self.inside.locks c.self.view_is c.self.invariant c.requires

pub returns-clause-state : goal.returns-clause-state
unfolding played_one
returns-clause-state c = c.reopen.ensures.state ∙ begun_is c.args.self.now c.self.inside.schema (before c.self.inside) c.args.opening c.args.counters c.self.view_is

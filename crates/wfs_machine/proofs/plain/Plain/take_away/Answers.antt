use Rattle.std.proofs.Common.{◌≡◌, refl, ap, ◌∙◌}
use Rattle.wfs_model.specs.Stored.{without_query}
use Rattle.wfs_model.specs.declared.change.Change.TheVariants.{Dropped}
use Rattle.wfs_model.specs.Played.{played_one}
use Rattle.wfs_model.specs.State.{State, durable}
use Rattle.wfs_machine.specs.Kept.{with_durable}
use Rattle.wfs_machine.proofs.Changes.{durable_is, goes_on, gone}
use Rattle.wfs_machine.proofs.plain.Plain.take_away.Goals as goal

abbrev now : goal.After-drop → State
now c = record {
  features = c.self.inside.features.items;
  counters = c.self.inside.counters;
  stored = c.drop_query.new.self.list;
  opening = c.self.inside.opening;
  locks = c.self.inside.locks.locks;
  given = c.self.inside.given;
  last = c.self.inside.last;
}

abbrev before : goal.After-drop → State
before c = record {
  features = c.self.inside.features.items;
  counters = c.self.inside.counters;
  stored = c.self.inside.stored.list;
  opening = c.self.inside.opening;
  locks = c.self.inside.locks.locks;
  given = c.self.inside.given;
  last = c.self.inside.last;
}

left_by : (c : goal.After-drop) → now c ≡ with_durable c.args.self.now.state (played_one (durable c.args.self.now.state) (Dropped c.args.id))
unfolding played_one
left_by c =
    let state = c.args.self.now.state in
    let stored = ap (λ m. m.state.stored) c.self.view_is in
    let left = gone c.self.inside.stored.list c.drop_query.new.self.list c.args.id c.drop_query.result c.drop_query.ensures.value c.drop_query.ensures.err in
    durable_is state (played_one (durable state) (Dropped c.args.id)) _ _ _ _ _ _ _ (ap (λ m. m.state.features) c.self.view_is) (ap (λ m. m.state.counters) c.self.view_is) (left ∙ ap (λ l. without_query l c.args.id) stored)
    (ap (λ m. m.state.opening) c.self.view_is) (ap (λ m. m.state.locks) c.self.view_is) (ap (λ m. m.state.given) c.self.view_is) (ap (λ m. m.state.last) c.self.view_is)

pub invariant_of-self : goal.invariant_of-self
unfolding played_one
invariant_of-self c =
    goes_on c.args.self.now c.self.inside.schema (before c) (now c) (played_one (durable c.args.self.now.state) (Dropped c.args.id)) c.self.inside.locks c.self.view_is c.self.invariant (left_by c) refl c.requires

pub returns-clause-state : goal.returns-clause-state
returns-clause-state c = left_by c

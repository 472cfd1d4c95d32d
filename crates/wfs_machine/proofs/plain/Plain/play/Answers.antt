use Rattle.std.proofs.Common.{◌≡◌, ap, ◌∙◌}
use Rattle.wfs_model.specs.declared.change.Change.TheVariants.{Rows}
use Rattle.wfs_model.specs.Played.{played_one}
use Rattle.wfs_model.specs.State.{State, durable}
use Rattle.wfs_machine.specs.Kept.{with_durable}
use Rattle.wfs_machine.proofs.Changes.{durable_is, goes_on, played_opening}
use Rattle.wfs_machine.proofs.plain.Plain.play.Goals as goal

abbrev now : goal.After-play_rows → State
now c = record {
  features = c.play_rows.new.features.items;
  counters = c.play_rows.new.counters;
  stored = c.self.inside.stored.list;
  opening = c.self.inside.opening;
  locks = c.self.inside.locks.locks;
  given = c.self.inside.given;
  last = c.self.inside.last;
}

abbrev before : goal.After-play_rows → State
before c = record {
  features = c.self.inside.features.items;
  counters = c.self.inside.counters;
  stored = c.self.inside.stored.list;
  opening = c.self.inside.opening;
  locks = c.self.inside.locks.locks;
  given = c.self.inside.given;
  last = c.self.inside.last;
}

left_by : (c : goal.After-play_rows) → now c ≡ with_durable c.args.self.now.state (played_one (durable c.args.self.now.state) (Rows c.args.parts))
unfolding played_one
left_by c =
    let state = c.args.self.now.state in
    let features = c.in_ok-reserve.ensures.items ∙ ap (λ m. m.state.features) c.self.view_is in
    let counters = ap (λ m. m.state.counters) c.self.view_is in
    let rows = rw (features, counters) at c.play_rows.ensures (durable state) in
    durable_is state (played_one (durable state) (Rows c.args.parts)) _ _ _ _ _ _ _ (ap (λ k. k.features) rows) (ap (λ k. k.counters) rows) (ap (λ m. m.state.stored) c.self.view_is ∙ ap (λ k. k.stored) rows)
    (ap (λ m. m.state.opening) c.self.view_is ∙ ap (λ k. k.opening) rows) (ap (λ m. m.state.locks) c.self.view_is) (ap (λ m. m.state.given) c.self.view_is) (ap (λ m. m.state.last) c.self.view_is)

pub invariant_of-self-2 : goal.invariant_of-self-2
unfolding played_one
invariant_of-self-2 c =
    goes_on c.args.self.now c.self.inside.schema (before c) (now c) (played_one (durable c.args.self.now.state) (Rows c.args.parts)) c.self.inside.locks c.self.view_is c.self.invariant (left_by c)
    (played_opening (durable c.args.self.now.state) c.args.parts) c.requires

pub returns-clause-state : goal.returns-clause-state
returns-clause-state c = left_by c

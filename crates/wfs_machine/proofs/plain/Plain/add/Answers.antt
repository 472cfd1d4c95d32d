use Rattle.std.proofs.Common.{◌≡◌, List, Result, Ok, Err, refl, ap, sym, subst}
use Rattle.std.specs.Prelude.{OnOk, OnErr, is_ok}
use Rattle.wfs_ends.specs.Read.{GivesBut}
use Rattle.wfs_ends.specs.declared.fault.OutOfMemory.{OutOfMemory}
use Rattle.wfs_model.specs.declared.fault.StoredFault.TheVariants.{OutOfMemory as NoMemory}
use Rattle.wfs_model.specs.declared.stored.StoredQuery.{StoredQuery}
use Rattle.wfs_model.specs.Kept.{IsKept}
use Rattle.wfs_model.specs.Stored.{created}
use Rattle.wfs_model.specs.declared.change.Change.TheVariants.{Created}
use Rattle.wfs_model.specs.Played.{played_one}
use Rattle.wfs_model.specs.State.{State, Machine, durable}
use Rattle.wfs_machine.specs.Kept.{with_durable}
use Rattle.wfs_machine.proofs.Changes.{durable_is, goes_on, adds, add_kept}
use Rattle.wfs_machine.proofs.plain.Plain.add.Goals as goal

abbrev now : goal.After-if_made → State
now c = record {
  features = c.self.inside.features.items;
  counters = c.self.inside.counters;
  stored = c.create.new.self.list;
  opening = c.self.inside.opening;
  locks = c.self.inside.locks.locks;
  given = c.self.inside.given;
  last = c.self.inside.last;
}

abbrev before : goal.After-if_made → State
before c = record {
  features = c.self.inside.features.items;
  counters = c.self.inside.counters;
  stored = c.self.inside.stored.list;
  opening = c.self.inside.opening;
  locks = c.self.inside.locks.locks;
  given = c.self.inside.given;
  last = c.self.inside.last;
}

gives : (c : goal.After-if_made) → GivesBut NoMemory (λ _. c.create.new.self.list) c.create.result (created c.args.self.now.state.stored c.args.queries)
gives c = subst (λ (l : List StoredQuery). GivesBut NoMemory (λ _. c.create.new.self.list) c.create.result (created l c.args.queries)) (ap (λ m. m.state.stored) c.self.view_is) c.create.ensures.value

same : (c : goal.After-if_made) → OnErr c.create.result (c.create.new.self.list ≡ c.args.self.now.state.stored)
same c = subst (λ (l : List StoredQuery). OnErr c.create.result (c.create.new.self.list ≡ l)) (ap (λ m. m.state.stored) c.self.view_is) c.create.ensures.err

pub invariant_of-self : goal.invariant_of-self
unfolding played_one
invariant_of-self c =
    let state = c.args.self.now.state in
    let schema = c.args.self.now.schema in
    let kept : IsKept schema (durable state) = subst (λ (m : Machine). IsKept m.schema (durable m.state)) c.self.view_is c.self.invariant.kept in
    let well = add_kept schema (durable state) c.args.queries c.create.new.self.list c.create.result (gives c) (same c) kept c.requires in
    goes_on c.args.self.now c.self.inside.schema (before c) (now c) (record (durable state) { stored = c.create.new.self.list }) c.self.inside.locks c.self.view_is c.self.invariant
    (durable_is state (record (durable state) { stored = c.create.new.self.list }) _ _ _ _ _ _ _ (ap (λ m. m.state.features) c.self.view_is) (ap (λ m. m.state.counters) c.self.view_is) refl
    (ap (λ m. m.state.opening) c.self.view_is) (ap (λ m. m.state.locks) c.self.view_is) (ap (λ m. m.state.given) c.self.view_is) (ap (λ m. m.state.last) c.self.view_is)) refl well

pub returns-clause-state : goal.returns-clause-state
unfolding played_one
returns-clause-state c = by_result c.if_made.result c.if_made.ensures
  where
    by_result : (r : Result (Unit {0}) OutOfMemory) → is_ok r ≡ is_ok c.create.result → OnOk r (now c ≡ with_durable c.args.self.now.state (played_one (durable c.args.self.now.state) (Created c.args.queries)))
    by_result (Err fault) is = tt
    by_result (Ok _) is =
        let state = c.args.self.now.state in
        durable_is state (played_one (durable state) (Created c.args.queries)) _ _ _ _ _ _ _ (ap (λ m. m.state.features) c.self.view_is) (ap (λ m. m.state.counters) c.self.view_is)
        (adds state.stored c.args.queries c.create.new.self.list c.create.result (gives c) (sym is)) (ap (λ m. m.state.opening) c.self.view_is) (ap (λ m. m.state.locks) c.self.view_is)
        (ap (λ m. m.state.given) c.self.view_is) (ap (λ m. m.state.last) c.self.view_is)

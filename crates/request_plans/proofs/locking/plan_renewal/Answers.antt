use Rattle.std.proofs.Common.{◌≤◌, [], ◌∙◌}
use Rattle.request_plans.specs.Plan.{state_in}
use Rattle.request_plans.proofs.Named.{named_is_live, is_live_earlier}
use Rattle.request_plans.proofs.Taken.{renewal_comes, not_named}
use Rattle.request_plans.proofs.locking.plan_renewal.Goals as goal

pub returns-in-Err : goal.returns-in-Err
returns-in-Err c = λ features last.
    not_named c.args.basis.now.schema.now (state_in features c.args.basis.now last) c.args.basis.now.moment c.args.id c.args.period c.in-Err.fault (c.in-Err.ensures features last)

pub features_of-requires : goal.features_of-requires
features_of-requires c =
    let locks = c.args.basis.now.locks.now in
    let le : locks.last ≤ c.args.basis.now.moment = c.args.basis.now.later in
    is_live_earlier locks.locks locks.last c.args.basis.now.moment c.in-Ok.number le (named_is_live (state_in [] c.args.basis.now 0) c.args.basis.now.moment c.args.id c.in-Ok.number (c.in-Ok.ensures [] 0))

pub returns : goal.returns
returns c = λ features last.
    renewal_comes c.args.basis.now.schema.now (state_in features c.args.basis.now last) c.args.basis.now.moment c.args.id c.args.period c.in-Ok.number c.in_ok-taken.taken c.of.result (c.in-Ok.ensures features last) (c.in_ok-taken.ensures ∙ c.features_of.ensures) (c.of.ensures ∙ c.new.ensures.items)

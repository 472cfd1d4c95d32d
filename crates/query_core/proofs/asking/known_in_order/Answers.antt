use Rattle.std.proofs.Common.{ap, ◌∙◌}
use Rattle.std.proofs.lemmas.Result.{IfOk-weaker}
use Rattle.query_core.specs.Selecting.{is_among}
use Rattle.query_core.proofs.Once.{known_among}
use Rattle.query_core.proofs.asking.known_in_order.Goals as goal

pub returns-clause-same : goal.returns-clause-same
returns-clause-same c =
    IfOk-weaker c.each_in_order.result _ _ (λ v same. λ id. same id ∙ ap (λ l. is_among l id) c.in_ok-ids.ensures ∙ known_among id c.args.references.now) c.each_in_order.ensures.same

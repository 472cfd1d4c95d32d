use Rattle.std.proofs.Common.{ap, ◌∙◌, arith, length}
use Rattle.std.proofs.Math.Nat.{le-min}
use Rattle.std.proofs.lemmas.List.Kept.{IsStrictlySortedBy-filter}
use Rattle.std.proofs.lemmas.Result.{IfOk-weaker}
use Rattle.query_core.specs.Selecting.{is_among}
use Rattle.query_core.specs.Sorting.{rid_order}
use Rattle.query_core.proofs.Counts.{kept_few}
use Rattle.query_core.proofs.Once.{in_both, in_both_back}
use Rattle.query_core.proofs.looking.common.Goals as goal

pub returns-then-ids-others-clause-order : goal.returns-then-ids-others-clause-order
returns-then-ids-others-clause-order c =
    IfOk-weaker c.those_among.result _ _ (λ both is. rw is (IsStrictlySortedBy-filter rid_order (is_among c.args.others.now) c.args.ids.now c.requires.ids)) c.those_among.ensures

pub returns-then-ids-others-clause-same : goal.returns-then-ids-others-clause-same
returns-then-ids-others-clause-same c =
    IfOk-weaker c.those_among.result _ _ (λ both is. λ id. ap (λ l. is_among l id) is ∙ in_both c.args.ids.now c.args.others.now id) c.those_among.ensures

pub returns-then-ids-others-clause-few : goal.returns-then-ids-others-clause-few
returns-then-ids-others-clause-few c =
    let few = kept_few (is_among c.args.others.now) c.args.ids.now in
    IfOk-weaker c.those_among.result _ _ (λ both is. le-min (omega (arith, few, ap length is)) (omega (arith, few, ap length is, c.if-ids-others.true))) c.those_among.ensures

pub returns-else-ids-others-clause-order : goal.returns-else-ids-others-clause-order
returns-else-ids-others-clause-order c =
    IfOk-weaker c.those_among-else-ids-others.result _ _ (λ both is. rw is (IsStrictlySortedBy-filter rid_order (is_among c.args.ids.now) c.args.others.now c.requires.others)) c.those_among-else-ids-others.ensures

pub returns-else-ids-others-clause-same : goal.returns-else-ids-others-clause-same
returns-else-ids-others-clause-same c =
    IfOk-weaker c.those_among-else-ids-others.result _ _ (λ both is. λ id. ap (λ l. is_among l id) is ∙ in_both_back c.args.ids.now c.args.others.now id) c.those_among-else-ids-others.ensures

pub returns-else-ids-others-clause-few : goal.returns-else-ids-others-clause-few
returns-else-ids-others-clause-few c =
    let few = kept_few (is_among c.args.ids.now) c.args.others.now in
    IfOk-weaker c.those_among-else-ids-others.result _ _ (λ both is. le-min (omega (arith, few, ap length is, c.if-ids-others.false)) (omega (arith, few, ap length is))) c.those_among-else-ids-others.ensures

use Rattle.std.proofs.Common.{sym, ◌∙◌}
use Rattle.fes_filter.specs.Truth.{truth_of, folds}
use Rattle.fes_filter.proofs.Parts.{all_at, all_end, any_at, any_end, on_any}
use Rattle.fes_filter.proofs.truths.+holds.Goals as goal

pub do_all_hold-returns-in_err-holds-clause-memory : goal.do_all_hold-returns-in_err-holds-clause-memory
do_all_hold-returns-in_err-holds-clause-memory t c =
    rw (← c.items-part-items.ensures)
    (on_any _ (any_at folds c.items-part-items.result.now c.loop-part.part-index c.part-item.result c.loop-part-test.true c.part-item.is c.in_err-holds.ensures.memory))

pub do_all_hold-returns-then-not-branch-clause-value : goal.do_all_hold-returns-then-not-branch-clause-value
do_all_hold-returns-then-not-branch-clause-value t c =
    rw (← c.items-part-items.ensures)
    (sym (all_at (truth_of c.args.feature.now) c.items-part-items.result.now c.loop-part.part-index c.part-item.result c.loop-part-test.true c.part-item.is
    (sym c.in_ok-holds.ensures.value ∙ c.if-not-branch.true)))

pub do_all_hold-returns-clause-value : goal.do_all_hold-returns-clause-value
do_all_hold-returns-clause-value t c =
    rw (← c.items-part-items.ensures) (sym (all_end (truth_of c.args.feature.now) c.items-part-items.result.now c.loop-part.part-index c.loop-part-test.false c.loop-part.invariant))

pub does_any_hold-returns-in_err-holds-clause-memory : goal.does_any_hold-returns-in_err-holds-clause-memory
does_any_hold-returns-in_err-holds-clause-memory t c =
    rw (← c.items-part-items.ensures)
    (on_any _ (any_at folds c.items-part-items.result.now c.loop-part.part-index c.part-item.result c.loop-part-test.true c.part-item.is c.in_err-holds.ensures.memory))

pub does_any_hold-returns-then-branch-clause-value : goal.does_any_hold-returns-then-branch-clause-value
does_any_hold-returns-then-branch-clause-value t c =
    rw (← c.items-part-items.ensures)
    (sym (any_at (truth_of c.args.feature.now) c.items-part-items.result.now c.loop-part.part-index c.part-item.result c.loop-part-test.true c.part-item.is
    (sym c.in_ok-holds.ensures.value ∙ c.if-branch.true)))

pub does_any_hold-returns-clause-value : goal.does_any_hold-returns-clause-value
does_any_hold-returns-clause-value t c =
    rw (← c.items-part-items.ensures) (sym (any_end (truth_of c.args.feature.now) c.items-part-items.result.now c.loop-part.part-index c.loop-part-test.false c.loop-part.invariant))

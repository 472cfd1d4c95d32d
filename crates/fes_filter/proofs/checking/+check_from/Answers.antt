use Rattle.std.proofs.Common.{sym, ◌∙◌, map, Ok, arith}
use Rattle.std.specs.List.{flat_map}
use Rattle.std.specs.Option.{option_copied}
use Rattle.wfs_ends.specs.Read.{each}
use Rattle.fes_filter.specs.Check.{counted, verdicts}
use Rattle.fes_filter.proofs.Verdicts.{part_end, part_goes_on, part_fails, behind_first, first_fails}
use Rattle.fes_filter.proofs.checking.+check_from.Goals as goal

pub check_parts-returns-in_err-left : goal.check_parts-returns-in_err-left
check_parts-returns-in_err-left t c = grind (arith, c.from_residual.ensures, first_fails counted c.args.left (Ok tt) (flat_map (λ part. part) (map (verdicts (option_copied c.args.of_type)) c.args.parts.now)) c.in_err-left.field-0.0 (sym c.counted.ensures ∙ c.in_err-left.was))

pub check_parts-returns-in_err-left-2 : goal.check_parts-returns-in_err-left-2
check_parts-returns-in_err-left-2 t c =
    let step = verdicts (option_copied c.args.of_type) in
    let items = c.items-part-items.result.now in
    let fails = part_fails counted step c.loop-part.left items c.loop-part.part-index c.part-item.result (each counted c.in_ok-left.left (flat_map step items)) c.in_err-left-2.field-0.0
    c.loop-part-test.true c.part-item.is (sym c.check_from.ensures ∙ c.in_err-left-2.was) c.loop-part.invariant in
    let all = behind_first counted step c.args.left c.in_ok-left.left (Ok tt) items (sym c.counted.ensures ∙ c.in_ok-left.was) in
    rw (← c.items-part-items.ensures) (grind (arith, c.from_residual-in_err-left-2.ensures, fails, all))

pub check_parts-loop-part-preserved : goal.check_parts-loop-part-preserved
check_parts-loop-part-preserved t c =
    part_goes_on counted (verdicts (option_copied c.args.of_type)) c.loop-part.left c.in_ok-left-2.left c.items-part-items.result.now c.loop-part.part-index c.part-item.result _
    c.loop-part-test.true c.part-item.is (sym c.check_from.ensures ∙ c.in_ok-left-2.was) c.loop-part.invariant

pub check_parts-returns : goal.check_parts-returns
check_parts-returns t c =
    rw (← c.items-part-items.ensures)
    (sym (behind_first counted (verdicts (option_copied c.args.of_type)) c.args.left c.in_ok-left.left (Ok tt) c.items-part-items.result.now (sym c.counted.ensures ∙ c.in_ok-left.was)
    ∙ sym c.loop-part.invariant ∙ part_end counted (verdicts (option_copied c.args.of_type)) c.loop-part.left c.items-part-items.result.now c.loop-part.part-index c.loop-part-test.false))

use Rattle.std.proofs.Common.{ℕ, List, [], ◌∷◌, ◌++◌, Result, Ok, sym, ap, ◌∙◌}
use Rattle.std.specs.Option.{option_copied}
use Rattle.std.proofs.lemmas.Result.{err_from_is_err_and}
use Rattle.wfs_ends.specs.Read.{◌>>=◌}
use Rattle.wfs_ends.proofs.Turns.{each_end, each_goes_on, each_fails}
use Rattle.fes_filter.specs.declared.filter.Filter.{Filter}
use Rattle.fes_docs.specs.Filters.{next_operator, operator_of}
use Rattle.fes_docs.specs.declared.fault.FilterDocFault.{FilterDocFault}
use Rattle.fes_docs.specs.declared.fault.FilterDocFault.TheVariants.{OutOfMemory}
use Rattle.fes_docs.proofs.read.+operator.Goals as goal

-- the operators so far, with one more
abbrev with_one : List Filter → Result (Filter × ℕ) FilterDocFault → Result (List Filter × ℕ) FilterDocFault
with_one found r = r >>= λ more. Ok (found ++ more.0 ∷ [], more.1)

pub operators_of-returns-in_err-filter : goal.operators_of-returns-in_err-filter
operators_of-returns-in_err-filter t c =
    let p = err_from_is_err_and c.from_residual.result c.from_residual.ensures.1 in
    rw (← c.items-element-items.ensures)
    (rw (p.1, p.2)
    (each_fails next_operator (operator_of (option_copied c.args.parameters) c.args.schema.now c.args.kind) (c.loop-element.found.items, c.loop-element.left) c.items-element-items.result.now c.loop-element.element-index c.element-item.result _ OutOfMemory c.in_err-filter.field-0.0
    c.loop-element-test.true c.element-item.is (λ other. ap (with_one c.loop-element.found.items) (c.in_err-filter.ensures other)) c.loop-element.invariant))

pub operators_of-loop-element-preserved : goal.operators_of-loop-element-preserved
operators_of-loop-element-preserved t c =
    each_goes_on next_operator (operator_of (option_copied c.args.parameters) c.args.schema.now c.args.kind) (c.loop-element.found.items, c.loop-element.left) (c.push.new.self.items, c.in_ok-filter.more) c.items-element-items.result.now c.loop-element.element-index c.element-item.result _
    c.loop-element-test.true c.element-item.is
    (ap (with_one c.loop-element.found.items) c.in_ok-filter.ensures ∙ ap (λ (found : List Filter). Ok (found, c.in_ok-filter.more)) (sym c.in_ok-push.ensures.items)) c.loop-element.invariant

pub operators_of-returns : goal.operators_of-returns
operators_of-returns t c =
    rw (← c.items-element-items.ensures)
    (sym c.loop-element.invariant ∙ each_end next_operator (operator_of (option_copied c.args.parameters) c.args.schema.now c.args.kind) (c.loop-element.found.items, c.loop-element.left) c.items-element-items.result.now c.loop-element.element-index c.loop-element-test.false)

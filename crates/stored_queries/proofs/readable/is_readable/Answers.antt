use Rattle.std.proofs.Common.{sym, ◌∙◌}
use Rattle.fes_filter.specs.Check.{type_in}
use Rattle.wfs_model.specs.Filled.{is_read_as, kinds_in, is_readable, kinds_asked}
use Rattle.stored_queries.proofs.Readings.{some_fails, all_hold}
use Rattle.stored_queries.proofs.readable.is_readable.Goals as goal

pub returns-then-not-branch : goal.returns-then-not-branch
unfolding is_readable kinds_asked
returns-then-not-branch c =
    sym (some_fails (is_read_as c.args.text.now) (λ query. kinds_in (type_in c.args.schema.now query.kind) c.args.place query.filter) c.args.queries.now c.loop-query.query-index c.query-item.result c.loop-query-test.true c.query-item.is
    (sym c.in_ok-reads_in_query.ensures ∙ c.if-not-branch.true))

pub returns : goal.returns
unfolding is_readable kinds_asked
returns c =
    sym (all_hold (is_read_as c.args.text.now) (λ query. kinds_in (type_in c.args.schema.now query.kind) c.args.place query.filter) c.args.queries.now c.loop-query.query-index c.loop-query-test.false c.loop-query.invariant)

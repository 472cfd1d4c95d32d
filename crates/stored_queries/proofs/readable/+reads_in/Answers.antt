use Rattle.std.proofs.Common.{sym, ◌∙◌}
use Rattle.std.specs.Option.{option_copied}
use Rattle.wfs_model.specs.Filled.{is_read_as}
use Rattle.stored_queries.specs.Kinds.{kinds_of}
use Rattle.stored_queries.proofs.Readings.{part_fails, parts_hold}
use Rattle.stored_queries.proofs.readable.+reads_in.Goals as goal

pub reads_in_all-returns-then-not-branch : goal.reads_in_all-returns-then-not-branch
reads_in_all-returns-then-not-branch t c =
    rw (← c.items-part-items.ensures)
    (sym (part_fails (is_read_as c.args.given.text.now) (kinds_of (option_copied c.args.of_type) c.args.given.place) c.items-part-items.result.now c.loop-part.part-index c.part-item.result c.loop-part-test.true c.part-item.is
    (sym c.in_ok-reads_in.ensures ∙ c.if-not-branch.true)))

pub reads_in_all-returns : goal.reads_in_all-returns
reads_in_all-returns t c =
    rw (← c.items-part-items.ensures)
    (sym (parts_hold (is_read_as c.args.given.text.now) (kinds_of (option_copied c.args.of_type) c.args.given.place) c.items-part-items.result.now c.loop-part.part-index c.loop-part-test.false c.loop-part.invariant))

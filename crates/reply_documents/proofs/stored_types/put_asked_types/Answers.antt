use Rattle.std.proofs.Common.{arith, ◌∙◌}
use Rattle.std.specs.Option.{option_copied}
use Rattle.reply_documents.proofs.Types.{wrote_asked, none_now, wrote_all_asked}
use Rattle.reply_documents.proofs.stored_types.put_asked_types.Goals as goal

pub loop-at-preserved : goal.loop-at-preserved
loop-at-preserved g c = (
  wrote_asked c.args.first.now c.args.later.now c.args.schema.now c.args.end.now c.args.queries.now c.loop-at.at c.index-queries-at.result (option_copied c.type_asked-asked.result)
      c.loop-at.is_first _ _ _ (omega arith) c.index-queries-at.is c.type_asked-asked.ensures c.loop-at.invariant.1 c.loop-at.invariant.0 c.put_asked-failed.ensures,
  c.still_none-is_first.ensures
      ∙ none_now c.args.first.now c.args.later.now c.args.schema.now c.args.end.now c.args.queries.now c.loop-at.at c.index-queries-at.result (option_copied c.type_asked-asked.result)
      c.loop-at.is_first (omega arith) c.index-queries-at.is c.type_asked-asked.ensures c.loop-at.invariant.1,
)

pub returns : goal.returns
returns g c = wrote_all_asked c.args.first.now c.args.later.now c.args.schema.now c.args.end.now c.args.queries.now c.loop-at.at _ _ (omega arith) c.loop-at.invariant.0

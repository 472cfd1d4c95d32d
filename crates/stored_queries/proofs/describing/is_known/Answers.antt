use Rattle.std.proofs.Common.{sym, ◌∙◌}
use Rattle.stored_queries.proofs.Found.{known_other}
use Rattle.stored_queries.proofs.describing.is_known.Goals as goal

pub returns-else-is_id_query : goal.returns-else-is_id_query
returns-else-is_id_query c =
    c.has.ensures ∙ known_other c.args.stored.now c.args.sorted.now c.args.id.now c.requires.same (sym c.is_id_query.ensures ∙ c.if-is_id_query.false)

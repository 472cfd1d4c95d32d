use Rattle.query_docs.proofs.Names.{declared_after}
use Rattle.query_docs.proofs.definition.with_name.Goals as goal

pub returns-clause-seen : goal.returns-clause-seen
returns-clause-seen c = declared_after c.args.seen.now c.note_without_case.new.seen c.args.found.names _ _ _ c.as_str.ensures.value c.in_ok-with_last.ensures c.requires.seen c.in_ok-note_without_case.ensures.seen

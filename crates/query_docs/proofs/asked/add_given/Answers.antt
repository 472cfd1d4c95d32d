use Rattle.query_docs.proofs.Names.{given_after}
use Rattle.query_docs.proofs.asked.add_given.Goals as goal

pub returns-clause-seen : goal.returns-clause-seen
returns-clause-seen c = given_after c.args.seen.now c.note.new.seen c.args.given.now.items c.push_given.new.given.items _ _ _ c.as_str.ensures.value c.in_ok-push_given.ensures c.requires.seen c.in_ok-note.ensures.seen

use Rattle.journal_format.proofs.Changes.{reads_back}
use Rattle.journal_format.proofs.record.put_record.Goals as goal

pub returns-clause-reads_back : goal.returns-clause-reads_back
returns-clause-reads_back c = reads_back c.args.change.now c.args.signature.now c.requires c.put_body.ensures.writable

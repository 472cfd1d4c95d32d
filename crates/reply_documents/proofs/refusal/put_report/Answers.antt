use Rattle.wfs_ends.proofs.Writing.{wrote_steps}
use Rattle.reply_documents.specs.Refusals.{report_text}
use Rattle.reply_documents.proofs.refusal.put_report.Goals as goal

pub returns : goal.returns
unfolding report_text
returns g c = search wrote_steps depth 12

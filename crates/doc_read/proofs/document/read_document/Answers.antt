use Rattle.std.proofs.Common.{subst}
use Rattle.doc_read.specs.Read.{Gives}
use Rattle.doc_read.proofs.Documents.{is_found, document_again}
use Rattle.doc_read.proofs.document.read_document.Goals as goal

pub returns-clause-found : goal.returns-clause-found
returns-clause-found c = is_found c.args.bytes.now c.read.result c.read.ensures

pub returns-clause-only : goal.returns-clause-only
returns-clause-only c = λ e spells. subst (λ f. Gives c.read.result f) (document_again c.args.bytes.now e spells) c.read.ensures

use Rattle.doc_laws.proofs.Whole.{in_document}
use Rattle.doc_laws.proofs.in_document.Goals as goal

pub returns : goal.returns
returns c = in_document

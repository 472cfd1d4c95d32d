use Rattle.gml_docs.proofs.Printed.{stands_alike}
use Rattle.gml_docs.proofs.laws.stands_alike.Goals as goal

pub returns : goal.returns
returns c = stands_alike

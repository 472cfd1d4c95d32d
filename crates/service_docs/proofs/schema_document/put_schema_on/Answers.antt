use Rattle.wfs_ends.proofs.Writing.{wrote_steps}
use Rattle.service_docs.specs.SchemaDocument.{schema_document}
use Rattle.service_docs.proofs.schema_document.put_schema_on.Goals as goal

pub returns : goal.returns
unfolding schema_document
returns g c = search wrote_steps depth 24

use Rattle.std.proofs.Common.{◌∙◌, sym}
use Rattle.snapshot_reads.proofs.Schemas.{schema_in-append}
use Rattle.snapshot_rows.proofs.rows.pass.Goals as goal

pub returns-clause-schema : goal.returns-clause-schema
returns-clause-schema g c = rw c.publish.ensures.given (c.requires.schema ∙ sym (schema_in-append _ _ c.requires.some))

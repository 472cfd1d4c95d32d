use Rattle.service_docs.proofs.InTurn.{flat_map_one}
use Rattle.service_docs.proofs.schema_document.put_new.Goals as goal

pub returns-else-is_among : goal.returns-else-is_among
returns-else-is_among g c = rw (← c.is_among.ensures, c.if-is_among.false, flat_map_one) c.put_numbered.ensures

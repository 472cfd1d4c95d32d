use Rattle.std.proofs.Common.{arith, rules}
use Rattle.service_docs.proofs.InTurn.{wrote_in_turn, wrote_each_in_turn}
use Rattle.service_docs.specs.SchemaDocument.{numbered_text, new_number}
use Rattle.service_docs.proofs.schema_document.put_numbers.Goals as goal

pub loop-at-preserved : goal.loop-at-preserved
loop-at-preserved g c =
    wrote_in_turn (numbered_text c.args.schema.now) new_number c.args.types.now c.loop-at.at _ _ _ _ (omega arith) (search rules) c.loop-at.invariant c.put_new-failed.ensures

pub returns : goal.returns
returns g c = wrote_each_in_turn (numbered_text c.args.schema.now) new_number c.args.types.now c.loop-at.at _ _ (omega arith) c.loop-at.invariant

use Rattle.journal_format.proofs.Spelled.{read_whole}
use Rattle.journal_format.proofs.record.read_record.Goals as goal

pub returns-in-empty-clause-spelled : goal.returns-in-empty-clause-spelled
returns-in-empty-clause-spelled c =
    read_whole c.args.bytes.now c.in_ok-kind.kind c.in_ok-kind.rest.now c.in_ok-recorded.rest.now c.in_ok-recorded.recorded (λ i. (c.type_inv.bytes i).fits) c.in_ok-kind.ensures c.in_ok-recorded.ensures c.in-empty.len_below

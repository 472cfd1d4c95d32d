use Rattle.std.proofs.Common.{◌∙◌, sym, arith}
use Rattle.lock_table.proofs.Dashes.{no_dash}
use Rattle.lock_table.proofs.id.read_numbers.Goals as goal

pub returns-in_err-opening : goal.returns-in_err-opening
returns-in_err-opening c = c.from_residual.ensures ∙ sym (no_dash c.args.text.now (c.in_err-opening.ensures.byte (omega arith) (λ w o h. h)))

use Rattle.std.proofs.Common.{◌∙◌, sym, arith}
use Rattle.feature_values.proofs.Dots.{no_dot}
use Rattle.feature_values.proofs.ids.read_rid.Goals as goal

pub returns-in_err-name : goal.returns-in_err-name
returns-in_err-name c = c.from_residual.ensures ∙ sym (no_dot c.args.schema.now c.args.text.now (c.in_err-name.ensures.byte (omega arith) (λ w o h. h)))

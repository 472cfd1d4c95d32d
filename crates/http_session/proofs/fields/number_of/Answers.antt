use Rattle.std.proofs.Common.{◌∙◌, sym, ap, ℕ, ◌*◌, ◌+◌}
use Rattle.http_session.specs.Fields.{capped}
use Rattle.http_session.proofs.FieldReads.{digits_more}
use Rattle.http_session.proofs.fields.number_of.Goals as goal

pub loop-digit-preserved : goal.loop-digit-preserved
loop-digit-preserved c =
    digits_more c.args.digits.now c.loop-digit.digit-index 0 c.loop-digit.number c.min-number.result c.loop-digit-test.true c.loop-digit.invariant.0 c.loop-digit.invariant.1 (sym c.is_ascii_digit.ensures.value ∙ c.if-not-is_ascii_digit.false) (c.min-number.ensures ∙ ap (λ (m : ℕ). capped (c.loop-digit.number * 10 + m)) c.from.ensures)

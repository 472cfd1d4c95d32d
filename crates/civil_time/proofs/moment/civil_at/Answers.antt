use Rattle.std.proofs.Common.{◌∙◌, arith, w64}
use Rattle.std.proofs.lemmas.Int.{to_z_pos}
use Rattle.jiff.proofs.SpanFacts.{signed_arith}
use Rattle.jiff.specs.Words.{offset_at}
use Rattle.civil_time.proofs.moment.civil_at.Goals as goal

pub returns : goal.returns
unfolding offset_at
returns c =
    let value = c.in-Ok.ensures.value in
    let plain = to_z_pos w64 c.args.moment (omega arith) in
    c.to_datetime.ensures ∙ omega (arith, signed_arith, value, plain)

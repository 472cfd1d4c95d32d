use Rattle.feature_values.proofs.Numerals.{parse_number_is}
use Rattle.feature_values.proofs.ids.read_number.Goals as goal

pub returns : goal.returns
returns c =
    let no_zero = rw c.as_bytes-bytes.ensures.value at c.if-bytes-eq48.false in
    let no_plus = rw c.as_bytes-bytes.ensures.value at c.if-bytes-eq43.false in
    rw c.ok.ensures.value (parse_number_is c.args.text.now c.parse.result c.parse.ensures.value.0 no_zero no_plus)

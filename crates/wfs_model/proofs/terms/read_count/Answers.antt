use Rattle.wfs_model.proofs.Numerals.{parse_count_is}
use Rattle.wfs_model.proofs.terms.read_count.Goals as goal

pub returns : goal.returns
returns c =
    let no_plus = rw c.as_bytes-bytes.ensures.value at c.if-bytes-eq43.false in
    rw c.ok.ensures.value (parse_count_is c.args.text.now c.parse.result c.parse.ensures.value.0 no_plus)

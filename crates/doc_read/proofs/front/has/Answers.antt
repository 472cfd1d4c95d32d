use Rattle.std.proofs.Common.{◌∙◌, ap}
use Rattle.std.specs.Prelude.{◌==◌}
use Rattle.std.specs.List.{list_any}
use Rattle.doc_read.proofs.Bytes.{chars_have}
use Rattle.doc_read.proofs.front.has.Goals as goal

pub returns : goal.returns
returns c =
    c.contains.ensures.value ∙ ap (list_any (λ b. b == c.args.byte)) c.as_bytes.ensures.value
    ∙ chars_have c.args.byte c.args.text.now c.requires c.utf8.text

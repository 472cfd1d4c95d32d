use Rattle.std.proofs.Common.{◌∙◌, ap, map}
use Rattle.std.specs.Prelude.{codes}
use Rattle.std.specs.Char.{to_ascii_lowercase}
use Rattle.std.specs.Str.{bytes_eq}
use Rattle.doc_read.proofs.Bytes.{utf8_bytes}
use Rattle.doc_read.proofs.declaration.is_utf8.Goals as goal

pub returns : goal.returns
returns c = c.spells_utf8.ensures ∙ ap (λ bs. bytes_eq (map to_ascii_lowercase bs) (codes "utf-8")) c.as_bytes.ensures.value ∙ utf8_bytes c.args.value.now c.utf8.value

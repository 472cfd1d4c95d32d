use Rattle.std.proofs.lemmas.Str.{is_utf8-from_IsUtf8}
use Rattle.feature_schema.specs.Texts.{is_line}
use Rattle.feature_schema.proofs.texts.is_line.Goals as goal

pub returns : goal.returns
unfolding is_line
returns c = rw (is_utf8-from_IsUtf8 c.args.text.now c.utf8.text) c.has_line_characters.ensures

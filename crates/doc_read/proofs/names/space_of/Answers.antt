use Rattle.std.proofs.Common.{◌∙◌, None, sym, ap}
use Rattle.std.proofs.lemmas.Str.{encodes-chars}
use Rattle.doc_read.specs.Scope.{newest}
use Rattle.doc_read.specs.Levels.{bounds_of}
use Rattle.doc_read.proofs.names.space_of.Goals as goal

pub returns : goal.returns
returns c = c.newest.ensures ∙ ap (λ p. newest p None (bounds_of c.args.scope.now)) (sym (encodes-chars c.args.prefix.now c.utf8.prefix))

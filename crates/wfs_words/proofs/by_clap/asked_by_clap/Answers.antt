use Rattle.std.proofs.Common.{Option, map, string_bytes, sym, subst}
use Rattle.wfs_words.specs.Words.{Asked, view_asked}
use Rattle.wfs_words.specs.ByClap.{Gives}
use Rattle.wfs_words.proofs.Fits.{serve_asked}
use Rattle.wfs_words.proofs.by_clap.asked_by_clap.Goals as goal

pub returns-then-is_serve : goal.returns-then-is_serve
returns-then-is_serve c = subst (λ (o : Option Asked). Gives view_asked c.serve_by_clap.result o) (sym (serve_asked (map string_bytes c.args.words.now) c.if-is_serve.ensures)) c.serve_by_clap.ensures

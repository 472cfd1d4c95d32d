use Rattle.std.proofs.Common.{rules}
use Rattle.turnstile_core.proofs.Turning.{passes}
use Rattle.turnstile_core.proofs.turnstile.Turnstile.serve_next.Goals as goal

pub fetch_add-requires : goal.fetch_add-requires
fetch_add-requires g c = let h = c.requires.ready in (search rules, search rules, passes g.T.Kept _ _ h.0 h.1 _ h.2)

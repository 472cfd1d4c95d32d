use Rattle.std.proofs.Common.{ap, sym, subst, ◌∙◌}
use Rattle.turnstile_core.specs.Steps.{OpensAll}
use Rattle.turnstile_core.proofs.turnstile.Turnstile.pass_on.Goals as goal

pub serve_next-requires-clause-ready : goal.serve_next-requires-clause-ready
serve_next-requires-clause-ready g c = let h = c.requires.holds in let now = c.put_back.ensures.full in (
  h.0,
  c.args.turn.value,
  record {
    holds = (h.1.0, ap (λ m. m.0.stage) now ∙ h.1.1);
    back = ap (λ m. m.1) now;
    entries = c.requires.entries ∙ ap (λ m. m.0.past.seen) (sym now);
    shown = c.requires.shown ∙ ap (λ m. m.0.past.shown) (sym now);
    settled = c.requires.settled;
    tallies = λ n other. h.2 n (λ e. other (e ∙ ap (λ m. m.0.past.number) (sym now)));
    opening = subst (λ o. OpensAll g.T.Kept.opening o c.args.turn.value) (ap (λ m. m.0.past.origin) (sym now)) c.requires.opening;
  },
)

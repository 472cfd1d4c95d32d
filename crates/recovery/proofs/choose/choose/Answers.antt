use Rattle.std.proofs.Common.{refl, subst}
use Rattle.recovery.specs.Head.{KindIs}
use Rattle.recovery.specs.Choice.IsResting.{stale}
use Rattle.recovery.proofs.choose.choose.Goals as goal

pub returns-in-Stale-clause-first : goal.returns-in-Stale-clause-first
returns-in-Stale-clause-first c x tells = c.beside_other.ensures.first x (stale c.args.a.generation refl (subst (λ k. KindIs k c.args.a.generation x) c.in-Stale.is tells))

pub returns-in-Stale-clause-foreign : goal.returns-in-Stale-clause-foreign
returns-in-Stale-clause-foreign c x y tells = c.beside_other.ensures.foreign x y (stale c.args.a.generation refl (subst (λ k. KindIs k c.args.a.generation x) c.in-Stale.is tells))

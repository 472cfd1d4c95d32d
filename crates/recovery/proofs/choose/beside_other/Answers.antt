use Rattle.std.proofs.Common.{refl, subst}
use Rattle.recovery.specs.Head.{KindIs}
use Rattle.recovery.specs.Choice.IsResting.{stale}
use Rattle.recovery.specs.Choice.IsBeside.{rests}
use Rattle.recovery.proofs.Looking.{resting_own}
use Rattle.recovery.proofs.Choosing.{foreign_second}
use Rattle.recovery.proofs.choose.beside_other.Goals as goal

pub returns-in-Foreign-clause-foreign : goal.returns-in-Foreign-clause-foreign
returns-in-Foreign-clause-foreign c x y resting tells = foreign_second x y c.in-Foreign.at (resting_own c.args.is_stale x resting) (subst (λ k. KindIs k c.args.b.generation y) c.in-Foreign.is tells)

pub returns-in-Open-clause-first : goal.returns-in-Open-clause-first
returns-in-Open-clause-first c x resting = rests resting

pub returns-in-Stale-clause-second : goal.returns-in-Stale-clause-second
returns-in-Stale-clause-second c y tells = stale c.args.b.generation refl (subst (λ k. KindIs k c.args.b.generation y) c.in-Stale.is tells)

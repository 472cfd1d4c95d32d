use Rattle.std.proofs.Common.{refl, subst}
use Rattle.recovery.specs.Head.{KindIs}
use Rattle.recovery.specs.Choice.IsResting.{stale}
use Rattle.recovery.specs.Choice.IsBeside.{rests, older}
use Rattle.recovery.proofs.Looking.{able_own}
use Rattle.recovery.proofs.Choosing.{foreign_second, open_beside}
use Rattle.recovery.proofs.choose.beside_open.Goals as goal

pub returns-in-Foreign-clause-foreign : goal.returns-in-Foreign-clause-foreign
returns-in-Foreign-clause-foreign c x y able tells = foreign_second x y c.in-Foreign.at (able_own c.args.generation x able) (subst (λ k. KindIs k c.args.b.generation y) c.in-Foreign.is tells)

pub returns-then-generation-b-clause-first : goal.returns-then-generation-b-clause-first
returns-then-generation-b-clause-first c x able = older c.args.generation refl c.if-generation-b.true able

pub returns-else-generation-b-clause-second : goal.returns-else-generation-b-clause-second
returns-else-generation-b-clause-second c y tells = open_beside c.args.generation c.args.b.generation y c.if-generation-b.false (subst (λ k. KindIs k c.args.b.generation y) c.in-Open.is tells)

pub returns-in-Stale-clause-second : goal.returns-in-Stale-clause-second
returns-in-Stale-clause-second c y tells = rests (stale c.args.b.generation refl (subst (λ k. KindIs k c.args.b.generation y) c.in-Stale.is tells))

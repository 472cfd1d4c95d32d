use Rattle.std.proofs.Common.{sym, arith}
use Rattle.recovery.proofs.Heads.{tells_foreign, able_of, stale_of}
use Rattle.recovery.proofs.head.describe.Goals as goal

pub returns-in-Some : goal.returns-in-Some
returns-in-Some c s e = tells_foreign c.in-Some.place c.args.head.now s e c.if-head-lt17.false (λ z. c.if-head-eq0.false z) (sym c.in-Some.ensures)

pub returns-then-head-eq1 : goal.returns-then-head-eq1
returns-then-head-eq1 c s e =
    able_of c.generation_at-generation.result c.args.head.now s e c.if-head-lt17.false (sym c.in-None.ensures) c.generation_at-generation.ensures (omega arith) c.if-head-eq1.true

pub returns-else-head-eq1 : goal.returns-else-head-eq1
returns-else-head-eq1 c s e =
    stale_of c.generation_at-generation.result c.args.head.now s e c.if-head-lt17.false (sym c.in-None.ensures) c.generation_at-generation.ensures (omega arith) (λ z. c.if-head-eq0.false z) (λ z. c.if-head-eq1.false z)

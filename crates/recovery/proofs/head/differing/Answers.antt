use Rattle.std.proofs.Common.{◌≡◌, ◌+◌, ◌==◌, ℕ, get_or, drop, sym, ◌∙◌, ap, arith, false, true}
use Rattle.std.proofs.lemmas.Bool.Decides.{nat_tests}
use Rattle.feature_journal.specs.Side.{mark}
use Rattle.feature_journal.specs.Recover.{differs_at}
use Rattle.recovery.proofs.Heads.{differs_step, differs_end}
use Rattle.recovery.proofs.head.differing.Goals as goal

pub returns-then-head-i : goal.returns-then-head-i
returns-then-head-i c =
    let head = c.args.head.now in
    let i = c.loop-i.i in
    let test : (get_or mark i 0 == get_or head (1 + i) 0) ≡ false = grind (arith, nat_tests) in
    sym (rw test at (differs_step (1 + i) i (1 + i) mark head (omega arith) (omega arith))) ∙ c.loop-i.invariant

pub loop-i-preserved : goal.loop-i-preserved
loop-i-preserved c =
    let head = c.args.head.now in
    let i = c.loop-i.i in
    let test : (get_or mark i 0 == get_or head (1 + i) 0) ≡ true = grind (arith, nat_tests) in
    ap (λ (n : ℕ). differs_at n (drop (i + 1) mark) (drop n head)) (omega arith) ∙ sym (rw test at (differs_step (1 + i) i (1 + i) mark head (omega arith) (omega arith))) ∙ c.loop-i.invariant

pub returns : goal.returns
returns c = sym (differs_end (1 + c.loop-i.i) c.loop-i.i (drop (1 + c.loop-i.i) c.args.head.now) (omega arith)) ∙ c.loop-i.invariant

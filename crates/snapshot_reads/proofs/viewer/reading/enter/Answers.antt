use Rattle.std.proofs.Common.{ap, subst, ◌∙◌}
use mathlib.Core.List.{IsPrefix}
use Rattle.snapshot_reads.specs.declared.shown.Shown.{Shown}
use Rattle.snapshot_reads.proofs.Entering.{found_stand, one_book}
use Rattle.snapshot_reads.proofs.Rules.{reads}
use Rattle.snapshot_reads.proofs.viewer.reading.enter.Goals as goal

pub enter_as-requires : goal.enter_as-requires
enter_as-requires c x = reads _ _ x

pub learn-requires : goal.learn-requires
learn-requires c = ap (λ (x : Shown). x.seen.book) c.get-shown.ensures ∙ one_book _ _ c.in-Ok.reading.part.value.seen.book c.requires.of c.in-Ok.ensures.1.of

pub returns-clause-entered : goal.returns-clause-entered
returns-clause-entered c =
    let new = c.learn.new.self.log in
    let its = subst (λ (x : Shown). IsPrefix x.seen.log new) c.get-shown.ensures c.learn.ensures.3 in
    found_stand c.args.seen.now.log new _ _ _ c.in-Ok.reading.part.value _ c.learn.ensures.2 its c.requires.entered c.in-Ok.ensures.1 c.leave.ensures.1

use Rattle.std.proofs.Common.{rules, refl, sym, ◌∙◌}
use Rattle.doc_read.proofs.Words.{letters_turn}
use Rattle.doc_read.proofs.word.after_letters.Goals as goal

pub returns-in_err-rest : goal.returns-in_err-rest
returns-in_err-rest c =
    rw c.from_residual.ensures (sym c.loop-w.invariant.same ∙ letters_turn _ _ _ _ c.loop-w-test.true c.w-item.is ∙ rw c.in_err-rest.ensures refl)

pub loop-w-preserved : goal.loop-w-preserved
loop-w-preserved c = record {
  text = search rules;
  same = sym (letters_turn _ _ _ _ c.loop-w-test.true c.w-item.is ∙ rw c.in_ok-rest.ensures refl) ∙ c.loop-w.invariant.same;
}

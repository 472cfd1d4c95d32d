use Rattle.std.proofs.Common.{rules, sym, ◌∙◌}
use Rattle.doc_read.proofs.Words.{contains_here, contains_later}
use Rattle.doc_read.proofs.word.contains.Goals as goal

pub returns-then-begins : goal.returns-then-begins
returns-then-begins c =
    sym (contains_here c.args.word _ _ _ c.in-Some.ensures.0 (sym c.begins.ensures ∙ c.if-begins.true)) ∙ c.loop-after.invariant.same

pub loop-after-preserved : goal.loop-after-preserved
loop-after-preserved c = record {
  text = search rules;
  same = sym (contains_later c.args.word _ _ _ c.in-Some.ensures.0 (sym c.begins.ensures ∙ c.if-begins.false)) ∙ c.loop-after.invariant.same;
}

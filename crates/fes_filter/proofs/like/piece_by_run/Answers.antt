use Rattle.std.proofs.Common.{rules, sym, ◌∙◌, arith}
use Rattle.fes_filter.proofs.Likes.{first_place, past_place, no_place, whole_place}
use Rattle.fes_filter.proofs.like.piece_by_run.Goals as goal

pub returns-in-Whole-clause-value : goal.returns-in-Whole-clause-value
returns-in-Whole-clause-value c = sym (sym c.loop-left.invariant.same ∙ sym c.in-Some.ensures.same ∙ whole_place _ _ c.in-Whole.ensures.value)

pub returns-in-Rest-clause-value : goal.returns-in-Rest-clause-value
returns-in-Rest-clause-value c = sym (first_place _ _ _ _ c.in-Rest.ensures.value) ∙ c.in-Some.ensures.same ∙ c.loop-left.invariant.same

pub returns-in-None-split_first-clause-value : goal.returns-in-None-split_first-clause-value
returns-in-None-split_first-clause-value c =
    sym (sym c.loop-left.invariant.same ∙ sym c.in-Some.ensures.same ∙ no_place _ _ c.in-None-split_first.ensures.0 c.in-Unlike.ensures.value)

pub loop-left-preserved : goal.loop-left-preserved
loop-left-preserved c = record {
  utf8 = search rules;
  same = sym (past_place _ _ _ _ c.in-Some-split_first.ensures.0 c.in-Unlike.ensures.value) ∙ c.in-Some.ensures.same ∙ c.loop-left.invariant.same;
  shorter = omega (arith, c.in-Some-split_first.ensures.1, c.in-Some.ensures.shorter, c.loop-left.invariant.shorter);
}

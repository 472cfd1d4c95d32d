use Rattle.std.proofs.Common.{rules, ◌≤◌, sym, ◌∙◌, arith, chars}
use Rattle.fes_filter.proofs.Searched.{none_left, one_behind}
use Rattle.fes_filter.proofs.letters.behind.Goals as goal

pub returns-in-None-clause-value : goal.returns-in-None-clause-value
returns-in-None-clause-value c =
    let past : c.loop.counter ≤ c.args.n = omega arith in
    c.in-None.ensures.0 ∙ sym (none_left c.loop.counter c.args.n (chars c.args.text.now) past (sym c.loop.invariant.value ∙ c.in-None.ensures.0))

pub loop-preserved : goal.loop-preserved
loop-preserved c = record {
  utf8 = search rules;
  value = one_behind c.loop.counter _ (chars c.args.text.now) _ (sym c.loop.invariant.value ∙ c.in-Some.ensures.0);
  shorter = omega (arith, c.in-Some.ensures.1, c.loop.invariant.shorter);
}

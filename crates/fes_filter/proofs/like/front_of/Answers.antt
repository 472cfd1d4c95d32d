use Rattle.std.proofs.Common.{rules, sym, ap, ◌∙◌, arith, chars}
use Rattle.std.specs.Option.{option_and_then}
use Rattle.fes_filter.specs.declared.pattern.LikePart.TheVariants.{Exactly}
use Rattle.fes_filter.specs.LikeFront.{front_of}
use Rattle.fes_filter.proofs.Likes.{front_at_many, front_at_part, front_end}
use Rattle.fes_filter.proofs.like.front_of.Goals as goal

pub returns-then-is_many-clause-value : goal.returns-then-is_many-clause-value
returns-then-is_many-clause-value c =
    c.rest_of.ensures.value ∙ sym (front_at_many c.args.pattern.now (chars c.loop-i.rest.now) c.loop-i.i (Exactly 0) c.loop-i-test.true (sym c.is_many.ensures ∙ c.if-is_many.true))
    ∙ c.loop-i.invariant.same

pub returns-in-None-clause-value : goal.returns-in-None-clause-value
returns-in-None-clause-value c =
    sym (sym c.loop-i.invariant.same
    ∙ front_at_part c.args.pattern.now (chars c.loop-i.rest.now) c.loop-i.i (Exactly 0) c.loop-i-test.true (sym c.is_many.ensures ∙ c.if-is_many.false)
    ∙ ap (option_and_then (front_of _)) (sym c.in-None.ensures.value))

pub loop-i-preserved : goal.loop-i-preserved
loop-i-preserved c = record {
  utf8 = search rules;
  same = sym (sym c.loop-i.invariant.same
      ∙ front_at_part c.args.pattern.now (chars c.loop-i.rest.now) c.loop-i.i (Exactly 0) c.loop-i-test.true (sym c.is_many.ensures ∙ c.if-is_many.false)
      ∙ ap (option_and_then (front_of _)) (sym c.in-Some.ensures.value));
  shorter = omega (arith, c.in-Some.ensures.shorter, c.loop-i.invariant.shorter);
}

pub returns-clause-value : goal.returns-clause-value
returns-clause-value c =
    c.end_of.ensures.value ∙ sym (front_end c.args.pattern.now (chars c.loop-i.rest.now) c.loop-i.i c.loop-i-test.false) ∙ c.loop-i.invariant.same

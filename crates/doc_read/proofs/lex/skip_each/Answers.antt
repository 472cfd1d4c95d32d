use Rattle.std.proofs.Common.{rules, sym, ◌∙◌}
use Rattle.std.specs.Prelude.{encode_utf8}
use Rattle.std.specs.Str.{chars}
use Rattle.doc_read.proofs.Fronts.{skip_turn, skip_end}
use Rattle.doc_read.proofs.Rests.{rest_after}
use Rattle.doc_read.proofs.lex.skip_each.Goals as goal

pub loop-after-preserved : goal.loop-after-preserved
loop-after-preserved c =
    let one = c.in-Some.ensures in
    record {
      text = search rules;
      same = skip_turn c.args.class one.0 (chars c.loop-after.rest.now) (chars c.in-Some.after.now) one.1 one.2 ∙ c.loop-after.invariant.same;
      rest = rest_after c.args.text.now c.loop-after.rest.now (encode_utf8 one.0) c.in-Some.after.now c.loop-after.invariant.rest one.4;
    }

pub returns-clause-chars : goal.returns-clause-chars
returns-clause-chars c = sym (skip_end c.args.class (chars c.loop-after.rest.now) c.in_default.ensures) ∙ c.loop-after.invariant.same

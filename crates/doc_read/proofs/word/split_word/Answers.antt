use Rattle.std.proofs.Common.{Ok, [], ◌∷◌, ◌++◌, rules, sym, ap, ◌∙◌, append_assoc}
use Rattle.std.specs.Prelude.{encode_utf8}
use Rattle.std.specs.Str.{chars}
use Rattle.std.proofs.lemmas.List.{append_cancel_right}
use Rattle.doc_read.proofs.Rests.{rest_after}
use Rattle.doc_read.proofs.Words.{split_here, split_later}
use Rattle.doc_read.proofs.word.split_word.Goals as goal

pub returns-in-Some-after_word : goal.returns-in-Some-after_word
returns-in-Some-after_word c =
    let found = c.loop-next.invariant.same.0 in
    let after = chars c.in-Some-after_word.after.now in
    let front = append_cancel_right found (chars c.before-in-Some-after_word.result.now) (chars c.loop-next.rest.now) (sym c.loop-next.invariant.same.1 ∙ c.before-in-Some-after_word.ensures) in
    sym c.loop-next.invariant.same.2
    ∙ split_here c.args.word found _ _ _ after c.in-Some.ensures.0 c.in-Some-after_word.ensures
    ∙ ap (λ x. Ok (x, after)) front

pub loop-next-preserved : goal.loop-next-preserved
loop-next-preserved c =
    let found = c.loop-next.invariant.same.0 in
    let one = c.in-Some.field-0-0 in
    let next = chars c.in-Some.next.now in
    record {
      text = search rules;
      rest = rest_after c.args.cs.now c.loop-next.rest.now (encode_utf8 one) c.in-Some.next.now c.loop-next.invariant.rest c.in-Some.ensures.2;
      same = (
        found ++ one ∷ [],
        c.loop-next.invariant.same.1 ∙ ap (λ x. found ++ x) c.in-Some.ensures.0 ∙ sym (append_assoc found (one ∷ []) next),
        sym (split_later c.args.word found one _ next c.in-Some.ensures.0 c.in_default-after_word.ensures) ∙ c.loop-next.invariant.same.2,
      );
    }

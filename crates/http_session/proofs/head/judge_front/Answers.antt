use Rattle.std.proofs.Common.{◌∙◌, sym, subst}
use Rattle.httparse.specs.Grammar.{NeverHasRequest}
use Rattle.http_session.specs.Heads.{InTarget}
use Rattle.http_session.proofs.Bad.{bad_of_front, fine_of_front, front_is, front_is_out, can_of_step}
use Rattle.http_session.proofs.head.judge_front.Goals as goal

pub returns-in-Never-clause-judged : goal.returns-in-Never-clause-judged
returns-in-Never-clause-judged c =
    let (t, at) = c.requires.split in
    let front = c.front_of.ensures ∙ front_is c.args.bytes.now c.args.at t at in
    bad_of_front c.args.bytes.now t (subst NeverHasRequest front c.in-Never.ensures.step)

pub returns-in_default-clause-judged : goal.returns-in_default-clause-judged
returns-in_default-clause-judged c =
    let (t, at) = c.requires.split in
    let front = c.front_of.ensures ∙ front_is c.args.bytes.now c.args.at t at in
    let out = subst (λ k. ¬ (InTarget k)) (sym front) (front_is_out t.lines t.method t.only_lines t.plain_method) in
    let can = can_of_step _ c.step_at.new.headers c.step_at.result c.in_default.not-Never c.step_at.ensures.step out in
    (c.requires.none, fine_of_front c.args.bytes.now t (subst (λ k. ¬ (NeverHasRequest k)) front can))

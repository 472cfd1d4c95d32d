use Rattle.std.proofs.Common.{refl, sym, ◌∙◌}
use Rattle.std.proofs.lemmas.Result.{err_from_is_err_and}
use Rattle.gml_docs.proofs.Pairs.{at_start, all_read, odd, no_point, one_more}
use Rattle.gml_docs.proofs.positions.positions_of.Goals as goal

pub loop-a-init : goal.loop-a-init
loop-a-init c = rw c.new.ensures.items (at_start c.args.text.now)

pub returns-in_default-first_word : goal.returns-in_default-first_word
returns-in_default-first_word c = λ _. odd _ _ _ c.loop-a.invariant _ _ c.in-Some.ensures.0 c.in_default-first_word.ensures

pub returns-in_err-position_of : goal.returns-in_err-position_of
returns-in_err-position_of c =
    let p = err_from_is_err_and c.from_residual.result c.from_residual.ensures.1 in
    rw (p.1, p.2) (λ _. no_point _ _ _ c.loop-a.invariant _ _ c.in-Some.ensures.0 _ _ _ c.in-Some-first_word.ensures.0 (sym c.position_of.ensures ∙ c.in_err-position_of.was))

pub loop-a-preserved : goal.loop-a-preserved
loop-a-preserved c =
    one_more _ _ _ c.loop-a.invariant _ _ c.in-Some.ensures.0 _ _ _ _ c.in-Some-first_word.ensures.0 (sym c.position_of.ensures ∙ c.in_ok-position_of.was) c.in_ok-found.ensures

pub returns-in_err-found-2 : goal.returns-in_err-found-2
returns-in_err-found-2 c =
    let p = err_from_is_err_and c.from_residual-in_err-found-2.result c.from_residual-in_err-found-2.ensures.1 in
    rw (p.1, p.2) (λ _. all_read _ _ _ c.loop-a.invariant c.in_default.ensures ∙ rw c.in_err-found-2.was refl)

pub returns : goal.returns
returns c = all_read _ _ _ c.loop-a.invariant c.in_default.ensures ∙ rw c.in_ok-found-2.was refl

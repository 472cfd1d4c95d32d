use Rattle.std.proofs.Common.{refl}
use Rattle.std.proofs.lemmas.Result.{err_from_is_err_and}
use Rattle.fes_docs.specs.Sides.{bounds_of}
use Rattle.fes_docs.proofs.compare.bounds_of.Goals as goal

pub returns-in_err-low : goal.returns-in_err-low
unfolding bounds_of
returns-in_err-low c =
    let p = err_from_is_err_and c.from_residual-in_err-low.result c.from_residual-in_err-low.ensures.1 in
    rw (p.1, p.2) (λ other. rw (c.in_ok-lower.ensures, c.in_err-low.ensures other) refl)

pub returns-in_err-upper : goal.returns-in_err-upper
unfolding bounds_of
returns-in_err-upper c =
    let p = err_from_is_err_and c.from_residual-in_err-upper.result c.from_residual-in_err-upper.ensures.1 in
    rw (p.1, p.2) (λ other. rw (c.in_ok-lower.ensures, c.in_ok-low.ensures, c.in_err-upper.ensures other) refl)

pub returns-in_err-high : goal.returns-in_err-high
unfolding bounds_of
returns-in_err-high c =
    let p = err_from_is_err_and c.from_residual-in_err-high.result c.from_residual-in_err-high.ensures.1 in
    rw (p.1, p.2) (λ other. rw (c.in_ok-lower.ensures, c.in_ok-low.ensures, c.in_ok-upper.ensures, c.in_err-high.ensures other) refl)

pub returns : goal.returns
unfolding bounds_of
returns c = rw (c.in_ok-lower.ensures, c.in_ok-low.ensures, c.in_ok-upper.ensures, c.in_ok-high.ensures) c.and_no_more.ensures

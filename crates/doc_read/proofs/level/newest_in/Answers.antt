use Rattle.std.proofs.Common.{List, ℕ, Option, sym, ap, ◌∙◌}
use Rattle.doc_read.specs.Scope.{newer}
use Rattle.doc_read.proofs.Scopes.{newest_push, newest_nothing}
use Rattle.doc_read.proofs.level.newest_in.Goals as goal

pub loop-bound-init : goal.loop-bound-init
loop-bound-init c = sym (newest_nothing c.args.prefix.now)

pub loop-bound-preserved : goal.loop-bound-preserved
loop-bound-preserved c =
    c.newer-found.ensures ∙ ap (λ (o : Option (List ℕ)). newer c.args.prefix.now o c.bound-item.result) c.loop-bound.invariant
    ∙ sym (newest_push c.args.prefix.now c.args.bounds.now c.loop-bound.bound-index c.bound-item.result c.loop-bound-test.true c.bound-item.is)

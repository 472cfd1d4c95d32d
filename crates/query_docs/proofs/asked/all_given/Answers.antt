use Rattle.std.proofs.Common.{◌≡◌, [], rules, sym, subst, ◌∙◌}
use Rattle.std.proofs.lemmas.Result.{err_from_is_err_and}
use Rattle.gml_docs.proofs.Loops.{goes_on, fails, ends}
use Rattle.query_docs.specs.Asked.{next_given}
use Rattle.query_docs.specs.Seen.{HasGiven}
use Rattle.query_docs.proofs.Names.{none_given}
use Rattle.query_docs.proofs.asked.all_given.Goals as goal

pub loop-element-init : goal.loop-element-init
loop-element-init c =
    let none : c.new-given.result.items ≡ [] = search rules in
    record { so_far = search rules; seen = subst (HasGiven c.none_seen-seen.result) (sym none) (none_given c.none_seen-seen.result c.none_seen-seen.ensures) }

pub loop-element-preserved : goal.loop-element-preserved
loop-element-preserved c = record {
  so_far = goes_on next_given _ _ _ _ _ c.loop-element-test.true c.element-item.is _ c.in_ok-add_given.ensures.gives c.loop-element.invariant.so_far;
  seen = c.in_ok-add_given.ensures.seen;
}

pub returns-in_err-add_given : goal.returns-in_err-add_given
returns-in_err-add_given c =
    let p = err_from_is_err_and c.from_residual.result c.from_residual.ensures.1 in
    rw (p.1, p.2) (fails next_given _ _ _ _ _ c.loop-element-test.true c.element-item.is _ _ c.in_err-add_given.ensures.gives c.loop-element.invariant.so_far)

pub returns : goal.returns
returns c = sym c.loop-element.invariant.so_far ∙ ends next_given _ _ _ c.loop-element-test.false

use Rattle.std.proofs.Common.{◌≡◌, [], rules, sym, subst, ◌∙◌}
use Rattle.std.proofs.lemmas.Result.{err_from_is_err_and}
use Rattle.gml_docs.proofs.Loops.{goes_on, fails, ends}
use Rattle.query_docs.specs.Definitions.{next_part}
use Rattle.query_docs.specs.Seen.{HasDeclared}
use Rattle.query_docs.proofs.Names.{none_declared}
use Rattle.query_docs.proofs.definition.all_parts.Goals as goal

pub loop-element-init : goal.loop-element-init
loop-element-init c =
    let none : c.of.result ≡ [] = search rules in
    record { so_far = search rules; seen = subst (HasDeclared c.none_seen-seen.result) (sym none) (none_declared c.none_seen-seen.result c.none_seen-seen.ensures) }

pub loop-element-preserved : goal.loop-element-preserved
loop-element-preserved c = record {
  so_far = goes_on (next_part c.args.names.now c.args.schema.now) _ _ _ _ _ c.loop-element-test.true c.element-item.is _ c.in_ok-found.ensures.gives c.loop-element.invariant.so_far;
  seen = c.in_ok-found.ensures.seen;
}

pub returns-in_err-found : goal.returns-in_err-found
returns-in_err-found c =
    let p = err_from_is_err_and c.from_residual.result c.from_residual.ensures.1 in
    rw (p.1, p.2) (fails (next_part c.args.names.now c.args.schema.now) _ _ _ _ _ c.loop-element-test.true c.element-item.is _ _ c.in_err-found.ensures.gives c.loop-element.invariant.so_far)

pub returns : goal.returns
returns c = sym c.loop-element.invariant.so_far ∙ ends (next_part c.args.names.now c.args.schema.now) _ _ _ c.loop-element-test.false

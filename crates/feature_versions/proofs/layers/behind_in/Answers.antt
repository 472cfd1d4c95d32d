use Rattle.std.proofs.Common.{Some, ap, sym, ◌∙◌}
use Rattle.fes_filter.specs.View.{next_after}
use Rattle.feature_versions.proofs.Typed.{get_some, get_none, at_some, at_none}
use Rattle.feature_versions.proofs.layers.behind_in.Goals as goal

pub returns-in-None : goal.returns-in-None
returns-in-None c =
    let none = get_none c.args.layers.now c.args.id.kind c.in-None.ensures.lookup.3 in
    sym (ap (next_after (Some c.args.id)) (at_none c.args.layers.now c.args.id.kind none))

pub returns-in-Some : goal.returns-in-Some
returns-in-Some c =
    let some = get_some c.args.layers.now c.args.id.kind c.in-Some.layer.now c.in-Some.ensures.lookup.3.0 c.in-Some.ensures.lookup.1 in
    c.behind.ensures ∙ sym (ap (next_after (Some c.args.id)) (at_some c.args.layers.now c.args.id.kind c.in-Some.layer.now some))

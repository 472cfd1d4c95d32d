use Rattle.std.proofs.Common.{ap, sym, ◌∙◌}
use Rattle.fes_filter.specs.View.{feature_at}
use Rattle.feature_versions.proofs.Typed.{found_in_type, get_some, get_none, at_some, at_none}
use Rattle.feature_versions.proofs.layers.get.Goals as goal

pub returns-in-None : goal.returns-in-None
returns-in-None c =
    let none = get_none c.args.layers.now c.args.id.kind c.in-None.ensures.lookup.3 in
    sym (found_in_type c.args.layers.now c.args.id c.requires ∙ ap (feature_at c.args.id) (at_none c.args.layers.now c.args.id.kind none))

pub returns-in-Some : goal.returns-in-Some
returns-in-Some c =
    let some = get_some c.args.layers.now c.args.id.kind c.in-Some.layer.now c.in-Some.ensures.lookup.3.0 c.in-Some.ensures.lookup.1 in
    c.get-in-Some.ensures ∙ sym (found_in_type c.args.layers.now c.args.id c.requires ∙ ap (feature_at c.args.id) (at_some c.args.layers.now c.args.id.kind c.in-Some.layer.now some))

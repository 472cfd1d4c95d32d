use Rattle.std.proofs.Common.{◌∙◌, sym}
use Rattle.wfs_machine.proofs.Places.{found_at}
use Rattle.wfs_machine.proofs.ordered.feature_in.Goals as goal

pub returns-then-is_at : goal.returns-then-is_at
returns-then-is_at c =
    let at = found_at c.args.features.now c.args.id c.place_of-place.result c.requires (c.place_of-place.ensures.low, c.place_of-place.ensures.high) in
    c.at.ensures ∙ sym (rw (sym c.is_at.ensures.value ∙ c.if-is_at.true) at at)

pub returns-else-is_at : goal.returns-else-is_at
returns-else-is_at c =
    let at = found_at c.args.features.now c.args.id c.place_of-place.result c.requires (c.place_of-place.ensures.low, c.place_of-place.ensures.high) in
    sym (rw (sym c.is_at.ensures.value ∙ c.if-is_at.false) at at)

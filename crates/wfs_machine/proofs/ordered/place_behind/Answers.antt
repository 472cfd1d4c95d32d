use Rattle.std.proofs.Common.{◌∙◌, sym}
use Rattle.wfs_machine.proofs.Places.{behind_is}
use Rattle.wfs_machine.proofs.ordered.place_behind.Goals as goal

pub returns-then-is_at-clause-behind : goal.returns-then-is_at-clause-behind
returns-then-is_at-clause-behind c =
    let at = behind_is c.args.features.now c.args.id c.place_of-place.result c.requires (c.place_of-place.ensures.low, c.place_of-place.ensures.high) in
    sym (rw (sym c.is_at.ensures.value ∙ c.if-is_at.true) at at)

pub returns-else-is_at-clause-behind : goal.returns-else-is_at-clause-behind
returns-else-is_at-clause-behind c =
    let at = behind_is c.args.features.now c.args.id c.place_of-place.result c.requires (c.place_of-place.ensures.low, c.place_of-place.ensures.high) in
    sym (rw (sym c.is_at.ensures.value ∙ c.if-is_at.false) at at)

use Rattle.std.proofs.Common.{◌∙◌, sym}
use Rattle.feature_versions.proofs.Standing.{found_there, found_nowhere}
use Rattle.feature_versions.proofs.rows.feature_in.Goals as goal

pub returns-then-is_at : goal.returns-then-is_at
returns-then-is_at c =
    c.feature_of.ensures ∙ sym (found_there c.args.rows.now c.args.id c.place_of-place.result c.requires (c.place_of-place.ensures.bound, c.place_of-place.ensures.low, c.place_of-place.ensures.high) (sym c.is_at.ensures.value ∙ c.if-is_at.true))

pub returns-else-is_at : goal.returns-else-is_at
returns-else-is_at c =
    sym (found_nowhere c.args.rows.now c.args.id c.place_of-place.result c.requires (c.place_of-place.ensures.bound, c.place_of-place.ensures.low, c.place_of-place.ensures.high) (sym c.is_at.ensures.value ∙ c.if-is_at.false))

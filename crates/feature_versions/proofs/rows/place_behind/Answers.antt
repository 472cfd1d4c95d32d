use Rattle.std.proofs.Common.{◌∙◌, sym}
use Rattle.feature_versions.proofs.Standing.{next_there, next_from}
use Rattle.feature_versions.proofs.rows.place_behind.Goals as goal

pub returns-then-is_at : goal.returns-then-is_at
returns-then-is_at c = sym (next_there c.args.rows.now c.args.id c.place_of-place.result c.requires (sym c.is_at.ensures.value ∙ c.if-is_at.true))

pub returns-else-is_at : goal.returns-else-is_at
returns-else-is_at c =
    sym (next_from c.args.rows.now c.args.id c.place_of-place.result c.requires (c.place_of-place.ensures.bound, c.place_of-place.ensures.low, c.place_of-place.ensures.high) (sym c.is_at.ensures.value ∙ c.if-is_at.false))

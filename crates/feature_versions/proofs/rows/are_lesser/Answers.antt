use Rattle.std.proofs.Common.{◌∙◌, sym, ap}
use Rattle.std.specs.Option.{option_copied}
use Rattle.feature_versions.proofs.Placing.{lesser_all}
use Rattle.feature_versions.proofs.rows.are_lesser.Goals as goal

-- the last row has a lesser number
pub returns-in-Some : goal.returns-in-Some
returns-in-Some c is = lesser_all c.args.number c.args.rows.now c.in-Some.last.now c.requires (sym c.last.ensures.value ∙ ap option_copied c.in-Some.is) is

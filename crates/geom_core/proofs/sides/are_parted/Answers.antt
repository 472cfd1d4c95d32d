use Rattle.std.proofs.Common.{◌∙◌, refl, rules, w32, FitsSigned}
use Rattle.std.proofs.lemmas.Int.{to_z-of_z}
use Rattle.geom_core.proofs.sides.are_parted.Goals as goal

pub returns : goal.returns
returns c =
    let fits : FitsSigned w32 c.orient.result = search rules in
    let fits_other : FitsSigned w32 c.orient-2.result = search rules in
    c.are_opposite.ensures ∙ rw (to_z-of_z w32 c.orient.result fits, to_z-of_z w32 c.orient-2.result fits_other, c.orient.ensures, c.orient-2.ensures) refl

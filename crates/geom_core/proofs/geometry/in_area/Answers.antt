use Rattle.std.proofs.Common.{◌∙◌}
use Rattle.geom_core.proofs.Areas.{area-is}
use Rattle.geom_core.proofs.geometry.in_area.Goals as goal

pub returns : goal.returns
returns c = c.area_holds.ensures ∙ (rw (c.place.ensures, c.place_in_holes.ensures, c.shell.ensures, c.holes.ensures) (area-is c.args.p c.args.area.now))

use Rattle.std.proofs.Math.Facts.{to_z-of_z}
use Rattle.wfs_ends.proofs.Writing.{wrote_then, wrote_last}
use Rattle.gml_docs.proofs.print.put_pair.Goals as goal

pub returns : goal.returns
returns g c =
    let x = rw (to_z-of_z c.ranges.x) at c.put_number-failed.ensures in
    let y = rw (to_z-of_z c.ranges.y) at c.put_number.ensures in
    wrote_then _ _ _ _ _ x (wrote_then _ _ _ _ _ c.put_on-failed.ensures (wrote_last _ _ _ y))

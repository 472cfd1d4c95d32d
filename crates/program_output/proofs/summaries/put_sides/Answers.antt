use Rattle.std.specs.Prelude.{[], ◌∷◌, codes, decimal}
use Rattle.wfs_ends.proofs.Writing.{wrote_then, wrote_last}
use Rattle.program_output.specs.Lines.{sides_line}
use Rattle.program_output.proofs.summaries.put_sides.Goals as goal

pub returns : goal.returns
unfolding sides_line
returns g c =
    wrote_then _ _ _ (codes "side ") (decimal c.args.before ∷ codes " to " ∷ decimal c.args.after ∷ codes " bytes\n" ∷ []) (c.put_on-failed.ensures)
    (wrote_then _ _ _ (decimal c.args.before) (codes " to " ∷ decimal c.args.after ∷ codes " bytes\n" ∷ []) (c.put_number-failed.ensures)
    (wrote_then _ _ _ (codes " to ") (decimal c.args.after ∷ codes " bytes\n" ∷ []) (c.put_on-failed-2.ensures)
    (wrote_then _ _ _ (decimal c.args.after) (codes " bytes\n" ∷ []) (c.put_number-failed-2.ensures)
    (wrote_last _ _ (codes " bytes\n") (c.put_on.ensures)))))

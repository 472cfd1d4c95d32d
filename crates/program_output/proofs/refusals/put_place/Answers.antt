use Rattle.std.specs.Prelude.{[], ◌∷◌, codes, decimal}
use Rattle.wfs_ends.proofs.Writing.{wrote_then, wrote_last}
use Rattle.program_output.specs.Lines.{not_a_journal, side_name}
use Rattle.program_output.proofs.refusals.put_place.Goals as goal

pub returns : goal.returns
unfolding not_a_journal
returns g c =
    wrote_then _ _ _ (codes "wfsd: not a journal: ") (side_name c.args.second ∷ codes " " ∷ decimal c.args.at ∷ codes "\n" ∷ []) (c.put_on-failed.ensures)
    (wrote_then _ _ _ (side_name c.args.second) (codes " " ∷ decimal c.args.at ∷ codes "\n" ∷ []) (rw c.side_name.ensures at c.put_on-failed-2.ensures)
    (wrote_then _ _ _ (codes " ") (decimal c.args.at ∷ codes "\n" ∷ []) (c.put_on-failed-3.ensures)
    (wrote_then _ _ _ (decimal c.args.at) (codes "\n" ∷ []) (c.put_number-failed.ensures)
    (wrote_last _ _ (codes "\n") (c.put_on.ensures)))))

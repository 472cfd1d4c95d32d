use Rattle.std.specs.Prelude.{[], ◌∷◌, codes, decimal}
use Rattle.wfs_ends.proofs.Writing.{wrote_then, wrote_last}
use Rattle.program_output.specs.Lines.{not_of_schema}
use Rattle.program_output.proofs.refusals.put_record.Goals as goal

pub returns : goal.returns
unfolding not_of_schema
returns g c =
    wrote_then _ _ _ (codes "wfsd: not of this schema: ") (decimal c.args.number ∷ codes "\n" ∷ []) (c.put_on-failed.ensures)
    (wrote_then _ _ _ (decimal c.args.number) (codes "\n" ∷ []) (c.put_number-failed.ensures)
    (wrote_last _ _ (codes "\n") (c.put_on.ensures)))

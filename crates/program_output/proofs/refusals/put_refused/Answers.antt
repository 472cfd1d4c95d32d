use Rattle.std.specs.Prelude.{[], ◌∷◌, codes}
use Rattle.wfs_ends.proofs.Writing.{wrote_then, wrote_last}
use Rattle.program_output.specs.Lines.{fault_text, refused_line}
use Rattle.program_output.proofs.refusals.put_refused.Goals as goal

pub returns : goal.returns
unfolding refused_line
returns g c =
    wrote_then _ _ _ (codes "wfsd: schema refused: ") (fault_text c.args.fault.now ∷ codes "\n" ∷ []) (c.put_on-failed.ensures)
    (wrote_then _ _ _ (fault_text c.args.fault.now) (codes "\n" ∷ []) (c.put_fault-failed.ensures)
    (wrote_last _ _ (codes "\n") (c.put_on.ensures)))

use Rattle.std.specs.Prelude.{[], ◌∷◌, codes, decimal}
use Rattle.wfs_ends.proofs.Writing.{wrote_then, wrote_last}
use Rattle.program_output.specs.Lines.{counts_line}
use Rattle.program_output.proofs.summaries.put_counts.Goals as goal

pub returns : goal.returns
unfolding counts_line
returns g c =
    wrote_then _ _ _ (codes "types ") (decimal c.args.types ∷ codes " features " ∷ decimal c.args.features ∷ codes " queries " ∷ decimal c.args.queries ∷ codes " openings " ∷ decimal c.args.openings ∷ codes "\n" ∷ []) (c.put_on-failed.ensures)
    (wrote_then _ _ _ (decimal c.args.types) (codes " features " ∷ decimal c.args.features ∷ codes " queries " ∷ decimal c.args.queries ∷ codes " openings " ∷ decimal c.args.openings ∷ codes "\n" ∷ []) (c.put_number-failed.ensures)
    (wrote_then _ _ _ (codes " features ") (decimal c.args.features ∷ codes " queries " ∷ decimal c.args.queries ∷ codes " openings " ∷ decimal c.args.openings ∷ codes "\n" ∷ []) (c.put_on-failed-2.ensures)
    (wrote_then _ _ _ (decimal c.args.features) (codes " queries " ∷ decimal c.args.queries ∷ codes " openings " ∷ decimal c.args.openings ∷ codes "\n" ∷ []) (c.put_number-failed-2.ensures)
    (wrote_then _ _ _ (codes " queries ") (decimal c.args.queries ∷ codes " openings " ∷ decimal c.args.openings ∷ codes "\n" ∷ []) (c.put_on-failed-3.ensures)
    (wrote_then _ _ _ (decimal c.args.queries) (codes " openings " ∷ decimal c.args.openings ∷ codes "\n" ∷ []) (c.put_number-failed-3.ensures)
    (wrote_then _ _ _ (codes " openings ") (decimal c.args.openings ∷ codes "\n" ∷ []) (c.put_on-failed-4.ensures)
    (wrote_then _ _ _ (decimal c.args.openings) (codes "\n" ∷ []) (c.put_number-failed-4.ensures)
    (wrote_last _ _ (codes "\n") (c.put_on.ensures)))))))))

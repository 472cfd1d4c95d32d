use Rattle.std.specs.Prelude.{[], ◌∷◌, codes, decimal}
use Rattle.wfs_ends.proofs.Writing.{wrote_then, wrote_last}
use Rattle.program_output.specs.Lines.{rounds_line}
use Rattle.program_output.proofs.summaries.put_rounds.Goals as goal

pub returns : goal.returns
unfolding rounds_line
returns g c =
    wrote_then _ _ _ (codes "rounds ") (decimal c.args.rounds ∷ codes " entries " ∷ decimal c.args.entries ∷ codes " features " ∷ decimal c.args.features ∷ codes " matched " ∷ decimal c.args.matched ∷ codes " locked " ∷ decimal c.args.locked ∷ codes "\n" ∷ []) (c.put_on-failed.ensures)
    (wrote_then _ _ _ (decimal c.args.rounds) (codes " entries " ∷ decimal c.args.entries ∷ codes " features " ∷ decimal c.args.features ∷ codes " matched " ∷ decimal c.args.matched ∷ codes " locked " ∷ decimal c.args.locked ∷ codes "\n" ∷ []) (c.put_number-failed.ensures)
    (wrote_then _ _ _ (codes " entries ") (decimal c.args.entries ∷ codes " features " ∷ decimal c.args.features ∷ codes " matched " ∷ decimal c.args.matched ∷ codes " locked " ∷ decimal c.args.locked ∷ codes "\n" ∷ []) (c.put_on-failed-2.ensures)
    (wrote_then _ _ _ (decimal c.args.entries) (codes " features " ∷ decimal c.args.features ∷ codes " matched " ∷ decimal c.args.matched ∷ codes " locked " ∷ decimal c.args.locked ∷ codes "\n" ∷ []) (c.put_number-failed-2.ensures)
    (wrote_then _ _ _ (codes " features ") (decimal c.args.features ∷ codes " matched " ∷ decimal c.args.matched ∷ codes " locked " ∷ decimal c.args.locked ∷ codes "\n" ∷ []) (c.put_on-failed-3.ensures)
    (wrote_then _ _ _ (decimal c.args.features) (codes " matched " ∷ decimal c.args.matched ∷ codes " locked " ∷ decimal c.args.locked ∷ codes "\n" ∷ []) (c.put_number-failed-3.ensures)
    (wrote_then _ _ _ (codes " matched ") (decimal c.args.matched ∷ codes " locked " ∷ decimal c.args.locked ∷ codes "\n" ∷ []) (c.put_on-failed-4.ensures)
    (wrote_then _ _ _ (decimal c.args.matched) (codes " locked " ∷ decimal c.args.locked ∷ codes "\n" ∷ []) (c.put_number-failed-4.ensures)
    (wrote_then _ _ _ (codes " locked ") (decimal c.args.locked ∷ codes "\n" ∷ []) (c.put_on-failed-5.ensures)
    (wrote_then _ _ _ (decimal c.args.locked) (codes "\n" ∷ []) (c.put_number-failed-5.ensures)
    (wrote_last _ _ (codes "\n") (c.put_on.ensures)))))))))))

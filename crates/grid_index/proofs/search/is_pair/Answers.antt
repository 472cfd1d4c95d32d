use Rattle.std.proofs.Common.{◌∙◌, sym}
use Rattle.grid_index.proofs.Counts.{told_pair}
use Rattle.grid_index.proofs.search.is_pair.Goals as goal

pub returns-then-eq-clause-yes : goal.returns-then-eq-clause-yes
returns-then-eq-clause-yes c = λ e. told_pair c.args.pair.now c.args.id c.args.area (sym c.eq.ensures ∙ c.if-eq.true) (sym c.eq-then-eq.ensures ∙ e)

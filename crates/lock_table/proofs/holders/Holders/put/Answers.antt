use Rattle.std.proofs.Common.{◌∙◌}
use Rattle.lock_table.specs.Kept.{number_at}
use Rattle.lock_table.proofs.Map.{put_one}
use Rattle.lock_table.proofs.holders.Holders.put.Goals as goal

pub returns-clause-held : goal.returns-clause-held
returns-clause-held c = λ f. c.in-Ok.ensures.updates.0 (f.kind, f.number) ∙ put_one c.args.number (number_at c.args.self.now.numbers) c.args.feature.now f

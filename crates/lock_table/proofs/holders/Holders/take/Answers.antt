use Rattle.std.proofs.Common.{◌∙◌, ◌≡◌, true}
use Rattle.lock_table.specs.Kept.{number_at, is_number}
use Rattle.lock_table.proofs.Map.{taken}
use Rattle.lock_table.proofs.holders.Holders.take.Goals as goal

pub returns-then-is_held_by-clause-freed : goal.returns-then-is_held_by-clause-freed
returns-then-is_held_by-clause-freed c =
    let held : is_number c.args.number (number_at c.args.self.now.numbers c.args.feature.now) ≡ true = cc in
    λ f. c.remove.ensures.updates.0 (f.kind, f.number) ∙ taken c.args.number (number_at c.args.self.now.numbers) c.args.feature.now f held

use Rattle.std.proofs.Common.{◌≡◌, false, ◌-◌, length, drop}
use Rattle.std.specs.Prelude.{◌==◌}
use Rattle.std.specs.List.{list_any}
use Rattle.service_docs.proofs.schema_document.is_among.Given as goal

abbrev pub invariant-loop-behind : goal.invariant-loop-behind
invariant-loop-behind l = list_any (λ n. n == l.number) (drop (length l.numbers - l.behind) l.numbers) ≡ false

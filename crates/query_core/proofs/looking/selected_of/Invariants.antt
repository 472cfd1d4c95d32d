use Rattle.std.proofs.Common.{◌≡◌, ◌+◌, ◌≤◌, map, filter, take}
use Rattle.query_core.specs.Selecting.{is_selected}
use Rattle.query_core.proofs.looking.selected_of.Given as goal

abbrev pub invariant-loop-feature : goal.invariant-loop-feature
invariant-loop-feature g l =
    (map (λ f. f.now) l.found.items ≡ filter (is_selected l.query) (map (λ f. f.now) (take l.feature-index l.features)))
    × (l.steps ≤ l.initial.steps + l.feature-index)

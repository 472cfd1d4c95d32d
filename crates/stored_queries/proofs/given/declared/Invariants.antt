use Rattle.std.proofs.Common.{◌≡◌, drop, []}
use Rattle.wfs_ends.specs.Read.{each}
use Rattle.wfs_model.specs.Expand.{with_text, given_for}
use Rattle.stored_queries.proofs.given.declared.Given as goal

abbrev pub invariant-loop-name : goal.invariant-loop-name
invariant-loop-name l =
    each (λ texts name. with_text l.schema l.queries texts name (given_for l.given name)) l.texts.items (drop l.name-index l.names)
    ≡ each (λ texts name. with_text l.schema l.queries texts name (given_for l.given name)) [] l.names

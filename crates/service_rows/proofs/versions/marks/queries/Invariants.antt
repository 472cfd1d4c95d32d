use Rattle.std.proofs.Common.{◌≡◌, [], All}
use Rattle.wfs_model.specs.declared.stored.StoredQuery.{StoredQuery}
use Rattle.service_rows.proofs.versions.marks.queries.Given as goal

abbrev pub invariant-loop-id : goal.invariant-loop-id
invariant-loop-id l = All (λ (query : StoredQuery). query.queries ≡ []) l.queries.items

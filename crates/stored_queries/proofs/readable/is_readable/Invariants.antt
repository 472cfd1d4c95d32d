use Rattle.std.proofs.Common.{◌≡◌, true, take}
use Rattle.std.specs.List.{list_all}
use Rattle.fes_filter.specs.Check.{type_in}
use Rattle.wfs_model.specs.Filled.{is_read_as, kinds_in}
use Rattle.stored_queries.proofs.readable.is_readable.Given as goal

abbrev pub invariant-loop-query : goal.invariant-loop-query
invariant-loop-query l = list_all (λ query. list_all (is_read_as l.text) (kinds_in (type_in l.schema query.kind) l.place query.filter)) (take l.query-index l.queries) ≡ true

-- The bindings in scope, level by level.
use Rattle.std.specs.Prelude.{List}
use Rattle.std.specs.List.{flat_map}
use Rattle.doc_read.specs.declared.scope.Bound.{Bound}
use Rattle.doc_read.specs.declared.level.Level.{Level}

-- the bindings of all levels, the newest last
abbrev pub bounds_of : List Level → List Bound
bounds_of levels = flat_map (λ level. level.bounds.items) levels

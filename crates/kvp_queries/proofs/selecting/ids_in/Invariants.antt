use Rattle.std.proofs.Common.{◌≡◌, ◌++◌, map, length, IsUtf8}
use Rattle.kvp_queries.specs.Selection.{id_of, ids_in}
use Rattle.kvp_queries.specs.Lists.{items_in}
use Rattle.kvp_queries.proofs.selecting.ids_in.Given as goal

abbrev pub invariant-loop-first : goal.invariant-loop-first
invariant-loop-first l = record {
  text : IsUtf8 l.rest;
  read : l.ids.items ++ map (id_of l.schema) (items_in l.rest) ≡ ids_in l.schema l.text;
}

abbrev pub decreases-loop-first : goal.decreases-loop-first
decreases-loop-first l = length l.rest

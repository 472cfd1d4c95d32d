use Rattle.std.proofs.Common.{◌≡◌, [], drop, filter}
use Rattle.form_urlencoded.specs.Form.{extend_pairs}
use Rattle.kvp_queries.specs.Pairs.{stays}
use Rattle.kvp_queries.proofs.link.link_of.Given as goal

abbrev pub invariant-loop-pair : goal.invariant-loop-pair
invariant-loop-pair l = record {
  address : l.form.prefix ≡ l.initial.form.prefix;
  written : extend_pairs l.form.form (filter (λ pair. stays pair.0) (drop l.pair-index l.pairs)) ≡ extend_pairs [] (filter (λ pair. stays pair.0) l.pairs);
}

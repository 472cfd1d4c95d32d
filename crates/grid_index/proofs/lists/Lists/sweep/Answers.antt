use Rattle.std.proofs.Common.{not, rules}
use Rattle.std.specs.Prelude.{◌==◌}
use Rattle.std.specs.Vec.{vec_len}
use Rattle.std.proofs.lemmas.Map.Made.{filter_same_pairs}
use Rattle.grid_index.proofs.Looking.{kept_at}
use Rattle.grid_index.proofs.lists.Lists.sweep.Goals as goal

pub returns-then-self-len : goal.returns-then-self-len
returns-then-self-len c = λ q.
    kept_at c.args.self.now.by_place.entries c.retain.new.self.entries q c.retain.ensures.was_unique (filter_same_pairs _ (λ e. not (vec_len e.1 == 0)) _ (λ k v b w f t. search rules) _ _ c.retain.ensures.filtered)

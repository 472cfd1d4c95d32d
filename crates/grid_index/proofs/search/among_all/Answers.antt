use Rattle.std.specs.Map.Iter.{deref_pair}
use Rattle.std.proofs.lemmas.Map.Iter.{rest_more, rest_all}
use Rattle.grid_index.proofs.Nearby.{turn_next, turn_end, found_all}
use Rattle.grid_index.proofs.search.among_all.Goals as goal

pub loop-place-preserved : goal.loop-place-preserved
loop-place-preserved c = record {
  found = λ f. turn_next c.args.asked.now f c.loop-place._place-iterator _ _ c.in-Some.list.now _ _ _ (rest_more deref_pair _ _ _ (c.in-Some._place, c.in-Some.list) c.in-Some.is c.next.ensures.steps) (c.loop-place.invariant.found f)
      (rw c.as_slice.ensures.value at (c.in_ok-add_near.ensures.finds f));
  marked = c.in_ok-add_near.ensures.marked;
}

pub returns : goal.returns
returns c = λ pairs h.
    found_all c.args.lists.now.by_place c.args.asked.now pairs _ c.iter-place-items.ensures.found
    (λ f. turn_end c.args.asked.now f c.loop-place._place-iterator _ _ (rest_all deref_pair _ _ _ c.in-None.is c.next.ensures.steps) (c.loop-place.invariant.found f))
    c.loop-place.invariant.marked.once h

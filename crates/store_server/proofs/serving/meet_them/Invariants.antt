use Rattle.std.proofs.Common.{All, vec_len}
use Rattle.shared_store.specs.Counters.{IsViewerAt}
use Rattle.shared_store.specs.Published.{AreOf, pairs_of}
use Rattle.store_server.proofs.serving.meet_them.Given as goal

abbrev pub invariant-loop-viewer : goal.invariant-loop-viewer
invariant-loop-viewer g l = record {
  own : All (IsViewerAt l.fn.counter) l.viewers.items;
  met : All (λ viewer. AreOf l.fn.counter.store (pairs_of viewer)) l.viewers.items → All (λ viewer. AreOf l.fn.counter.store (pairs_of viewer)) l.fn.viewers.items;
}

abbrev pub decreases-loop-viewer : goal.decreases-loop-viewer
decreases-loop-viewer g l = vec_len l.viewers

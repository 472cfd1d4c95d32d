-- One viewer after the other meets the publisher.
use Rattle.std.proofs.Common.{◌≡◌, [], ◌∷◌, ◌++◌, Option, Some, All, subst, sym}
use Rattle.std.proofs.lemmas.List.Elements.{All-pop, All-push}
use Rattle.snapshot_reads.specs.declared.viewer.Viewer.{Viewer}
use Rattle.shared_store.specs.Counters.{IsViewerAt}
use Rattle.shared_store.specs.Published.{AreOf, pairs_of}
use Rattle.store_server.proofs.serving.meet_them.Goals as goal

pub meet-requires-clause-at : goal.meet-requires-clause-at
meet-requires-clause-at g c = (All-pop (IsViewerAt c.args.counter.now) c.loop-viewer.viewers.items c.pop.new.self.items (Some c.in-Some.viewer) c.in-Some.ensures.items c.loop-viewer.invariant.own).1

pub loop-viewer-preserved : goal.loop-viewer-preserved
loop-viewer-preserved g c =
    let popped : c.loop-viewer.viewers.items ≡ c.pop.new.self.items ++ c.in-Some.viewer ∷ [] = c.in-Some.ensures.items in
    let P : Option Viewer → Type 0 = λ v. AreOf c.args.counter.now.store (pairs_of v) in
    let one : P c.in-Some.viewer = subst (AreOf c.args.counter.now.store) c.meet.ensures.found c.meet.ensures.known in
    record {
      own = (All-pop (IsViewerAt c.args.counter.now) c.loop-viewer.viewers.items c.pop.new.self.items (Some c.in-Some.viewer) popped c.loop-viewer.invariant.own).0;
      met = λ rest. c.loop-viewer.invariant.met (subst (All P) (sym popped) (All-push P c.pop.new.self.items c.in-Some.viewer rest one));
    }

pub loop-viewer-preserved-in-Some : goal.loop-viewer-preserved-in-Some
loop-viewer-preserved-in-Some g c =
    let popped : c.loop-viewer.viewers.items ≡ c.pop.new.self.items ++ c.in-Some.viewer ∷ [] = c.in-Some.ensures.items in
    let P : Option Viewer → Type 0 = λ v. AreOf c.args.counter.now.store (pairs_of v) in
    let one : P c.in-Some.viewer = subst (AreOf c.args.counter.now.store) c.meet.ensures.found c.meet.ensures.known in
    record {
      own = (All-pop (IsViewerAt c.args.counter.now) c.loop-viewer.viewers.items c.pop.new.self.items (Some c.in-Some.viewer) popped c.loop-viewer.invariant.own).0;
      met = λ rest. c.loop-viewer.invariant.met (subst (All P) (sym popped) (All-push P c.pop.new.self.items c.in-Some.viewer rest one));
    }

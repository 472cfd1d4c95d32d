use Rattle.std.proofs.Common.{◌≡◌, ◌+◌, ◌++◌, ◌∷◌, [], length, arith, length-append}
use Rattle.disk_core.specs.Disk.{Begins, joined}
use Rattle.disk_core.proofs.Seen.{seen, reads_more, reads_written, every_stable, ok_more}
use Rattle.disk_core.proofs.Bytes.{begins_over}
use Rattle.disk_core.proofs.Fronts.{keeps_torn, keeps_same}
use Rattle.feature_journal.specs.Side.{Closed}
use Rattle.feature_journal.proofs.Images.{closed_long, laid}
use Rattle.feature_journal.proofs.side.lay.Goals as goal

pub write_framed-requires : goal.write_framed-requires
write_framed-requires g c =
    let r = c.requires.closed in
    reads_more _ (Closed r.0) _ (λ s b. omega (arith, closed_long r.0 s b, r.1)) (seen g.D.Disk.shown g.D.Disk.images g.met.D.Disk.reads c.args.disk.now (Closed r.0) r.2)

pub returns-clause-laid : goal.returns-clause-laid
returns-clause-laid g c = ok_more c.sync.result _ _ (λ stable front is all.
    let body = c.args.body.now in
    let first = front ++ 0 ∷ [] in
    let size = c.to_be_bytes.result in
    let text = joined size body (0 ∷ []) in
    let long : length first ≡ c.args.gate + 1 = omega (arith, is, length-append front (0 ∷ [])) in
    let at_first = seen g.D.Disk.shown g.D.Disk.images g.met.D.Disk.reads c.args.disk.now (Closed front) all in
    let at_last = reads_written _ _ _ _ (Begins first) (Begins (first ++ text)) (λ s b. begins_over _ first _ s long b) c.in_ok-write_framed.ensures.done at_first in
    λ image here. record { byte = 0; is = laid front size body image c.to_be_bytes.ensures (every_stable _ _ (Begins (first ++ text)) stable at_last image here) }) c.sync.ensures.stable

pub returns-in_err-write_framed-clause-kept : goal.returns-in_err-write_framed-clause-kept
returns-in_err-write_framed-clause-kept g c = keeps_torn g.D.Disk.moment g.D.Disk.since g.D.Disk.images (c.args.gate + 1) _ _ c.args.disk.now c.write_framed.new.self (omega arith) c.write_framed.ensures.crash

pub returns-clause-kept : goal.returns-clause-kept
returns-clause-kept g c =
    let k = c.args.gate + 1 in
    keeps_same g.D.Disk.moment g.D.Disk.since g.D.Disk.images k c.args.disk.now c.write_framed.new.self c.sync.new.self
    (keeps_torn g.D.Disk.moment g.D.Disk.since g.D.Disk.images k _ _ c.args.disk.now c.write_framed.new.self (omega arith) c.write_framed.ensures.crash) c.sync.ensures.crash

use Rattle.std.proofs.Common.{◌≡◌, ◌-◌, length, refl, rules, arith}
use Rattle.std.proofs.lemmas.Result.{err_from_is_err_and}
use Rattle.doc_read.specs.Levels.{bounds_of}
use Rattle.doc_read.proofs.Enough.{content_enough}
use Rattle.doc_read.proofs.Levels.{until_fails}
use Rattle.doc_read.proofs.tree.+tree.Goals as goal

pub content-loop-init : goal.content-loop-init
content-loop-init t c =
    let all : length c.args.cs.now - 0 ≡ length c.args.cs.now = omega arith in
    record {
      text = search rules;
      scope = refl;
      reads = rw (all, c.new.ensures.items, c.new-2.ensures.bytes) (content_enough c.args.depth (bounds_of c.args.scope.now.items) c.args.seen c.args.cs.now);
    }

pub content-returns-in_err-is_end-clause-reads : goal.content-returns-in_err-is_end-clause-reads
content-returns-in_err-is_end-clause-reads t c =
    let p = err_from_is_err_and c.from_residual.result c.from_residual.ensures.1 in
    let fails = rw c.loop.invariant.scope at c.in_err-is_end.ensures.reads in
    rw (p.1, p.2) (until_fails _ _ _ _ _ _ c.loop-test.true fails c.loop.invariant.reads)

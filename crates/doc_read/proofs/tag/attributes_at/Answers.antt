use Rattle.std.proofs.Common.{◌≡◌, ◌-◌, length, rules, arith}
use Rattle.doc_read.proofs.Enough.{attributes_enough}
use Rattle.doc_read.proofs.tag.attributes_at.Goals as goal

pub loop-init : goal.loop-init
loop-init c =
    let all : length c.args.cs.now - 0 ≡ length c.args.cs.now = omega arith in
    record { text = search rules; reads = rw (all, c.new-found.ensures.items) (attributes_enough c.args.cs.now c.utf8.cs) }

use Rattle.std.proofs.Common.{◌≡◌, ◌+◌, ◌-◌, length, rules, arith}
use Rattle.doc_read.proofs.Enough.{misc_enough}
use Rattle.doc_read.proofs.document.misc_at.Goals as goal

pub loop-init : goal.loop-init
loop-init c =
    let all : (length c.args.cs.now + 1) - 0 ≡ length c.args.cs.now + 1 = omega arith in
    record { text = search rules; reads = rw all (misc_enough c.args.cs.now) }

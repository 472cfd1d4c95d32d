use Rattle.std.proofs.Common.{◌≡◌, ◌≤◌, ◌+◌, ◌++◌, length, ◌∙◌, ap, arith, length-append, append_assoc}
use Rattle.disk_core.specs.Disk.{over}
use Rattle.disk_core.proofs.Bytes.{over_over}
use Rattle.disk_core.proofs.Notes.{length_over, length_over_more}
use Rattle.disk_core.proofs.memory.put_framed.Goals as goal

pub put_over-requires-2-clause-within : goal.put_over-requires-2-clause-within
put_over-requires-2-clause-within c = omega (arith, ap length c.put_over.ensures.put, length_over_more c.args.at c.args.head.now c.args.bytes.now.items c.requires.within)

pub put_over-requires-2-clause-room : goal.put_over-requires-2-clause-room
put_over-requires-2-clause-room c =
    omega (
      arith,
      ap length c.put_over.ensures.put,
      c.put_over.ensures.room,
      length_over c.args.at c.args.head.now c.args.bytes.now.items c.requires.within,
      c.requires.room,
      length-append c.args.head.now (c.args.body.now ++ c.args.tail.now),
      length-append c.args.body.now c.args.tail.now,
    )

pub put_over-requires-3-clause-within : goal.put_over-requires-3-clause-within
put_over-requires-3-clause-within c =
    let old = c.args.bytes.now.items in
    let one = ap length c.put_over.ensures.put in
    let le : c.args.at + length c.args.head.now ≤ length c.put_over.new.bytes.items = omega (arith, one, length_over_more c.args.at c.args.head.now old c.requires.within) in
    omega (arith, ap length c.put_over-2.ensures.put, length_over_more (c.args.at + length c.args.head.now) c.args.body.now c.put_over.new.bytes.items le)

pub put_over-requires-3-clause-room : goal.put_over-requires-3-clause-room
put_over-requires-3-clause-room c =
    let old = c.args.bytes.now.items in
    let one = ap length c.put_over.ensures.put in
    let le : c.args.at + length c.args.head.now ≤ length c.put_over.new.bytes.items = omega (arith, one, length_over_more c.args.at c.args.head.now old c.requires.within) in
    omega (
      arith,
      ap length c.put_over-2.ensures.put,
      c.put_over-2.ensures.room,
      length_over (c.args.at + length c.args.head.now) c.args.body.now c.put_over.new.bytes.items le,
      one,
      c.put_over.ensures.room,
      length_over c.args.at c.args.head.now old c.requires.within,
      c.requires.room,
      length-append c.args.head.now (c.args.body.now ++ c.args.tail.now),
      length-append c.args.body.now c.args.tail.now,
    )

pub returns-clause-put : goal.returns-clause-put
returns-clause-put c =
    let at = c.args.at in
    let head = c.args.head.now in
    let body = c.args.body.now in
    let old = c.args.bytes.now.items in
    let two : c.put_over-2.new.bytes.items ≡ over at (head ++ body) old =
    c.put_over-2.ensures.put ∙ ap (over (at + length head) body) c.put_over.ensures.put ∙ over_over at head body old c.requires.within in
    c.put_over-3.ensures.put ∙ ap (over (at + length head + length body) c.args.tail.now) two
    ∙ ap (λ n. over n c.args.tail.now (over at (head ++ body) old)) (omega (arith, length-append head body))
    ∙ over_over at (head ++ body) c.args.tail.now old c.requires.within ∙ ap (λ l. over at l old) (append_assoc head body c.args.tail.now)

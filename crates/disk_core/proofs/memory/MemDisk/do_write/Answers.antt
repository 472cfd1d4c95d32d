use Rattle.std.proofs.Common.{◌≡◌, ◌≤◌, ◌+◌, ◌-◌, [], ◌∷◌, ◌++◌, length, refl, sym, ◌∙◌, ap, subst, arith, length-append}
use Rattle.disk_core.specs.Disk.{over, joined}
use Rattle.disk_core.specs.Story.{read_after_all}
use Rattle.disk_core.specs.Story.Step.{wrote}
use Rattle.disk_core.specs.Memory.{Memory, steps_of, IsWithin, written_size, reads_as, counted}
use Rattle.std.specs.List.{AllByRecursion}
use Rattle.disk_core.specs.declared.call.Call.TheVariants as calls
use Rattle.disk_core.proofs.Notes.{steps_write, within_push, within_more, read_write, written_push, length_steps}
use Rattle.disk_core.proofs.memory.MemDisk.do_write.Goals as goal

pub put_framed-requires-clause-room : goal.put_framed-requires-clause-room
put_framed-requires-clause-room c =
    let inside = c.self.inside in
    let size_is : length (joined c.args.head.now c.args.body.now c.args.tail.now) ≡ length c.args.head.now + length c.args.body.now + length c.args.tail.now =
    omega (arith, length-append c.args.head.now (c.args.body.now ++ c.args.tail.now), length-append c.args.body.now c.args.tail.now) in
    omega (arith, c.self.invariant.bytes_room, ap length c.self.invariant.read, length_steps inside.base.items inside.text.items inside.log.items, c.if-size-self, size_is)

pub invariant_of-self-2 : goal.invariant_of-self-2
invariant_of-self-2 c =
    let inside = c.self.inside in
    let size_is : length (joined c.args.head.now c.args.body.now c.args.tail.now) ≡ length c.args.head.now + length c.args.body.now + length c.args.tail.now =
    omega (arith, length-append c.args.head.now (c.args.body.now ++ c.args.tail.now), length-append c.args.body.now c.args.tail.now) in
    let was = c.self.invariant in
    let call = calls.Write c.args.at (length inside.text.items) (length (joined c.args.head.now c.args.body.now c.args.tail.now)) in
    let noted : steps_of c.log_write.new.text.items c.log_write.new.log.items ≡ steps_of inside.text.items inside.log.items ++ wrote c.args.at (joined c.args.head.now c.args.body.now c.args.tail.now) ∷ [] =
    (λ i. steps_of (c.log_write.ensures.text i) (c.log_write.ensures.pushed i)) ∙ steps_write inside.text.items (joined c.args.head.now c.args.body.now c.args.tail.now) inside.log.items c.args.at was.within in
    let le : c.args.at ≤ length (read_after_all inside.base.items (steps_of inside.text.items inside.log.items)) = subst (λ (m : Memory). c.args.at ≤ length (reads_as m)) (sym c.self.view_is) c.requires in
    let text_size : length c.log_write.new.text.items ≡ length inside.text.items + length (joined c.args.head.now c.args.body.now c.args.tail.now) = omega (arith, ap length c.log_write.ensures.text, length-append inside.text.items (joined c.args.head.now c.args.body.now c.args.tail.now)) in
    let size : written_size c.log_write.new.log.items ≡ written_size inside.log.items + length (joined c.args.head.now c.args.body.now c.args.tail.now) = ap written_size c.log_write.ensures.pushed ∙ written_push inside.log.items call in
    record {
      read = c.put_framed.ensures.put ∙ ap (over c.args.at (joined c.args.head.now c.args.body.now c.args.tail.now)) was.read ∙ sym (read_write inside.base.items inside.base.items (steps_of inside.text.items inside.log.items) _ refl c.args.at (joined c.args.head.now c.args.body.now c.args.tail.now) le noted);
      within = subst (AllByRecursion (IsWithin (length c.log_write.new.text.items))) (sym c.log_write.ensures.pushed)
          (within_push _ inside.log.items call (within_more (length inside.text.items) _ inside.log.items (omega (arith, text_size)) was.within) (omega (arith, text_size)));
      bytes_room = omega (arith, was.bytes_room, c.put_framed.ensures.room, size, c.if-size-self, size_is);
      base_room = omega (arith, was.base_room, size, c.if-size-self, size_is);
      text_room = omega (arith, was.text_room, text_size, c.log_write.ensures.room, c.if-size-self, size_is);
      log_made = omega (arith, was.log_made, was.log_room, c.fails.ensures.made, ap length c.log_write.ensures.pushed, length-append inside.log.items (call ∷ []));
      log_room = omega (arith, was.log_room, c.log_write.ensures.room);
    }

pub returns-clause-done : goal.returns-clause-done
returns-clause-done c =
    let inside = c.self.inside in
    let size_is : length (joined c.args.head.now c.args.body.now c.args.tail.now) ≡ length c.args.head.now + length c.args.body.now + length c.args.tail.now =
    omega (arith, length-append c.args.head.now (c.args.body.now ++ c.args.tail.now), length-append c.args.body.now c.args.tail.now) in
    let noted : steps_of c.log_write.new.text.items c.log_write.new.log.items ≡ steps_of inside.text.items inside.log.items ++ wrote c.args.at (joined c.args.head.now c.args.body.now c.args.tail.now) ∷ [] =
    (λ i. steps_of (c.log_write.ensures.text i) (c.log_write.ensures.pushed i)) ∙ steps_write inside.text.items (joined c.args.head.now c.args.body.now c.args.tail.now) inside.log.items c.args.at c.self.invariant.within in
    let now : Memory = record { base = inside.base.items; steps = steps_of inside.text.items inside.log.items ++ wrote c.args.at (joined c.args.head.now c.args.body.now c.args.tail.now) ∷ []; made = counted inside.made; failed = inside.faults; calls = inside.calls; room = inside.room - length (joined c.args.head.now c.args.body.now c.args.tail.now); failing = inside.failing.items; stop = inside.stop } in
    (λ i. record now { made = c.fails.ensures.made i; failed = c.if-fails.ensures.count i; room = inside.room - sym size_is i; steps = noted i }) ∙ ap (λ (m : Memory). record m { made = counted m.made; steps = m.steps ++ wrote c.args.at (joined c.args.head.now c.args.body.now c.args.tail.now) ∷ []; room = m.room - length (joined c.args.head.now c.args.body.now c.args.tail.now) }) c.self.view_is

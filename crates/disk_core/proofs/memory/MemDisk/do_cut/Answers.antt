use Rattle.std.proofs.Common.{◌≡◌, [], ◌∷◌, ◌++◌, length, take, refl, sym, ◌∙◌, ap, subst, arith, length-append}
use Rattle.disk_core.specs.Story.Step.{shortened}
use Rattle.disk_core.specs.Memory.{steps_of, IsWithin, written_size}
use Rattle.std.specs.List.{AllByRecursion}
use Rattle.disk_core.specs.declared.call.Call.TheVariants as calls
use Rattle.disk_core.proofs.Notes.{steps_push, within_push, read_cut, written_push}
use Rattle.disk_core.proofs.memory.MemDisk.do_cut.Goals as goal

pub invariant_of-self-2 : goal.invariant_of-self-2
invariant_of-self-2 c =
    let inside = c.self.inside in
    let call = calls.Cut c.args.to in
    let was = c.self.invariant in
    let more : steps_of inside.text.items c.log_call.new.log.items ≡ steps_of inside.text.items inside.log.items ++ shortened c.args.to ∷ [] = ap (steps_of inside.text.items) c.log_call.ensures.pushed ∙ steps_push inside.text.items inside.log.items call in
    let size : written_size c.log_call.new.log.items ≡ written_size inside.log.items = ap written_size c.log_call.ensures.pushed ∙ written_push inside.log.items call ∙ omega arith in
    record {
      read = c.truncate.ensures.items ∙ ap (take c.args.to) was.read ∙ sym (read_cut inside.base.items inside.base.items (steps_of inside.text.items inside.log.items) _ refl c.args.to more);
      within = subst (AllByRecursion (IsWithin (length inside.text.items))) (sym c.log_call.ensures.pushed) (within_push _ inside.log.items call was.within tt);
      bytes_room = omega (arith, was.bytes_room, c.truncate.ensures.capacity, size);
      base_room = omega (arith, was.base_room, size);
      text_room = was.text_room;
      log_made = omega (arith, was.log_made, was.log_room, c.fails.ensures.made, ap length c.log_call.ensures.pushed, length-append inside.log.items (call ∷ []));
      log_room = omega (arith, was.log_room, c.log_call.ensures.room);
    }

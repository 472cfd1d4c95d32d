use Rattle.std.proofs.Common.{◌≡◌, [], ◌∷◌, ◌++◌, length, refl, sym, ◌∙◌, ap, subst, arith, length-append}
use Rattle.disk_core.specs.Story.Step.{synced}
use Rattle.disk_core.specs.Memory.{steps_of, IsWithin, written_size}
use Rattle.std.specs.List.{AllByRecursion}
use Rattle.disk_core.specs.declared.call.Call.TheVariants as calls
use Rattle.disk_core.proofs.Notes.{steps_push, within_push, read_sync, written_push}
use Rattle.disk_core.proofs.memory.MemDisk.do_sync.Goals as goal

pub invariant_of-self-2 : goal.invariant_of-self-2
invariant_of-self-2 c =
    let inside = c.self.inside in
    let was = c.self.invariant in
    let more : steps_of inside.text.items c.log_call.new.log.items ≡ steps_of inside.text.items inside.log.items ++ synced ∷ [] = ap (steps_of inside.text.items) c.log_call.ensures.pushed ∙ steps_push inside.text.items inside.log.items calls.Sync in
    let size : written_size c.log_call.new.log.items ≡ written_size inside.log.items = ap written_size c.log_call.ensures.pushed ∙ written_push inside.log.items calls.Sync ∙ omega arith in
    record {
      read = was.read ∙ sym (read_sync inside.base.items inside.base.items (steps_of inside.text.items inside.log.items) _ refl more);
      within = subst (AllByRecursion (IsWithin (length inside.text.items))) (sym c.log_call.ensures.pushed) (within_push _ inside.log.items calls.Sync was.within tt);
      bytes_room = omega (arith, was.bytes_room, size);
      base_room = omega (arith, was.base_room, size);
      text_room = was.text_room;
      log_made = omega (arith, was.log_made, was.log_room, c.fails.ensures.made, ap length c.log_call.ensures.pushed, length-append inside.log.items (calls.Sync ∷ []));
      log_room = omega (arith, was.log_room, c.log_call.ensures.room);
    }

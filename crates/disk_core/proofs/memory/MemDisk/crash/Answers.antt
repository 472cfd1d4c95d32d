use Rattle.std.proofs.Common.{◌≡◌, ◌≤◌, ◌+◌, [], length, sym, ◌∙◌, ap, subst, arith, None}
use Rattle.std.specs.List.{AllByRecursion}
use Rattle.disk_core.specs.Story.{Image, read_after_all}
use Rattle.disk_core.specs.Memory.{Memory, steps_of, IsWithin, written_size, unsynced_from, crashed, image_of}
use Rattle.disk_core.proofs.Replays.{written_take, base_left}
use Rattle.disk_core.proofs.Notes.{length_steps}
use Rattle.disk_core.proofs.Crashes.{image_kept}
use Rattle.disk_core.proofs.memory.MemDisk.crash.Goals as goal

pub redo_all-requires-clause-room : goal.redo_all-requires-clause-room
redo_all-requires-clause-room c =
    let inside = c.disk.inside in
    omega (arith, c.disk.invariant.base_room, ap written_size (c.deref-2.ensures.value ∙ c.truncate.ensures.items), written_take c.saturating_add-kept.result inside.log.items)

pub copy_over-requires : goal.copy_over-requires
copy_over-requires c =
    let inside = c.disk.inside in
    omega (
      arith,
      c.disk.invariant.bytes_room,
      ap length (c.deref-4.ensures.value ∙ c.redo_all.ensures.done),
      length_steps inside.base.items c.deref-3.result.now c.deref-2.result.now,
      ap written_size (c.deref-2.ensures.value ∙ c.truncate.ensures.items),
      written_take c.saturating_add-kept.result inside.log.items,
    )

pub invariant_of-disk : goal.invariant_of-disk
unfolding read_after_all written_size
invariant_of-disk c =
    let inside = c.disk.inside in
    let was = c.disk.invariant in
    let size : length c.redo_all.new.bytes.items ≤ length inside.base.items + written_size inside.log.items =
    omega (
      arith,
      ap length c.redo_all.ensures.done,
      length_steps inside.base.items c.deref-3.result.now c.deref-2.result.now,
      ap written_size (c.deref-2.ensures.value ∙ c.truncate.ensures.items),
      written_take c.saturating_add-kept.result inside.log.items,
    ) in
    let gone : c.clear.new.self.items ≡ [] = c.clear.ensures.items in
    record {
      read = c.copy_over.ensures.copied ∙ c.deref-4.ensures.value ∙ sym (ap (λ l. read_after_all c.redo_all.new.bytes.items (steps_of c.clear-2.new.self.items l)) gone);
      within = subst (AllByRecursion (IsWithin (length c.clear-2.new.self.items))) (sym gone) tt;
      bytes_room = omega (arith, size, was.bytes_room, c.copy_over.ensures.room, ap written_size gone);
      base_room = omega (arith, size, was.base_room, c.redo_all.ensures.room, ap written_size gone);
      text_room = omega (arith, was.text_room, ap length c.clear-2.ensures.items, c.clear-2.ensures.capacity);
      log_made = omega (arith, ap length c.clear.ensures.items);
      log_room = omega (arith, was.log_room, c.clear.ensures.capacity, c.truncate.ensures.capacity);
    }

-- the bytes that are left, by the steps that are kept
pub returns-clause-left : goal.returns-clause-left
returns-clause-left c =
    let inside = c.disk.inside in
    let gone : c.clear.new.self.items ≡ [] = c.clear.ensures.items in
    let uns : c.unsynced.result ≡ unsynced_from 0 (steps_of inside.text.items inside.log.items) = c.unsynced.ensures.count inside.text.items ∙ ap (λ l. unsynced_from 0 (steps_of inside.text.items l)) c.deref.ensures.value in
    let whole = base_left c.args.keep inside.base.items inside.text.items inside.log.items c.redo_all.new.bytes.items _ _ c.deref-3.result.now c.deref-2.result.now
    c.redo_all.ensures.done c.deref-3.ensures.value (c.deref-2.ensures.value ∙ c.truncate.ensures.items) c.saturating_add-kept.ensures (omega (arith, c.len.ensures, c.deref.ensures.len, ap length c.deref.ensures.value, uns)) (omega (arith, c.disk.invariant.log_made)) in
    (λ i. record { base = whole i; steps = steps_of c.clear-2.new.self.items (gone i); made = 0; failed = 0; calls = inside.calls; room = inside.room; failing = c.clear-3.ensures.items i; stop = None })
    ∙ ap (crashed c.args.keep) c.disk.view_is

pub returns-clause-image : goal.returns-clause-image
returns-clause-image c =
    let inside = c.disk.inside in
    let uns : c.unsynced.result ≡ unsynced_from 0 (steps_of inside.text.items inside.log.items) = c.unsynced.ensures.count inside.text.items ∙ ap (λ l. unsynced_from 0 (steps_of inside.text.items l)) c.deref.ensures.value in
    let whole = base_left c.args.keep inside.base.items inside.text.items inside.log.items c.redo_all.new.bytes.items _ _ c.deref-3.result.now c.deref-2.result.now
    c.redo_all.ensures.done c.deref-3.ensures.value (c.deref-2.ensures.value ∙ c.truncate.ensures.items) c.saturating_add-kept.ensures (omega (arith, c.len.ensures, c.deref.ensures.len, ap length c.deref.ensures.value, uns)) (omega (arith, c.disk.invariant.log_made)) in
    subst (λ (m : Memory). image_of m c.redo_all.new.bytes.items) c.disk.view_is
    (subst (Image inside.base.items (steps_of inside.text.items inside.log.items)) (sym whole) (image_kept inside.base.items c.args.keep (steps_of inside.text.items inside.log.items)))

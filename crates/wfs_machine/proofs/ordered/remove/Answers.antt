use Rattle.std.proofs.Common.{◌≡◌, true, false, ◌∙◌, ◌≤◌, length, sym}
use Rattle.std.specs.Prelude.{slice_get}
use Rattle.wfs_machine.specs.Ordered.{has_id}
use Rattle.wfs_machine.proofs.Places.{IsFirst, removed, not_there}
use Rattle.wfs_machine.proofs.ordered.remove.Goals as goal

pub returns-then-is_at-clause-items : goal.returns-then-is_at-clause-items
returns-then-is_at-clause-items c =
    let there : has_id c.args.id (slice_get c.args.features.now.items c.place_of-place.result) ≡ true = rw c.as_slice-2.ensures.value at (sym c.is_at.ensures.value ∙ c.if-is_at.true) in
    let made = removed c.args.features.now.items c.args.id c.place_of-place.result c.requires there in
    c.remove.ensures.by_index.2 ∙ made

pub returns-else-is_at-clause-items : goal.returns-else-is_at-clause-items
returns-else-is_at-clause-items c =
    let start : IsFirst c.args.id c.as_slice.result.now c.place_of-place.result = (c.place_of-place.ensures.low, c.place_of-place.ensures.high) in
    let first : IsFirst c.args.id c.args.features.now.items c.place_of-place.result = rw c.as_slice.ensures.value at start in
    let none : has_id c.args.id (slice_get c.args.features.now.items c.place_of-place.result) ≡ false = rw c.as_slice-2.ensures.value at (sym c.is_at.ensures.value ∙ c.if-is_at.false) in
    let bound : c.place_of-place.result ≤ length c.args.features.now.items = rw c.as_slice.ensures.value at c.place_of-place.ensures.bound in
    not_there c.args.features.now.items c.args.id c.place_of-place.result c.requires bound first none

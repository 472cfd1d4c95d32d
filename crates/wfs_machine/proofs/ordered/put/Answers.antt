use Rattle.std.proofs.Common.{◌≡◌, true, false, ◌∙◌, ◌≤◌, length, sym}
use Rattle.std.specs.Prelude.{slice_get}
use Rattle.wfs_machine.specs.Ordered.{has_id}
use Rattle.wfs_machine.proofs.Places.{IsFirst, put_there, put_between}
use Rattle.wfs_machine.proofs.ordered.put.Goals as goal

pub returns-then-is_at-clause-items : goal.returns-then-is_at-clause-items
returns-then-is_at-clause-items c =
    let there : has_id c.args.feature.id (slice_get c.args.features.now.items c.place_of-place.result) ≡ true = rw c.as_slice-2.ensures.value at (sym c.is_at.ensures.value ∙ c.if-is_at.true) in
    put_there c.args.features.now.items c.args.feature c.place_of-place.result c.requires.order there

pub returns-clause-items : goal.returns-clause-items
returns-clause-items c =
    let start : IsFirst c.args.feature.id c.as_slice.result.now c.place_of-place.result = (c.place_of-place.ensures.low, c.place_of-place.ensures.high) in
    let first : IsFirst c.args.feature.id c.args.features.now.items c.place_of-place.result = rw c.as_slice.ensures.value at start in
    let none : has_id c.args.feature.id (slice_get c.args.features.now.items c.place_of-place.result) ≡ false = rw c.as_slice-2.ensures.value at (sym c.is_at.ensures.value ∙ c.if-is_at.false) in
    let bound : c.place_of-place.result ≤ length c.args.features.now.items = rw c.as_slice.ensures.value at c.place_of-place.ensures.bound in
    let made = put_between c.args.features.now.items c.args.feature c.place_of-place.result c.requires.order bound first none in
    c.in-Ok.ensures.items ∙ made

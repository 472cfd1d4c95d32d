use Rattle.std.proofs.Common.{◌≡◌, ◌+◌, ◌≤◌, length}
use Rattle.std.specs.List.{fold}
use Rattle.std.specs.Vec.{vec_len, vec_capacity}
use Rattle.std.specs.Vec.Iter.{into_iter_items}
use Rattle.fes_filter.specs.View.{IsInOrder}
use Rattle.wfs_model.specs.State.{Durable}
use Rattle.wfs_model.specs.Played.{part_played}
use Rattle.wfs_machine.specs.Ordered.{with_rows}
use Rattle.wfs_machine.proofs.playing.play_all.Given as goal

abbrev pub invariant-loop-part : goal.invariant-loop-part
invariant-loop-part l = record {
  order : IsInOrder l.features.items;
  room : vec_len l.features + length (into_iter_items l.part-iterator) ≤ vec_capacity l.features;
  rest : (kept : Durable) → fold part_played (with_rows kept l.features.items l.counters) (into_iter_items l.part-iterator) ≡ fold part_played (with_rows kept l.initial.features.items l.initial.counters) l.fn.parts.items;
}

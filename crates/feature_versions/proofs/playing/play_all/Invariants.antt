use Rattle.std.proofs.Common.{◌≡◌, All, length}
use Rattle.std.specs.List.{fold}
use Rattle.std.specs.Vec.Iter.{into_iter_items}
use Rattle.wfs_model.specs.State.{Durable}
use Rattle.wfs_model.specs.Played.{part_played}
use Rattle.feature_versions.specs.Reserved.{all_put}
use Rattle.feature_versions.specs.Types.{features_of, AreTyped, HasRooms, IsWithin, with_rows}
use Rattle.feature_versions.proofs.playing.play_all.Given as goal

abbrev pub invariant-loop-part : goal.invariant-loop-part
invariant-loop-part l = record {
  typed : AreTyped l.layers.items;
  types : length l.layers.items ≡ length l.initial.layers.items;
  within : All (IsWithin (length l.layers.items)) (into_iter_items l.part-iterator);
  room : HasRooms (all_put (into_iter_items l.part-iterator)) l.layers.items;
  rest : (kept : Durable) → fold part_played (with_rows kept (features_of l.layers.items) l.counters) (into_iter_items l.part-iterator) ≡ fold part_played (with_rows kept (features_of l.initial.layers.items) l.initial.counters) l.fn.parts.items;
}

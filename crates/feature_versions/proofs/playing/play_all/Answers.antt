use Rattle.std.proofs.Common.{◌∙◌}
use Rattle.std.specs.List.{fold}
use Rattle.std.specs.Vec.Iter.{into_iter_items}
use Rattle.wfs_model.specs.Played.{part_played}
use Rattle.feature_versions.specs.Types.{features_of, with_rows}
use Rattle.feature_versions.proofs.Rooms.{within_less, rooms_less, rest_played}
use Rattle.feature_versions.proofs.playing.play_all.Goals as goal

pub loop-part-preserved : goal.loop-part-preserved
loop-part-preserved c =
    let steps = c.in-Some.ensures.steps.0 in
    let plays = c.play.ensures.types in
    record {
      typed = plays.typed;
      types = plays.types ∙ c.loop-part.invariant.types;
      within = within_less _ _ c.in-Some.part _ _ steps plays.types c.loop-part.invariant.within;
      room = rooms_less _ _ c.in-Some.part _ _ steps plays c.loop-part.invariant.room;
      rest = λ kept. rest_played (with_rows kept (features_of c.loop-part.layers.items) c.loop-part.counters) (with_rows kept (features_of c.play.new.layers.items) c.play.new.counters)
          (fold part_played (with_rows kept (features_of c.args.layers.now.items) c.args.counters.now) c.args.parts.items) c.in-Some.part (into_iter_items c.loop-part.part-iterator) (into_iter_items c.next.new.self) steps (c.play.ensures.played kept) (c.loop-part.invariant.rest kept);
    }

use Rattle.feature_versions.specs.Needs.{AreMet}
use Rattle.feature_versions.specs.Types.{AreAlike, AreRoomier}
use Rattle.feature_versions.proofs.reserving.reserve_all.Given as goal

abbrev pub invariant-loop-kind : goal.invariant-loop-kind
invariant-loop-kind l = record {
  same : AreAlike l.initial.layers.items l.layers.items;
  roomier : AreRoomier l.initial.layers.items l.layers.items;
  met : AreMet l.kind l.needs l.layers.items;
}

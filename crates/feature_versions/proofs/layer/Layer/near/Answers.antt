use Rattle.std.proofs.Common.{List, ◌≤◌, length}
use Rattle.std.specs.Prelude.{All, flat_map}
use Rattle.std.proofs.lemmas.Result.{IfOk-weaker}
use Rattle.geom_core.specs.Plane.{IsUpright}
use Rattle.fes_filter.specs.View.{HasAllNear, IsOnce}
use Rattle.grid_index.specs.Gridded.{pairs_at, IsGridOf}
use Rattle.grid_index.specs.Near.{Placed, AreNear, IsMet}
use Rattle.feature_versions.specs.Rows.{live}
use Rattle.feature_versions.specs.Near.{most_near}
use Rattle.feature_versions.specs.Placed.{placed_in}
use Rattle.feature_versions.proofs.Placing.{live_kind}
use Rattle.feature_versions.proofs.Finding.{found_all, found_once, found_few}
use Rattle.feature_versions.proofs.layer.Layer.near.Goals as goal

pub returns-clause-whole : goal.returns-clause-whole
returns-clause-whole c =
    let up : IsUpright c.args.area.now = rw (← c.area.view_is) c.area.invariant in
    rw (← c.self.view_is) (
    IfOk-weaker c.near.result (λ ids. (pairs : List Placed) → IsGridOf (pairs_at c.self.inside.grid) pairs → All (IsMet c.args.area.now ids) pairs) (λ ids. HasAllNear c.self.inside.kind c.args.area.now (live c.self.inside.rows.items) ids)
    (λ ids met. found_all c.self.inside.kind c.args.area.now (live c.self.inside.rows.items) ids c.self.invariant.layer.boxed up (met (flat_map placed_in (live c.self.inside.rows.items)) c.self.invariant.layer.boxes)) c.near.ensures.meeting
    )

pub returns-clause-once : goal.returns-clause-once
returns-clause-once c =
    IfOk-weaker c.near.result (λ ids. (pairs : List Placed) → IsGridOf (pairs_at c.self.inside.grid) pairs → AreNear c.args.area.now pairs ids) IsOnce
    (λ ids near. found_once c.args.area.now (flat_map placed_in (live c.self.inside.rows.items)) ids (near (flat_map placed_in (live c.self.inside.rows.items)) c.self.invariant.layer.boxes)) c.near.ensures.exact

pub returns-clause-few : goal.returns-clause-few
returns-clause-few c =
    rw (← c.self.view_is) (
    IfOk-weaker c.near.result (λ ids. (pairs : List Placed) → IsGridOf (pairs_at c.self.inside.grid) pairs → AreNear c.args.area.now pairs ids) (λ ids. length ids ≤ most_near (live c.self.inside.rows.items) c.self.inside.kind c.args.area.now)
    (λ ids near. found_few c.self.inside.kind c.args.area.now (live c.self.inside.rows.items) ids (live_kind c.self.inside.kind c.self.inside.rows.items c.self.invariant.layer.are.own) (near (flat_map placed_in (live c.self.inside.rows.items)) c.self.invariant.layer.boxes)) c.near.ensures.exact
    )

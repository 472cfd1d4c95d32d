use Rattle.std.proofs.Common.{◌≡◌}
use Rattle.std.proofs.lemmas.Result.{IfOk-weaker}
use Rattle.fes_filter.specs.View.{HasAllNear, IsOnce}
use Rattle.wfs_machine.proofs.Typed.{ids_typed, has_all_near, each_once}
use Rattle.wfs_machine.proofs.viewing.PlainFeatureView.near.Goals as goal

pub returns-clause-whole : goal.returns-clause-whole
returns-clause-whole c =
    IfOk-weaker c.ids_of_type.result (λ ids. ids ≡ ids_typed c.args.kind c.listed.result.now) (λ ids. HasAllNear c.args.kind c.args._area.now c.args.self.now.state.features ids)
    (λ ids is. rw (is, c.listed.ensures.features) (has_all_near c.args.kind c.args._area.now c.args.self.now.state.features)) c.ids_of_type.ensures

pub returns-clause-once : goal.returns-clause-once
returns-clause-once c =
    IfOk-weaker c.ids_of_type.result (λ ids. ids ≡ ids_typed c.args.kind c.listed.result.now) IsOnce
    (λ ids is. rw (is, c.listed.ensures.features) (each_once c.args.kind c.args.self.now.state.features c.listed.ensures.kept.order)) c.ids_of_type.ensures

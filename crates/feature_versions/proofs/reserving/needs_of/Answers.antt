use Rattle.std.proofs.Common.{List, ◌∙◌, sym, subst}
use Rattle.feature_values.specs.declared.feature.Feature.{Feature}
use Rattle.feature_versions.specs.Needs.{AreNeeds}
use Rattle.feature_versions.proofs.Rooming.{put_step}
use Rattle.feature_versions.specs.Reserved.{all_put}
use Rattle.std.proofs.Common.{take}
use Rattle.feature_versions.proofs.reserving.needs_of.Goals as goal

pub loop-part-preserved : goal.loop-part-preserved
loop-part-preserved c =
    let now = c.in_ok-add_part.ensures.needs (all_put (take c.loop-part.part-index c.args.parts.now)) c.loop-part.invariant.needs in
    record {
      needs = subst (λ (fs : List Feature). AreNeeds fs c.add_part.new.needs.items) (sym (put_step c.args.parts.now c.loop-part.part-index c.part-item.result c.loop-part-test.true c.part-item.is)) now;
      types = c.in_ok-add_part.ensures.length ∙ c.loop-part.invariant.types;
    }

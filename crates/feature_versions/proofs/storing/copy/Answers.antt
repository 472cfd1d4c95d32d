use Rattle.std.proofs.Common.{◌∙◌}
use Rattle.feature_versions.proofs.Alike.{copied_is}
use Rattle.feature_versions.proofs.storing.copy.Goals as goal

pub returns-in-Ok : goal.returns-in-Ok
returns-in-Ok c = copied_is c.new-other.result.list c.in_ok-copies.field-0 c.create.new.self.list c.args.stored.now.list c.in-Ok.ensures.value c.new-other.ensures (c.in_ok-copies.ensures ∙ c.list.ensures)

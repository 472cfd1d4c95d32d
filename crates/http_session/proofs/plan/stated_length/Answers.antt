use Rattle.std.proofs.Common.{◌∙◌, ap}
use Rattle.http_session.specs.Fields.{found_length}
use Rattle.http_session.proofs.Plans.{length_found}
use Rattle.http_session.proofs.plan.stated_length.Goals as goal

pub returns : goal.returns
returns c = c.length.ensures ∙ ap found_length c.find_named.ensures ∙ length_found _

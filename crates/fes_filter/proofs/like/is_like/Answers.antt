use Rattle.std.proofs.Common.{sym, ◌∙◌, ap}
use Rattle.fes_filter.specs.LikeFront.{by_front}
use Rattle.fes_filter.proofs.Likes.{like_by_front}
use Rattle.fes_filter.proofs.like.is_like.Goals as goal

pub returns-in-Unlike : goal.returns-in-Unlike
returns-in-Unlike c = sym (like_by_front _ _ ∙ ap by_front (sym c.in-Unlike.ensures.value))

pub returns-in-Whole : goal.returns-in-Whole
returns-in-Whole c = sym (like_by_front _ _ ∙ ap by_front (sym c.in-Whole.ensures.value))

pub returns-in-Rest : goal.returns-in-Rest
returns-in-Rest c = sym (like_by_front _ _ ∙ ap by_front (sym c.in-Rest.ensures.value) ∙ sym c.has_end_like.ensures)

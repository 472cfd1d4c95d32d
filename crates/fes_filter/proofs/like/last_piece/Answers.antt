use Rattle.std.proofs.Common.{sym, ◌∙◌, ap, ◌-◌, length, drop, chars, arith, length-drop}
use Rattle.fes_filter.specs.Like.{is_like}
use Rattle.fes_filter.specs.LikeFront.{by_front}
use Rattle.fes_filter.proofs.Likes.{like_by_front}
use Rattle.fes_filter.proofs.Searched.{too_short, last_stands, one_end}
use Rattle.fes_filter.proofs.like.last_piece.Goals as goal

pub returns-then-length-parts-clause-value : goal.returns-then-length-parts-clause-value
returns-then-length-parts-clause-value c = sym (too_short c.args.parts.now (chars c.args.text.now) c.requires (omega arith))

pub returns-clause-value : goal.returns-clause-value
returns-clause-value c =
    let parts = c.args.parts.now in
    let end = drop (length (chars c.args.text.now) - length parts) (chars c.args.text.now) in
    let is = c.behind.ensures.value ∙ ap (λ n. drop (n - length parts) (chars c.args.text.now)) c.count-length.ensures in
    ap by_front (c.front_of.ensures.value) ∙ sym (like_by_front parts (chars c.behind.result.now)) ∙ ap (is_like parts) is
    ∙ sym (one_end parts end c.requires (omega (arith, length-drop (length (chars c.args.text.now) - length parts) (chars c.args.text.now))))
    ∙ last_stands parts (chars c.args.text.now) c.requires

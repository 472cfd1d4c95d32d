use Rattle.std.proofs.Common.{rules, ◌∙◌, ap, length, chars}
use Rattle.std.specs.Str.{IsCharBoundary}
use Rattle.fes_filter.specs.Like.{is_like, some_end}
use Rattle.fes_filter.proofs.Searched.{none_stands, first_stands}
use Rattle.fes_filter.proofs.places.from_run.Goals as goal

pub returns-in-None : goal.returns-in-None
returns-in-None c =
    let none = rw c.as_bytes.ensures.value at c.in-None.ensures in
    none_stands c.args.parts.now c.args.start c.args.text.now c.behind-ahead.result.now c.args.run.now c.requires.begins.0
    c.requires.before c.behind-ahead.utf8 c.behind-ahead.ensures.value c.requires.begins.1 none

pub returns-else-not-is_char_boundary : goal.returns-else-not-is_char_boundary
returns-else-not-is_char_boundary c =
    let found = rw c.as_bytes.ensures.value at c.in-Some.ensures in
    let edge : IsCharBoundary c.behind-ahead.result.now c.in-Some.place = search rules in
    record {
      same = ap (some_end (is_like c.args.parts.now)) c.behind.ensures.value
          ∙ first_stands c.args.parts.now c.args.start c.args.text.now c.behind-ahead.result.now c.args.run.now c.requires.begins.0
          c.requires.before c.behind-ahead.utf8 c.behind-ahead.ensures.value c.requires.begins.1
          c.in-Some.place c.count.result edge found.0.before (c.count.ensures ∙ ap (λ t. length (chars t)) c.split_at.ensures.front);
      shorter = c.behind.ensures.shorter;
    }

use Rattle.std.proofs.Common.{sym, ap, ◌∙◌, Ok, Err}
use Rattle.std.proofs.lemmas.Iterator.{YieldsList-from_chars}
use Rattle.std.proofs.lemmas.Iterator.Consumers.{YieldsList-end}
use Rattle.fes_docs.proofs.Patterns.{read_whole}
use Rattle.fes_docs.proofs.like.pattern_of.Goals as goal

pub returns-then-is_escaped : goal.returns-then-is_escaped
returns-then-is_escaped c = λ other.
    let t = YieldsList-end (YieldsList-from_chars c.args.text.now c.utf8.text cc) c.loop-c.yielded _ c.loop-c.yielded_by _ _ c.in-None.is c.next.ensures.steps in
    read_whole c.args.marks c.args.text.now _ _ c.loop-c.yielded c.loop-c.invariant t.0 ∙ rw c.if-is_escaped.true (ap Err (sym (c.bad_marks.ensures other)))

pub returns : goal.returns
returns c =
    let t = YieldsList-end (YieldsList-from_chars c.args.text.now c.utf8.text cc) c.loop-c.yielded _ c.loop-c.yielded_by _ _ c.in-None.is c.next.ensures.steps in
    read_whole c.args.marks c.args.text.now _ _ c.loop-c.yielded c.loop-c.invariant t.0 ∙ rw c.if-is_escaped.false (ap Ok (sym c.of.ensures))

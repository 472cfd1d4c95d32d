use Rattle.std.proofs.Common.{ℕ, List, ◌∷◌, sym, ap, ◌∙◌}
use Rattle.std.specs.Str.{chars}
use Rattle.doc_read.proofs.Values.{value_is_front}
use Rattle.doc_read.proofs.value.plain_value.Goals as goal

pub returns-in-Some : goal.returns-in-Some
returns-in-Some c =
    let front = ap (λ (p : List ℕ × List ℕ). p.0) c.split_front.ensures in
    let back = ap (λ (p : List ℕ × List ℕ). p.1) c.split_front.ensures in
    let after = chars c.in-Some.after.now in
    let stops = sym back ∙ c.in-Some.ensures.0 ∙ ap (λ (x : ℕ). x ∷ after) c.if-c-quote.true in
    rw front (value_is_front c.args.quote (chars c.args.cs.now) after stops (rw (← front) (sym (c.if-not-has.ensures))) (rw (← front) (sym (c.if-not-has-2.ensures))))

use Rattle.std.proofs.Common.{◌≡◌, false, drop, sym, ◌∙◌}
use Rattle.doc_read.specs.declared.lex.Class.TheVariants.{NamePart}
use Rattle.doc_read.specs.Chars.{starts}
use Rattle.doc_read.proofs.Markup.{name_cut, skips_bytes, name_low, stops_here, stops_there, dropped}
use Rattle.doc_read.proofs.lex.skip_name.Goals.{then-loop-place-test+else-holds, else-loop-place-test}
use Rattle.doc_read.proofs.lex.skip_name.Goals as goal

pub split_at-requires : goal.split_at-requires
split_at-requires c =
    let loop = rw c.as_bytes-bytes.ensures.value at c.loop-place.invariant in
    name_cut NamePart name_low c.args.text.now c.utf8.text c.loop-place.place loop.high loop.all

pub returns-clause-chars : goal.returns-clause-chars
returns-clause-chars c =
    let loop = rw c.as_bytes-bytes.ensures.value at c.loop-place.invariant in
    let stops : starts NamePart (drop c.loop-place.place c.args.text.now) ≡ false =
    elim c.loop-place-test.branch [
      | then-loop-place-test+else-holds w ↦ stops_here NamePart c.args.text.now c.loop-place.place (rw c.as_bytes-bytes.ensures.value at w.loop-place-test.true) (rw c.as_bytes-bytes.ensures.value at (sym w.holds.ensures ∙ w.if-holds.false))
      | else-loop-place-test w ↦ stops_there NamePart c.args.text.now c.loop-place.place (rw c.as_bytes-bytes.ensures.value at w.loop-place-test.false)
    ]
    in
    rw c.split_at.ensures.back (skips_bytes NamePart name_low c.args.text.now c.utf8.text c.loop-place.place loop.high loop.all stops)

pub returns-clause-rest : goal.returns-clause-rest
returns-clause-rest c = rw c.split_at.ensures.back (dropped c.args.text.now c.loop-place.place)

use Rattle.doc_read.proofs.Markup.{skips_all, skips_front, text_low, text_is, all_read, dropped}
use Rattle.memchr.specs.Find.{is_byte2}
use Rattle.doc_read.specs.declared.lex.Class.TheVariants.{Text}
use Rattle.doc_read.proofs.lex.skip_text.Goals as goal

pub returns-in-Some-clause-chars : goal.returns-in-Some-clause-chars
returns-in-Some-clause-chars c =
    let found = rw c.as_bytes.ensures.value at c.in-Some.ensures in
    rw c.split_at.ensures.back (skips_front Text (is_byte2 60 38) text_low text_is c.args.text.now c.utf8.text c.in-Some.place found.0.high found.1 found.0.before)

pub returns-in-Some-clause-rest : goal.returns-in-Some-clause-rest
returns-in-Some-clause-rest c = rw c.split_at.ensures.back (dropped c.args.text.now c.in-Some.place)

pub returns-in-None-clause-chars : goal.returns-in-None-clause-chars
returns-in-None-clause-chars c =
    let none = rw c.as_bytes.ensures.value at c.in-None.ensures in
    skips_all Text (is_byte2 60 38) text_low text_is c.args.text.now c.utf8.text none

pub returns-in-None-clause-rest : goal.returns-in-None-clause-rest
returns-in-None-clause-rest c = all_read c.args.text.now

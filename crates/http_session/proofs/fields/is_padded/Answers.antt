use Rattle.std.proofs.Common.{◌∙◌}
use Rattle.http_session.proofs.FieldReads.{padded_is, padded_yes, padded_no}
use Rattle.http_session.proofs.fields.is_padded.Goals as goal

pub returns-then-is_word : goal.returns-then-is_word
returns-then-is_word c =
    let p = padded_is c.args.word.now c.args.bytes.now _ _ _ _ _ _ c.min.result c.split_run.ensures c.min.ensures c.split_at.ensures.front c.split_at.ensures.back c.split_run-2.ensures in
    c.is_empty.ensures ∙ padded_yes _ _ _ p c.if-is_word.ensures

pub returns-else-is_word : goal.returns-else-is_word
returns-else-is_word c =
    let p = padded_is c.args.word.now c.args.bytes.now _ _ _ _ _ _ c.min.result c.split_run.ensures c.min.ensures c.split_at.ensures.front c.split_at.ensures.back c.split_run-2.ensures in
    c.if-is_word.false ∙ padded_no _ _ _ p c.if-is_word.ensures

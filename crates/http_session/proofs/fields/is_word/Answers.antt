use Rattle.http_session.proofs.FieldReads.{same_word_is}
use Rattle.http_session.proofs.fields.is_word.Goals as goal

pub returns : goal.returns
returns c = same_word_is _ _ _ c.eq_ignore_ascii_case.ensures.test

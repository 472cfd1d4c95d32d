-- The bytes of what a service answers.
use Rattle.std.specs.Prelude.{Bool, List, ℕ}
use Rattle.feature_values.specs.declared.schema.Schema.{Schema}
use Rattle.reply_documents.specs.ReplyText.{reply_text}
use Rattle.reply_documents.specs.Refusals.{fixed_text}
use Rattle.service_session.specs.declared.answered.Answered.{Answered}
use Rattle.service_session.specs.declared.answered.Answered.TheVariants as answered

-- A reply has its own text. The others have that of a row of the table of refusals: 26 full, 25 store fault, 27 no memory.
abbrev pub answer_text : Answered → Schema → Bool → List ℕ
answer_text (answered.Reply reply) schema closes = reply_text reply schema closes
answer_text answered.Full schema closes = fixed_text 26 closes
answer_text answered.StoreFault schema closes = fixed_text 25 closes
answer_text answered.OutOfMemory schema closes = fixed_text 27 closes

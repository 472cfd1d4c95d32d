-- A read by a viewer, as an answer of its seat.
use Rattle.std.proofs.Common.{◌≤◌, ◌∙◌, subst, arith, List, Result, Ok, ap}
use Rattle.std.specs.Prelude.{All}
use Rattle.feature_values.specs.declared.schema.Schema.{Schema}
use Rattle.snapshot_reads.specs.declared.book.Pair.{Pair}
use Rattle.snapshot_reads.specs.declared.viewer.Viewed.{Viewed}
use Rattle.snapshot_reads.specs.declared.viewer.Viewed.TheVariants.{Answer}
use Rattle.snapshot_reads.specs.Pairs.{IsPairOf}
use Rattle.snapshot_reads.specs.Viewers.{ReadsAs, entered_of}
use Rattle.shared_store.specs.Published.{FindsOne}
use Rattle.shared_store.proofs.Finding.{answered_if, finds_one}
use Rattle.shared_store.proofs.Taken.{answers_not}
use Rattle.shared_store.proofs.viewing.read_published.Goals as goal
use Rattle.turnstile_core.specs.Seats.{past}
use Rattle.wfs_ends.specs.declared.fault.OutOfMemory.{OutOfMemory}

pub returns-in-Ok-Answer-clause-answers : goal.returns-in-Ok-Answer-clause-answers
returns-in-Ok-Answer-clause-answers g c =
    let told = c.tell.new.self.told in
    let schema = c.args._schema.now in
    let before = entered_of c.args.viewer.now in
    let after = entered_of c.read.new.self in
    let found : Result Viewed OutOfMemory = Ok (Answer c.in-Ok-Answer.reply c.in-Ok-Answer.front) in
    let is = c.in-Ok-Answer.is ∙ ap (λ (v : Viewed). Ok v) c.in-Ok-Answer.field-0-is in
    let reads : ReadsAs told c.args.moment c.args.request.now before found after =
    subst (λ (l : List Pair). ReadsAs told c.args.moment c.args.request.now l found after) c.tell.ensures.entered
    (subst (λ (r : Result Viewed OutOfMemory). ReadsAs told c.args.moment c.args.request.now (entered_of c.tell.new.self) r after) is c.read.ensures.reads) in
    let low : (past c.args.seat.now).front ≤ told = omega (arith, c.front.ensures, c.tell.ensures.told) in
    let pairs : All (IsPairOf schema) after = subst (λ (s : Schema). All (IsPairOf s) after) (c.read.ensures.same.of ∙ (c.tell.ensures.same.of ∙ c.requires.viewer)) c.read.ensures.pairs in
    answered_if told c.args.moment c.args.request.now before after schema (past c.args.seat.now) (past c.answer_shown.new.seat) c.args._message.now c.in-Ok-Answer.reply c.in-Ok-Answer.front c.answer_shown.result
    c.requires.opening c.requires.asked c.requires.read low pairs reads c.answer_shown.ensures.looked c.answer_shown.ensures.answer

pub returns-in-Err-clause-answers : goal.returns-in-Err-clause-answers
returns-in-Err-clause-answers g c =
    let before = entered_of c.args.viewer.now in
    let after = entered_of c.read.new.self in
    let one : FindsOne before after = subst (λ (l : List Pair). FindsOne l after) c.tell.ensures.entered
    (finds_one c.tell.new.self.told c.args.moment c.args.request.now (entered_of c.tell.new.self) after c.read.result c.read.ensures.reads) in
    answers_not (past c.args.seat.now) before after c.args._message.now c.args.moment one

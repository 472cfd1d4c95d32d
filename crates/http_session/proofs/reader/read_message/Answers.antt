use Rattle.std.proofs.Common.{List, ℕ, sym, subst}
use Rattle.httparse.specs.Spans.{IsRequestAt}
use Rattle.http_session.proofs.Readings.{head_followed, head_refused, head_memory}
use Rattle.http_session.proofs.reader.read_message.Goals as goal

pub returns-in-Start : goal.returns-in-Start
returns-in-Start g c =
    let is = c.in-Start.ensures c.requires.head.head (subst (λ (x : List ℕ). IsRequestAt x c.args.headers.now c.args.spans c.requires.head.head) (sym c.bytes.ensures.value) c.requires.head.at) in
    record { reads = head_followed c.in-Start.start _ c.args.buffer.now c.skip.new.self _ c.args.headers.now c.args.spans _ _ c.requires.head c.bytes.ensures.within is.0 is.1 is.2 c.skip.ensures c.read_rest.ensures }

pub returns-in-Ended : goal.returns-in-Ended
returns-in-Ended g c =
    let is = c.in-Ended.ensures c.requires.head.head (subst (λ (x : List ℕ). IsRequestAt x c.args.headers.now c.args.spans c.requires.head.head) (sym c.bytes.ensures.value) c.requires.head.at) in
    record { reads = head_refused c.in-Ended.ending _ c.args.buffer.now c.args.headers.now c.args.spans _ c.requires.head c.bytes.ensures.within c.next_of.ensures is }

pub returns-in-OutOfMemory : goal.returns-in-OutOfMemory
returns-in-OutOfMemory g c = record { reads = head_memory _ _ }

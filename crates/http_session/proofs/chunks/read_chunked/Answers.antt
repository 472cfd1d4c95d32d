use Rattle.std.proofs.Common.{◌∙◌, arith, refl, ap, length}
use Rattle.http_session.proofs.Spots.{reached_on}
use Rattle.http_session.proofs.Bodies.{keeps_on, keeps_stay}
use Rattle.http_session.proofs.Follows.{follows_start, follows_more, whole_chunks, ended_chunks, fault_chunks}
use Rattle.http_session.proofs.chunks.read_chunked.Goals as goal

pub loop-content-smaller : goal.loop-content-smaller
loop-content-smaller g c = c.in-More.ensures.turn.1

pub loop-content-init : goal.loop-content-init
loop-content-init g c = (let n = ap length c.new-content.ensures.items in omega arith, follows_start _ _ c.new-content.ensures.items, keeps_stay _, refl)

pub loop-content-preserved : goal.loop-content-preserved
loop-content-preserved g c = (
  c.read_chunk.ensures.within c.in-More.is,
  follows_more _ _ _ c.loop-content.content.items _ c.loop-content.invariant.1 c.in-More.ensures.turn.0,
  keeps_on _ _ _ c.loop-content.invariant.2 c.read_chunk.ensures.keeps,
  c.in-More.ensures.calm (λ e. absurd cc) ∙ c.loop-content.invariant.3,
)

pub returns-in-Whole-clause-read : goal.returns-in-Whole-clause-read
returns-in-Whole-clause-read g c = whole_chunks c.loop-content.content.items _ _ _ _ refl c.loop-content.invariant.1 c.in-Whole.ensures.turn

pub returns-in-Ended-clause-read : goal.returns-in-Ended-clause-read
returns-in-Ended-clause-read g c = ended_chunks c.loop-content.content.items _ _ _ refl c.loop-content.invariant.1 c.in-Ended.ensures.turn

pub returns-in-Fault-clause-read : goal.returns-in-Fault-clause-read
returns-in-Fault-clause-read g c = fault_chunks c.loop-content.content.items _ _ _ _ _ refl c.loop-content.invariant.1 c.loop-content.invariant.2 c.in-Fault.ensures.turn

pub returns-in-OutOfMemory-clause-read : goal.returns-in-OutOfMemory-clause-read
returns-in-OutOfMemory-clause-read g c = reached_on _ _ _ c.loop-content.invariant.1.moves c.in-OutOfMemory.ensures.turn

use Rattle.std.proofs.Common.{arith, refl}
use Rattle.http_session.specs.Chunks.{goes, stops, part, after_return}
use Rattle.http_session.proofs.Spots.{passes_byte, fault_here}
use Rattle.http_session.proofs.Turns.{feed_goes}
use Rattle.http_session.proofs.chunks.read_line_feed.Goals as goal

pub returns-in-Next-eq10-clause-turn : goal.returns-in-Next-eq10-clause-turn
returns-in-Next-eq10-clause-turn g c = λ content. (
  passes_byte (after_return content) (goes content) _ _ _ c.in-Next-eq10.ensures.byte.1 c.in-Next-eq10.ensures.byte.2 (λ x. feed_goes content _ x c.in-Next-eq10.field-0-test),
  let k = c.in-Next-eq10.ensures.byte.3 in omega arith,
)

pub returns-in-Fault-clause-turn : goal.returns-in-Fault-clause-turn
returns-in-Fault-clause-turn g c = λ content. fault_here (after_return content) (stops part) _ _ _ refl c.in-Fault.ensures.byte

use Rattle.http_session.specs.Chunks.{stops, wrong, part, after_data, after_return}
use Rattle.http_session.proofs.Spots.{passes_byte, fault_here}
use Rattle.http_session.proofs.Turns.{turn_back, wrong_at, over_at, alike_byte, data_return, data_wrong, data_none}
use Rattle.http_session.proofs.chunks.read_end.Goals as goal

pub returns-in-Next-eq13-clause-turn : goal.returns-in-Next-eq13-clause-turn
returns-in-Next-eq13-clause-turn g c = λ content.
    turn_back (after_data content) (after_return content) _ content _ _ _ _ _ _ c.next_byte.ensures.keeps
    (passes_byte (after_data content) (after_return content) _ _ _ c.in-Next-eq13.ensures.byte.1 c.in-Next-eq13.ensures.byte.2 (λ x. data_return content _ x c.in-Next-eq13.field-0-test)) (c.read_line_feed.ensures.turn content)

pub returns-in-Next-clause-turn : goal.returns-in-Next-clause-turn
returns-in-Next-clause-turn g c = λ content. wrong_at (after_data content) _ _ _ (alike_byte (after_data content) (λ x. stops wrong) _ _ _ c.in-Next.ensures.byte.0 (λ x. data_wrong content _ x c.in-Next.field-0-test.1))

pub returns-in-Ended-clause-turn : goal.returns-in-Ended-clause-turn
returns-in-Ended-clause-turn g c = λ content. over_at (after_data content) _ _ _ (data_none content) c.in-Ended.ensures.byte

pub returns-in-Fault-clause-turn : goal.returns-in-Fault-clause-turn
returns-in-Fault-clause-turn g c = λ content. fault_here (after_data content) (stops part) _ _ _ (data_none content) c.in-Fault.ensures.byte

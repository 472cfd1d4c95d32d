use Rattle.std.proofs.Common.{◌∙◌, arith, refl}
use Rattle.http_session.specs.Chunks.{stops, whole, part}
use Rattle.http_session.specs.Spots.{after_trailer}
use Rattle.http_session.specs.declared.chunks.Begun.TheVariants as begun
use Rattle.http_session.proofs.Spots.{passes_on, passes_by, passes_byte, fault_here, fault_on}
use Rattle.http_session.proofs.Bodies.{keeps_on, keeps_stay}
use Rattle.http_session.proofs.Turns.{ended_from, over_at, trailer_more, trailer_whole, trailer_none}
use Rattle.http_session.proofs.chunks.read_trailer.Goals as goal

pub loop-byte-smaller : goal.loop-byte-smaller
loop-byte-smaller g c = omega (arith, c.in-Next.ensures.byte.3)

pub loop-byte-init : goal.loop-byte-init
loop-byte-init g c = (keeps_stay _, λ content. passes_by _ _ _ (λ x. refl), refl)

pub loop-byte-preserved : goal.loop-byte-preserved
loop-byte-preserved g c = (
  keeps_on _ _ _ c.loop-byte.invariant.0 c.next_byte.ensures.keeps,
  λ content.
      passes_on (λ w. stops (after_trailer content begun.Nothing w)) (λ w. stops (after_trailer content c.loop-byte.line w)) (λ w. stops (after_trailer content c.in-Some.next w)) _ _ _ (c.loop-byte.invariant.1 content)
      (passes_byte (λ w. stops (after_trailer content c.loop-byte.line w)) (λ w. stops (after_trailer content c.in-Some.next w)) _ _ _ c.in-Next.ensures.byte.1 c.in-Next.ensures.byte.2 (λ x. trailer_more content c.loop-byte.line c.in-Some.next _ x c.in-Some.ensures)),
  c.in-Next.ensures.calm (λ e. absurd cc) ∙ c.loop-byte.invariant.2,
)

pub returns-in-None-clause-turn : goal.returns-in-None-clause-turn
returns-in-None-clause-turn g c = λ content.
    passes_on (λ w. stops (after_trailer content begun.Nothing w)) (λ w. stops (after_trailer content c.loop-byte.line w)) (λ w. stops (whole content w)) _ _ _ (c.loop-byte.invariant.1 content)
    (passes_byte (λ w. stops (after_trailer content c.loop-byte.line w)) (λ w. stops (whole content w)) _ _ _ c.in-Next.ensures.byte.1 c.in-Next.ensures.byte.2 (λ x. trailer_whole content c.loop-byte.line _ x c.in-None.ensures))

pub returns-in-Ended-clause-turn : goal.returns-in-Ended-clause-turn
returns-in-Ended-clause-turn g c = λ content.
    ended_from (λ w. stops (after_trailer content begun.Nothing w)) (λ w. stops (after_trailer content c.loop-byte.line w)) _ _ _ (c.loop-byte.invariant.1 content)
    (over_at (λ w. stops (after_trailer content c.loop-byte.line w)) _ _ _ (trailer_none content c.loop-byte.line) c.in-Ended.ensures.byte)

pub returns-in-Fault-clause-turn : goal.returns-in-Fault-clause-turn
returns-in-Fault-clause-turn g c = λ content.
    fault_on (λ w. stops (after_trailer content begun.Nothing w)) (λ w. stops (after_trailer content c.loop-byte.line w)) (stops part) _ _ _ _ _ (c.loop-byte.invariant.1 content) c.loop-byte.invariant.0
    (fault_here (λ w. stops (after_trailer content c.loop-byte.line w)) (stops part) _ _ _ (trailer_none content c.loop-byte.line) c.in-Fault.ensures.byte)

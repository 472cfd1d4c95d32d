use Rattle.std.proofs.Common.{refl, ◌∙◌, arith}
use Rattle.http_session.specs.Chunks.{part_line}
use Rattle.http_session.specs.Lines.{line_of, line_from}
use Rattle.http_session.proofs.Spots.{passes_alike, fault_here, fault_on, line_start, line_on, line_whole, line_bad, line_over, line_at_end}
use Rattle.http_session.proofs.Bodies.{keeps_on, keeps_stay}
use Rattle.http_session.proofs.chunks.read_line.Goals as goal

pub loop-byte-smaller : goal.loop-byte-smaller
loop-byte-smaller g c = omega (arith, c.in-Next.ensures.byte.3)

pub loop-byte-init : goal.loop-byte-init
loop-byte-init g c = (c.start-state.ensures.state, line_start _ _ c.start-state.ensures.value, keeps_stay _, refl)

pub loop-byte-preserved : goal.loop-byte-preserved
loop-byte-preserved g c = (
  c.in-Goes.ensures.state,
  line_on c.loop-byte.state c.in-Goes.next _ _ _ _ c.in-Next.ensures.byte.1 c.loop-byte.invariant.1 c.in-Next.ensures.byte.2 c.in-Goes.ensures.step,
  keeps_on _ _ _ c.loop-byte.invariant.2 c.next_byte.ensures.keeps,
  c.in-Next.ensures.calm (λ e. absurd cc) ∙ c.loop-byte.invariant.3,
)

pub returns-in-Ends-clause-line : goal.returns-in-Ends-clause-line
returns-in-Ends-clause-line g c = line_whole c.loop-byte.state _ _ _ _ _ c.in-Next.ensures.byte.1 c.loop-byte.invariant.1 c.in-Next.ensures.byte.2 c.in-Ends.ensures.step

pub returns-in-Bad-clause-line : goal.returns-in-Bad-clause-line
returns-in-Bad-clause-line g c = line_bad _ _ _ _ _ (passes_alike _ _ _ _ c.loop-byte.invariant.1) c.in-Next.ensures.byte.0 c.in-Bad.ensures.step

pub returns-in-Ended-clause-line : goal.returns-in-Ended-clause-line
returns-in-Ended-clause-line g c = line_over c.loop-byte.state _ _ _ c.loop-byte.invariant.1.moves (passes_alike _ _ _ _ c.loop-byte.invariant.1) c.in-Ended.ensures.byte

pub returns-in-Fault-clause-line : goal.returns-in-Fault-clause-line
returns-in-Fault-clause-line g c =
    fault_on line_of (line_from c.loop-byte.state) part_line _ _ _ _ _ c.loop-byte.invariant.1 c.loop-byte.invariant.2 (fault_here (line_from c.loop-byte.state) part_line _ _ _ (line_at_end c.loop-byte.state) c.in-Fault.ensures.byte)

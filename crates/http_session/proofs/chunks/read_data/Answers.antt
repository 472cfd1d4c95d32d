use Rattle.std.proofs.Common.{◌≡◌, ◌∙◌, arith, ap, refl, ℕ}
use Rattle.http_session.specs.Chunks.{chunk_of, after_data, stops, part}
use Rattle.http_session.proofs.Spots.{passes_on, passes_by, fault_held, fault_here, fault_on, reached_on, reached_held}
use Rattle.http_session.proofs.Bodies.{keeps_on, keeps_stay}
use Rattle.http_session.proofs.Turns.{turn_back, ended_from, over_at, over_end, over_limit, large_at, passes_held, passes_copied, chunk_part, chunk_done, copied_within}
use Rattle.http_session.proofs.chunks.read_data.Goals as goal

pub loop-left-init : goal.loop-left-init
loop-left-init g c = (c.requires.within, passes_by _ _ _ (λ x. refl), keeps_stay _, refl)

pub returns-in-End-clause-turn : goal.returns-in-End-clause-turn
returns-in-End-clause-turn g c =
    ended_from (chunk_of c.args.content.now.items c.args.size) (chunk_of c.loop-left.content.items c.loop-left.left) _ _ _
    (passes_on (chunk_of c.args.content.now.items c.args.size) (chunk_of c.loop-left.content.items c.loop-left.left) (chunk_of c.loop-left.content.items c.loop-left.left) _ _ _ c.loop-left.invariant.1 (passes_held (chunk_of c.loop-left.content.items c.loop-left.left) _ _ _ _ _ c.hold_byte.ensures.moved))
    (over_at (chunk_of c.loop-left.content.items c.loop-left.left) _ _ _ (chunk_part c.loop-left.content.items c.loop-left.left c.loop-left.invariant.0 c.loop-left-test.true) (over_end _ _ c.in-End.ensures.held))

pub returns-then-allowed-eq0-clause-turn : goal.returns-then-allowed-eq0-clause-turn
returns-then-allowed-eq0-clause-turn g c =
    ended_from (chunk_of c.args.content.now.items c.args.size) (chunk_of c.loop-left.content.items c.loop-left.left) _ _ _
    (passes_on (chunk_of c.args.content.now.items c.args.size) (chunk_of c.loop-left.content.items c.loop-left.left) (chunk_of c.loop-left.content.items c.loop-left.left) _ _ _ c.loop-left.invariant.1 (passes_held (chunk_of c.loop-left.content.items c.loop-left.left) _ _ _ _ _ c.hold_byte.ensures.moved))
    (over_at (chunk_of c.loop-left.content.items c.loop-left.left) _ _ _ (chunk_part c.loop-left.content.items c.loop-left.left c.loop-left.invariant.0 c.loop-left-test.true) (over_limit _ _ _ c.if-allowed-eq0.true c.in-More.ensures.held))

pub returns-then-len-eq-BODY_LIMIT-clause-turn : goal.returns-then-len-eq-BODY_LIMIT-clause-turn
returns-then-len-eq-BODY_LIMIT-clause-turn g c =
    ended_from (chunk_of c.args.content.now.items c.args.size) (chunk_of c.loop-left.content.items c.loop-left.left) _ _ _
    (passes_on (chunk_of c.args.content.now.items c.args.size) (chunk_of c.loop-left.content.items c.loop-left.left) (chunk_of c.loop-left.content.items c.loop-left.left) _ _ _ c.loop-left.invariant.1 (passes_held (chunk_of c.loop-left.content.items c.loop-left.left) _ _ _ _ _ c.hold_byte.ensures.moved))
    (large_at c.loop-left.content.items _ c.loop-left.left _ _ (omega (arith, c.if-len-eq-BODY_LIMIT.true, c.loop-left.content.ok.0, c.len.ensures)) c.loop-left-test.true c.if-allowed-eq0.false c.in-More.ensures.held)

pub loop-left-preserved : goal.loop-left-preserved
loop-left-preserved g c = (
  copied_within _ _ _ _ _ _ _ _ c.in-Some.ensures.copied,
  passes_on _ _ _ _ _ _ (passes_on (chunk_of c.args.content.now.items c.args.size) (chunk_of c.loop-left.content.items c.loop-left.left) (chunk_of c.loop-left.content.items c.loop-left.left) _ _ _ c.loop-left.invariant.1 (passes_held (chunk_of c.loop-left.content.items c.loop-left.left) _ _ _ _ _ c.hold_byte.ensures.moved)) (passes_copied _ _ _ _ _ _ _ _ _ c.in-Some.ensures.copied),
  keeps_on _ _ _ c.loop-left.invariant.2 c.hold_byte.ensures.moved.keeps,
  c.in-More.ensures.calm (λ e. absurd cc) ∙ c.loop-left.invariant.3,
)

pub returns-clause-turn : goal.returns-clause-turn
returns-clause-turn g c =
    let none : c.loop-left.left ≡ 0 = omega (arith, c.loop-left-test.false) in
    turn_back (chunk_of c.args.content.now.items c.args.size) (after_data c.loop-left.content.items) _ c.loop-left.content.items _ _ _ _ _ _ c.loop-left.invariant.2
    (passes_on (chunk_of c.args.content.now.items c.args.size) (chunk_of c.loop-left.content.items c.loop-left.left) (after_data c.loop-left.content.items) _ _ _ c.loop-left.invariant.1
    (passes_by (chunk_of c.loop-left.content.items c.loop-left.left) (after_data c.loop-left.content.items) _ (λ x. ap (λ (n : ℕ). chunk_of c.loop-left.content.items n x) none ∙ chunk_done c.loop-left.content.items x c.loop-left.invariant.0)))
    (c.read_end.ensures.turn c.loop-left.content.items)

pub returns-in-Fault-clause-turn : goal.returns-in-Fault-clause-turn
returns-in-Fault-clause-turn g c =
    fault_on (chunk_of c.args.content.now.items c.args.size) (chunk_of c.loop-left.content.items c.loop-left.left) (stops part) _ _ _ _ _ c.loop-left.invariant.1 c.loop-left.invariant.2
    (fault_here (chunk_of c.loop-left.content.items c.loop-left.left) (stops part) _ _ _ (chunk_part c.loop-left.content.items c.loop-left.left c.loop-left.invariant.0 c.loop-left-test.true) (fault_held _ _ _ _ c.hold_byte.ensures.moved c.in-Fault.ensures.held.0 c.in-Fault.ensures.held.1))

pub returns-in-None-clause-turn : goal.returns-in-None-clause-turn
returns-in-None-clause-turn g c = reached_on _ _ _ (passes_on (chunk_of c.args.content.now.items c.args.size) (chunk_of c.loop-left.content.items c.loop-left.left) (chunk_of c.loop-left.content.items c.loop-left.left) _ _ _ c.loop-left.invariant.1 (passes_held (chunk_of c.loop-left.content.items c.loop-left.left) _ _ _ _ _ c.hold_byte.ensures.moved)).moves (reached_held _ _)

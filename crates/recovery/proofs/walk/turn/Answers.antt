use Rattle.std.proofs.Common.{◌+◌, ℕ, List, take, drop, refl, sym, ◌∙◌, ap, subst, arith}
use Rattle.recovery.specs.Outcome.Outcome.{refused}
use Rattle.recovery.specs.declared.fault.RecoverFault.TheVariants.{Full}
use Rattle.recovery.specs.Walk.{Refuses, left}
use Rattle.recovery.proofs.Records.{left_end, left_torn, left_full, turned, not_taken}
use Rattle.recovery.proofs.walk.turn.Goals as goal

pub returns-in-End-clause-answer : goal.returns-in-End-clause-answer
returns-in-End-clause-answer g c s generation f =
    let side = c.args.side.now in
    (left_end (g.R.Replay.verdict c.args.replay.now) side.limit side.second generation s c.args.gate (g.R.Replay.taken c.args.replay.now) (c.in-End.ensures.is s f), refl)

pub returns-in-Torn-clause-answer : goal.returns-in-Torn-clause-answer
returns-in-Torn-clause-answer g c s generation f =
    let side = c.args.side.now in
    let o = c.in-Torn.ensures.is s f in
    left_torn (g.R.Replay.verdict c.args.replay.now) side.limit side.second generation s c.args.gate o.more (g.R.Replay.taken c.args.replay.now) o.is o.none

pub returns-in-Full-clause-answer : goal.returns-in-Full-clause-answer
returns-in-Full-clause-answer g c s generation f =
    let side = c.args.side.now in
    let taken = g.R.Replay.taken c.args.replay.now in
    let o = c.in-Full.ensures.is s f in
    left_full (g.R.Replay.verdict c.args.replay.now) side.limit side.second generation s c.args.gate o.size taken o.opens (omega (arith, o.is, o.over)) ∙ ap (λ (n : ℕ). refused (Full n) taken) (sym o.is)

pub returns-in-Ok-clause-answer : goal.returns-in-Ok-clause-answer
returns-in-Ok-clause-answer g c s generation f =
    let side = c.args.side.now in
    let o = c.in-Whole.ensures.is s f in
    let body = ap (λ (n : ℕ). take n (drop (c.args.gate + 5) c.deref.result.now)) (omega arith) ∙ ap (λ (l : List ℕ). take c.in-Whole.size (drop (c.args.gate + 5) l)) c.deref.ensures.value in
    turned (g.R.Replay.verdict c.args.replay.now) side.limit side.second generation s c.args.gate c.in-Whole.size (g.R.Replay.taken c.args.replay.now) (g.R.Replay.taken c.take_record.new.self) _ side.bytes.items o c.in-Whole.ensures.fits.limit_fits body c.in-Ok.ensures.answer c.in-Ok.ensures.taken

pub returns-in-Err-clause-answer : goal.returns-in-Err-clause-answer
returns-in-Err-clause-answer g c s generation f =
    let side = c.args.side.now in
    let o = c.in-Whole.ensures.is s f in
    let taken = g.R.Replay.taken c.args.replay.now in
    let now = g.R.Replay.taken c.take_record.new.self in
    let body = ap (λ (n : ℕ). take n (drop (c.args.gate + 5) c.deref.result.now)) (omega arith) ∙ ap (λ (l : List ℕ). take c.in-Whole.size (drop (c.args.gate + 5) l)) c.deref.ensures.value in
    let refuses = not_taken (g.R.Replay.verdict c.args.replay.now) side.limit side.second generation s c.in-Err.fault c.args.gate c.in-Whole.size c.args.number taken now _ side.bytes.items o c.in-Whole.ensures.fits.limit_fits body c.in-Err.ensures.answer c.in-Err.ensures.taken c.requires.number in
    subst (λ x. Refuses x (left (g.R.Replay.verdict c.args.replay.now) side.limit side.second generation s c.args.gate taken) now) (sym c.fault_of.ensures.made) refuses

use Rattle.std.proofs.Common.{◌≡◌, ◌==◌, Err, ℕ, ap, sym, subst, ◌∙◌, arith}
use Rattle.std.proofs.lemmas.List.{get_or_read}
use Rattle.feature_journal.specs.Recover.{generation_of}
use Rattle.recovery.specs.declared.fault.RecoverFault.TheVariants.{DiskFault}
use Rattle.recovery.specs.Looked.{RefusesOr}
use Rattle.recovery.proofs.Looking.{ends_at, size_of_side, side_left, refuses_or}
use Rattle.recovery.proofs.look.ending_of.Goals as goal

pub returns-in-Err-clause-answer : goal.returns-in-Err-clause-answer
returns-in-Err-clause-answer g c s f long =
    let read = c.args.read.now in
    let now = g.R.Replay.taken c.walk.new.replay in
    subst (λ o. RefusesOr c.in-Err.fault o now) (sym (side_left (g.R.Replay.verdict c.args.replay.now) read.limit read.second s c.requires.within))
    (refuses_or c.in-Err.fault _ now (c.in-Err.ensures.answer s (generation_of s) f))

pub returns-in-Err-clause-fault : goal.returns-in-Err-clause-fault
returns-in-Err-clause-fault g c e = let same : c.in-Err.fault ≡ DiskFault = cc in c.walk.ensures.no_disk (c.in-Err.is ∙ ap Err same)

pub returns-in-Ok-clause-answer : goal.returns-in-Ok-clause-answer
returns-in-Ok-clause-answer g c s f long =
    let read = c.args.read.now in
    side_left (g.R.Replay.verdict c.args.replay.now) read.limit read.second s c.requires.within ∙ c.in-Ok.ensures.answer s (generation_of s) f

pub returns-in-Ok-clause-ends : goal.returns-in-Ok-clause-ends
returns-in-Ok-clause-ends g c s f generation able =
    let read = c.args.read.now in
    let gate = c.in-Ok.gate in
    let w = c.in-Ok.ensures.within in
    let held = c.requires.held in
    let same = get_or_read read.bytes.items gate c.index.result.now (omega (arith, held.held, w.1, w.2)) c.index.ensures 0 in
    ends_at read gate (g.R.Replay.taken c.walk.new.replay) held w.1 w.2 w.0 c.in-Ok.ensures.spelled _ (ap (λ (n : ℕ). n == 0) same) generation s f able

pub returns-in-Ok-clause-size : goal.returns-in-Ok-clause-size
returns-in-Ok-clause-size g c generation =
    let w = c.in-Ok.ensures.within in
    size_of_side c.args.read.now c.in-Ok.gate (g.R.Replay.taken c.walk.new.replay) c.requires.held w.1 w.2 w.0 c.in-Ok.ensures.spelled generation

use Rattle.std.proofs.Common.{◌≡◌, Ok, Err, length, sym, ap, subst, ◌∙◌}
use Rattle.std.proofs.lemmas.Result.{err_from_is_err_and}
use Rattle.recovery.specs.Replay.{Answers}
use Rattle.journal_replay.specs.Rebuilt.{Rebuilt, IsRebuilt, state_of}
use Rattle.journal_replay.specs.Replayed.{verdict_on}
use Rattle.journal_replay.proofs.Rebuilding.{Begins, Tries, begins_anew, still_rebuilt, answers_well}
use Rattle.journal_replay.proofs.rebuild.RebuildReplay.take_record.Goals as goal

begins : (c : goal.After-take) → Begins c.self.inside.empty c.in-Some.features c.self.inside.played c.self.inside.bodies c.args.number
begins c =
    let of_view : c.self.inside.bodies ≡ c.args.self.now.taken = ap (λ (v : Rebuilt). v.taken) c.self.view_is in
    record {
      schema = ap (λ p. (state_of c.self.inside.empty p).schema) (sym c.in-Some.is) ∙ c.self.invariant.schema;
      kept = ap (λ p. (state_of c.self.inside.empty p).kept) (sym c.in-Some.is);
      count = c.requires ∙ ap length (sym of_view);
    }

tries : (c : goal.After-take) → Tries c.in-Some.features c.take.new.features c.self.inside.bodies c.take.new.bodies c.args.number c.args.body.now c.take.result
tries c = record { kept = c.take.ensures.kept; same = c.take.ensures.same; schema = c.take.ensures.schema; bodies = c.take.ensures.bodies }

pub invariant_of-self : goal.invariant_of-self
invariant_of-self c = still_rebuilt c.self.inside.signature c.self.inside.empty c.in-Some.features c.take.new.features c.self.inside.played c.self.inside.bodies c.take.new.bodies c.args.number c.args.body.now c.take.result c.self.invariant (begins c) (tries c)

pub returns-in-Some-clause-answer : goal.returns-in-Some-clause-answer
returns-in-Some-clause-answer c =
    let here = answers_well c.self.inside.signature c.self.inside.empty c.in-Some.features c.take.new.features c.self.inside.played c.self.inside.bodies c.take.new.bodies c.args.number c.args.body.now c.take.result c.self.invariant (begins c) (tries c) in
    subst (λ (v : Rebuilt). Answers c.take.result (verdict_on v.schema v.taken c.args.body.now)) c.self.view_is here

-- ---- the first body, on a copy of the state before any

pub invariant_of-self-in-None : goal.invariant_of-self-in-None
invariant_of-self-in-None c =
    let of_view : c.self.inside.bodies ≡ c.args.self.now.taken = ap (λ (v : Rebuilt). v.taken) c.self.view_is in
    let copy = c.in_ok-features-in-None in
    let took = c.in_ok-take-in-None in
    let here = begins_anew c.self.inside.empty copy.features c.self.inside.played c.self.inside.bodies c.args.number copy.ensures.schema copy.ensures.kept c.in-None.is (c.requires ∙ ap length (sym of_view)) in
    subst (λ played. IsRebuilt c.self.inside.signature c.self.inside.empty played c.take-in-None.new.bodies) (sym c.set.ensures)
    (still_rebuilt c.self.inside.signature c.self.inside.empty copy.features c.take-in-None.new.features c.self.inside.played c.self.inside.bodies c.take-in-None.new.bodies c.args.number c.args.body.now (Ok took.field-0) c.self.invariant here
    (record { kept = took.ensures.kept; same = took.ensures.same; schema = took.ensures.schema; bodies = took.ensures.bodies }))

pub returns-in_ok-take-in-None-clause-answer : goal.returns-in_ok-take-in-None-clause-answer
returns-in_ok-take-in-None-clause-answer c =
    let of_view : c.self.inside.bodies ≡ c.args.self.now.taken = ap (λ (v : Rebuilt). v.taken) c.self.view_is in
    let copy = c.in_ok-features-in-None in
    let took = c.in_ok-take-in-None in
    let here = begins_anew c.self.inside.empty copy.features c.self.inside.played c.self.inside.bodies c.args.number copy.ensures.schema copy.ensures.kept c.in-None.is (c.requires ∙ ap length (sym of_view)) in
    let well = answers_well c.self.inside.signature c.self.inside.empty copy.features c.take-in-None.new.features c.self.inside.played c.self.inside.bodies c.take-in-None.new.bodies c.args.number c.args.body.now (Ok took.field-0) c.self.invariant here
    (record { kept = took.ensures.kept; same = took.ensures.same; schema = took.ensures.schema; bodies = took.ensures.bodies }) in
    subst (λ (v : Rebuilt). Answers (Ok took.field-0) (verdict_on v.schema v.taken c.args.body.now)) c.self.view_is well

pub returns-in_err-take-in-None-clause-answer : goal.returns-in_err-take-in-None-clause-answer
returns-in_err-take-in-None-clause-answer c =
    let of_view : c.self.inside.bodies ≡ c.args.self.now.taken = ap (λ (v : Rebuilt). v.taken) c.self.view_is in
    let copy = c.in_ok-features-in-None in
    let took = c.in_err-take-in-None in
    let here = begins_anew c.self.inside.empty copy.features c.self.inside.played c.self.inside.bodies c.args.number copy.ensures.schema copy.ensures.kept c.in-None.is (c.requires ∙ ap length (sym of_view)) in
    let well = answers_well c.self.inside.signature c.self.inside.empty copy.features c.take-in-None.new.features c.self.inside.played c.self.inside.bodies c.take-in-None.new.bodies c.args.number c.args.body.now (Err took.field-0.0) c.self.invariant here
    (record { kept = took.ensures.kept; same = took.ensures.same; schema = took.ensures.schema; bodies = took.ensures.bodies }) in
    let p = err_from_is_err_and c.from_residual-in_err-take-in-None.result c.from_residual-in_err-take-in-None.ensures.1 in
    rw (p.1, p.2) (subst (λ (v : Rebuilt). Answers (Err took.field-0.0) (verdict_on v.schema v.taken c.args.body.now)) c.self.view_is well)

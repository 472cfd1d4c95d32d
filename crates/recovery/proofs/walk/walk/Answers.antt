use Rattle.std.proofs.Common.{◌∷◌, [], length, take, subst, sym, ap, arith, length-append, ◌∙◌, ◌++◌, List, ℕ}
use Rattle.std.specs.List.{AllByRecursion, flat_map}
use Rattle.feature_journal.specs.Side.{opened}
use Rattle.feature_journal.specs.Whole.{Fits}
use Rattle.recovery.specs.Walk.{Moved}
use Rattle.recovery.proofs.Turns.{all_taken, one_more, refused_then, fits_more, spelled_more}
use Rattle.recovery.proofs.walk.walk.Goals as goal

pub returns-in-Err-clause-answer : goal.returns-in-Err-clause-answer
returns-in-Err-clause-answer g c s generation f =
    let side = c.args.side.now in
    let i = c.loop-next.invariant in
    refused_then (g.R.Replay.verdict c.loop-next.replay) (g.R.Replay.verdict c.args.replay.now) side.limit side.second generation s c.loop-next.gate (g.R.Replay.taken c.loop-next.replay) (g.R.Replay.taken c.turn.new.replay) i.verdict_is (i.coming s generation f)
    c.in-Err.fault (c.in-Err.ensures.answer s generation f)

pub returns-in-Ok-None-clause-answer : goal.returns-in-Ok-None-clause-answer
returns-in-Ok-None-clause-answer g c s generation f =
    let side = c.args.side.now in
    let i = c.loop-next.invariant in
    all_taken (g.R.Replay.verdict c.loop-next.replay) (g.R.Replay.verdict c.args.replay.now) side.limit side.second generation s c.loop-next.gate (g.R.Replay.taken c.loop-next.replay) (g.R.Replay.taken c.turn.new.replay) i.verdict_is (i.coming s generation f)
    c.in-Ok-None.field-0 c.in-Ok-None.field-0-is (c.in-Ok-None.ensures.answer s generation f)

pub returns-in-Ok-None-clause-spelled : goal.returns-in-Ok-None-clause-spelled
returns-in-Ok-None-clause-spelled g c =
    let side = c.args.side.now in
    let old = g.R.Replay.taken c.loop-next.replay in
    let new = g.R.Replay.taken c.turn.new.replay in
    let same = subst (Moved side c.loop-next.gate old new) c.in-Ok-None.field-0-is c.in-Ok-None.ensures.moves in
    c.loop-next.invariant.spelled ∙ ap (λ (l : List (List ℕ)). take 16 side.bytes.items ++ flat_map opened l) (sym same)

pub returns-in-Ok-None-clause-fits : goal.returns-in-Ok-None-clause-fits
returns-in-Ok-None-clause-fits g c =
    let old = g.R.Replay.taken c.loop-next.replay in
    let new = g.R.Replay.taken c.turn.new.replay in
    let same = subst (Moved c.args.side.now c.loop-next.gate old new) c.in-Ok-None.field-0-is c.in-Ok-None.ensures.moves in
    subst (AllByRecursion Fits) (sym same) c.loop-next.invariant.fits

pub loop-next-preserved : goal.loop-next-preserved
loop-next-preserved g c =
    let side = c.args.side.now in
    let i = c.loop-next.invariant in
    let old = g.R.Replay.taken c.loop-next.replay in
    let new = g.R.Replay.taken c.turn.new.replay in
    let m = subst (Moved side c.loop-next.gate old new) c.in-Ok-Some.field-0-is c.in-Ok-Some.ensures.moves in
    record {
      some = omega (arith, m.later, i.some);
      limit_fits = m.limit_fits;
      len_fits = m.len_fits;
      number_is = omega (arith, i.number_is, ap length m.taken, length-append old (m.body ∷ []));
      number_fits = omega (arith, m.later, i.number_fits);
      setting_is = c.in-Ok-Some.ensures.setting ∙ i.setting_is;
      verdict_is = c.in-Ok-Some.ensures.verdict ∙ i.verdict_is;
      fits = fits_more old new m.body m.taken m.fits i.fits;
      spelled = spelled_more _ _ _ old new m.body m.taken m.spelled i.spelled;
      coming = λ s generation f. one_more (g.R.Replay.verdict c.loop-next.replay) (g.R.Replay.verdict c.args.replay.now) side.limit side.second generation s c.loop-next.gate old new i.verdict_is (i.coming s generation f)
          c.in-Ok-Some.field-0 c.in-Ok-Some.next c.in-Ok-Some.field-0-is (c.in-Ok-Some.ensures.answer s generation f);
    }

use Rattle.std.proofs.Common.{rules, refl}
use Rattle.wfs_ends.proofs.Given.{given_next, given_nil, gives_front, keeps_none, keeps_on}
use Rattle.wfs_ends.proofs.sink.put_all.Goals as goal

pub returns-in_err-done : goal.returns-in_err-done
returns-in_err-done g c =
    let keeps = keeps_on _ _ _ c.loop-done.invariant.2 c.put.ensures.keeps in
    grind (rules, gives_front, keeps)

pub loop-done-preserved : goal.loop-done-preserved
loop-done-preserved g c =
    let keeps = keeps_on _ _ _ c.loop-done.invariant.2 c.put.ensures.keeps in
    grind (rules, given_next, keeps)

pub loop-done-init : goal.loop-done-init
loop-done-init g c = (search rules, given_nil _, keeps_none _, refl)

use Rattle.std.proofs.Common.{◌≡◌, [], ◌∷◌, IfSome, sym, subst, ap, take}
use Rattle.disk_core.specs.Disk.{Begins}
use Rattle.disk_core.proofs.Runs.{goes_on}
use Rattle.disk_core.proofs.Seen.{ok_more, reads_cut, every_stable}
use Rattle.feature_journal.specs.Whole.{Harmless}
use Rattle.feature_journal.proofs.Idle.{idle_same, goes_same, goes_cut}
use Rattle.feature_journal.proofs.making.clear_on.Goals as goal

pub returns-in_err-sync-clause-goes : goal.returns-in_err-sync-clause-goes
returns-in_err-sync-clause-goes g c is_b generation idle =
    goes_on g.D.Disk.moment g.D.Disk.since g.D.Disk.images (Harmless is_b generation []) c.args.disk.now c.zero_first.new.disk c.sync.new.self (c.zero_first.ensures.goes is_b generation idle)
    (goes_same g.D.Disk.moment g.D.Disk.since g.D.Disk.images is_b generation _ _ c.sync.ensures.crash (c.zero_first.ensures.still is_b generation idle))

pub returns-in_err-sync-clause-still : goal.returns-in_err-sync-clause-still
returns-in_err-sync-clause-still g c is_b generation idle = idle_same g.D.Disk.moment g.D.Disk.since g.D.Disk.images is_b generation _ _ c.sync.ensures.crash (c.zero_first.ensures.still is_b generation idle)

pub returns-clause-goes : goal.returns-clause-goes
returns-clause-goes g c is_b generation idle =
    let synced = goes_on g.D.Disk.moment g.D.Disk.since g.D.Disk.images (Harmless is_b generation []) c.args.disk.now c.zero_first.new.disk c.sync.new.self (c.zero_first.ensures.goes is_b generation idle)
    (goes_same g.D.Disk.moment g.D.Disk.since g.D.Disk.images is_b generation c.zero_first.new.disk c.sync.new.self c.sync.ensures.crash (c.zero_first.ensures.still is_b generation idle)) in
    goes_on g.D.Disk.moment g.D.Disk.since g.D.Disk.images (Harmless is_b generation []) c.args.disk.now c.sync.new.self c.cut.new.self synced
    (goes_cut g.D.Disk.moment g.D.Disk.since g.D.Disk.images is_b generation c.sync.new.self c.cut.new.self c.cut.ensures.crash (every_stable _ _ (Begins (0 ∷ [])) c.in_ok-sync.ensures.stable c.in_ok-zero_first.ensures.zero))

pub returns-clause-cut : goal.returns-clause-cut
returns-clause-cut g c = ok_more c.cut.result _ _ (λ done. reads_cut 1 _ _ (Begins (0 ∷ [])) (λ s. s ≡ 0 ∷ []) (λ s b. ap (take 1) b.is) done (subst (λ o. IfSome o (Begins (0 ∷ []))) (sym c.sync.ensures.same) c.in_ok-zero_first.ensures.zero)) c.cut.ensures.done

use Rattle.std.proofs.Common.{◌≡◌, ◌+◌, true, sym, subst}
use Rattle.disk_core.specs.Sides.{Always}
use Rattle.feature_journal.specs.Kept.{disks_of}
use Rattle.wfs_model.specs.declared.change.Change.TheVariants.{Opening}
use Rattle.wfs_model.specs.Playable.{is_playable}
use Rattle.durable_journal.specs.Standing.{SaysOpened}
use Rattle.durable_journal.proofs.Shorter.{still_goes}
use Rattle.durable_journal.proofs.Openings.{kept_opens, next_may}
use Rattle.durable_journal.proofs.beginning.begin_opening.Goals as goal

pub returns-then-number-ge-LAST_OPENING-clause-goes_err :
    goal.returns-then-number-ge-LAST_OPENING-clause-goes_err
returns-then-number-ge-LAST_OPENING-clause-goes_err g c =
    let from = c.args.recovered in
    subst (λ d. Always g.D.Disk.moment g.D.Disk.since (SaysOpened from.features.schema from.features.kept) (disks_of from.journal) d) (sym c.into_disks.ensures)
    (kept_opens g.D.Disk.moment g.D.Disk.since from.features.schema from.features.kept (disks_of from.journal) (disks_of from.journal)
    (still_goes g.D.Disk.moment g.D.Disk.since g.D.Disk.images g.met.D.Disk.counts g.met.D.Disk.only from.features.schema from.features.kept from.journal c.requires.holds))

pub apply-requires-clause-playable : goal.apply-requires-clause-playable
apply-requires-clause-playable g c =
    let from = c.args.recovered in
    subst (λ n. is_playable from.features.schema from.features.kept (Opening (n + 1)) ≡ true) (sym c.openings-number.ensures) (next_may from.features.schema from.features.kept)

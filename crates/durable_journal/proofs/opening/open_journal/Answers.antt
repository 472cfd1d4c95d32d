use Rattle.std.proofs.Common.{length, sym, subst}
use Rattle.feature_journal.specs.Kept.{disks_of, limit_of, length_of, generation_in}
use Rattle.feature_journal.specs.Nothing.{Nothing}
use Rattle.feature_schema.specs.Rules.{KeepsRules}
use Rattle.journal_replay.specs.Replayed.{verdict_on}
use Rattle.recovery.specs.Crash.{WithTail}
use Rattle.recovery.specs.Outcome.{outcome_of}
use Rattle.recovery.proofs.Phases.{ok_map, err_map}
use Rattle.wfs_model.specs.State.{nothing}
use Rattle.durable_journal.specs.Standing.{SaysOpened}
use Rattle.durable_journal.specs.Kept.{Holds}
use Rattle.durable_journal.specs.Opened.{AreBodiesOf, CannotOpen}
use Rattle.durable_journal.proofs.Openings.{told_bodies, not_opened, said_kept, nothing_kept, more_synced, synced_on, is_opened, by_fault, opens_so}
use Rattle.durable_journal.proofs.OpeningSides.{opened_side}
use Rattle.durable_journal.proofs.opening.open_journal.Goals as goal

pub returns-in-Err-clause-goes_err : goal.returns-in-Err-clause-goes_err
returns-in-Err-clause-goes_err g c a b lists kept is_a is_b s all =
    more_synced g.D.Disk.shown g.D.Disk.moment g.D.Disk.since g.D.Disk.images (WithTail lists s) (SaysOpened c.args.schema.now kept) _ _ (c.in-Err.ensures.goes_err a b lists is_a is_b s)

pub returns-in-Err-clause-first_err : goal.returns-in-Err-clause-first_err
returns-in-Err-clause-first_err g c a b is_a is_b un_a un_b =
    more_synced g.D.Disk.shown g.D.Disk.moment g.D.Disk.since g.D.Disk.images Nothing (SaysOpened c.args.schema.now (nothing (length c.args.schema.now.types))) _ _ (c.in-Err.ensures.nothing_err a b is_a is_b un_a un_b)

pub begin_opening-requires-clause-rules : goal.begin_opening-requires-clause-rules
begin_opening-requires-clause-rules g c = subst KeepsRules (sym c.in-Ok.ensures.schema) c.requires.rules

pub begin_opening-requires-clause-holds : goal.begin_opening-requires-clause-holds
begin_opening-requires-clause-holds g c = subst (λ s. Holds g.D.Disk.images s c.in-Ok.recovered.features.kept c.in-Ok.recovered.journal) (sym c.in-Ok.ensures.schema) c.in-Ok.ensures.holds

pub returns-in-Ok-clause-opened : goal.returns-in-Ok-clause-opened
returns-in-Ok-clause-opened g c =
    is_opened g.D.Disk.images c.args.schema.now c.args.limit c.in-Ok.recovered c.begin_opening.result c.in-Ok.ensures.schema c.in-Ok.ensures.come c.in-Ok.ensures.limit
    c.begin_opening.ensures.below c.begin_opening.ensures.kept c.begin_opening.ensures.schema c.begin_opening.ensures.bodies c.begin_opening.ensures.rests c.begin_opening.ensures.limit

pub returns-in-Ok-clause-told : goal.returns-in-Ok-clause-told
returns-in-Ok-clause-told g c =
    ok_map c.begin_opening.result _ _ (λ o same a b is_a is_b. subst (AreBodiesOf (outcome_of (verdict_on c.args.schema.now) c.args.limit a b)) (sym same)
    (told_bodies c.in-Ok.recovered.journal (outcome_of (verdict_on c.args.schema.now) c.args.limit a b) c.args.limit c.in-Ok.recovered.bodies (c.in-Ok.ensures.told a b is_a is_b))) c.begin_opening.ensures.bodies

pub returns-in-Ok-clause-side : goal.returns-in-Ok-clause-side
returns-in-Ok-clause-side g c =
    let from = c.in-Ok.recovered in
    ok_map c.begin_opening.result _ _ (λ o begun a b is_a is_b.
    opened_side g.D.Disk.images c.args.schema.now from.features.schema from.features.kept from.journal o.journal (outcome_of (verdict_on c.args.schema.now) c.args.limit a b) c.args.limit from.bodies c.in-Ok.ensures.schema (c.in-Ok.ensures.told a b is_a is_b) c.in-Ok.ensures.come c.in-Ok.ensures.rests begun) c.begin_opening.ensures.begun

pub returns-in-Ok-clause-refused : goal.returns-in-Ok-clause-refused
returns-in-Ok-clause-refused g c =
    let from = c.in-Ok.recovered in
    by_fault c.begin_opening.result (CannotOpen from.features.schema from.features.kept (limit_of from.journal) (length_of from.journal) (generation_in from.journal)) _
    (λ fault later why a b is_a is_b. not_opened from.journal (outcome_of (verdict_on c.args.schema.now) c.args.limit a b) c.args.schema.now from.features.kept c.args.limit from.bodies fault (c.in-Ok.ensures.told a b is_a is_b) c.in-Ok.ensures.limit c.in-Ok.ensures.come later
    (λ sum is. subst (λ s. CannotOpen s from.features.kept (limit_of from.journal) (length_of from.journal) (generation_in from.journal) sum) c.in-Ok.ensures.schema (why sum is)))
    c.begin_opening.ensures.later c.begin_opening.ensures.full

pub returns-in-Ok-clause-unwritten : goal.returns-in-Ok-clause-unwritten
returns-in-Ok-clause-unwritten g c = err_map c.begin_opening.result _ _ (λ e later of_bytes. absurd (later of_bytes)) c.begin_opening.ensures.later

pub returns-in-Ok-clause-goes : goal.returns-in-Ok-clause-goes
returns-in-Ok-clause-goes g c =
    let from = c.in-Ok.recovered in
    ok_map c.begin_opening.result _ _ (λ o goes a b lists kept is_a is_b s all.
    synced_on g.D.Disk.shown g.D.Disk.moment g.D.Disk.since g.D.Disk.images (WithTail lists s) (SaysOpened c.args.schema.now kept) c.args.disks (disks_of from.journal) (disks_of o.journal) (c.in-Ok.ensures.goes a b lists is_a is_b s)
    (opens_so g.D.Disk.moment g.D.Disk.since c.args.schema.now from.features.schema kept from.features.kept (disks_of from.journal) (disks_of o.journal) c.in-Ok.ensures.schema
    (said_kept from.journal c.args.schema.now c.args.limit a b lists kept from.features.kept from.bodies s all (c.in-Ok.ensures.told a b is_a is_b) c.in-Ok.ensures.come) goes)) c.begin_opening.ensures.goes

pub returns-in-Ok-clause-goes_err : goal.returns-in-Ok-clause-goes_err
returns-in-Ok-clause-goes_err g c =
    let from = c.in-Ok.recovered in
    err_map c.begin_opening.result _ _ (λ e goes a b lists kept is_a is_b s all.
    synced_on g.D.Disk.shown g.D.Disk.moment g.D.Disk.since g.D.Disk.images (WithTail lists s) (SaysOpened c.args.schema.now kept) c.args.disks (disks_of from.journal) e.0 (c.in-Ok.ensures.goes a b lists is_a is_b s)
    (opens_so g.D.Disk.moment g.D.Disk.since c.args.schema.now from.features.schema kept from.features.kept (disks_of from.journal) e.0 c.in-Ok.ensures.schema
    (said_kept from.journal c.args.schema.now c.args.limit a b lists kept from.features.kept from.bodies s all (c.in-Ok.ensures.told a b is_a is_b) c.in-Ok.ensures.come) goes)) c.begin_opening.ensures.goes_err

pub returns-in-Ok-clause-first : goal.returns-in-Ok-clause-first
returns-in-Ok-clause-first g c =
    let from = c.in-Ok.recovered in
    let none = nothing (length c.args.schema.now.types) in
    ok_map c.begin_opening.result _ _ (λ o goes a b is_a is_b un_a un_b.
    synced_on g.D.Disk.shown g.D.Disk.moment g.D.Disk.since g.D.Disk.images Nothing (SaysOpened c.args.schema.now none) c.args.disks (disks_of from.journal) (disks_of o.journal) (c.in-Ok.ensures.nothing a b is_a is_b un_a un_b)
    (opens_so g.D.Disk.moment g.D.Disk.since c.args.schema.now from.features.schema none from.features.kept (disks_of from.journal) (disks_of o.journal) c.in-Ok.ensures.schema
    (nothing_kept from.journal c.args.schema.now c.args.limit a b from.features.kept from.bodies un_a un_b (c.in-Ok.ensures.told a b is_a is_b) c.in-Ok.ensures.come) goes)) c.begin_opening.ensures.goes

pub returns-in-Ok-clause-first_err : goal.returns-in-Ok-clause-first_err
returns-in-Ok-clause-first_err g c =
    let from = c.in-Ok.recovered in
    let none = nothing (length c.args.schema.now.types) in
    err_map c.begin_opening.result _ _ (λ e goes a b is_a is_b un_a un_b.
    synced_on g.D.Disk.shown g.D.Disk.moment g.D.Disk.since g.D.Disk.images Nothing (SaysOpened c.args.schema.now none) c.args.disks (disks_of from.journal) e.0 (c.in-Ok.ensures.nothing a b is_a is_b un_a un_b)
    (opens_so g.D.Disk.moment g.D.Disk.since c.args.schema.now from.features.schema none from.features.kept (disks_of from.journal) e.0 c.in-Ok.ensures.schema
    (nothing_kept from.journal c.args.schema.now c.args.limit a b from.features.kept from.bodies un_a un_b (c.in-Ok.ensures.told a b is_a is_b) c.in-Ok.ensures.come) goes)) c.begin_opening.ensures.goes_err

use Rattle.std.proofs.Common.{◌∙◌, ◌+◌, ◌∷◌, ◌++◌, ℕ, List, [], length, ap, subst}
use Rattle.feature_journal.specs.Kept.{Rests, disks_of, length_of, seen}
use Rattle.durable_journal.proofs.Shorter.{still_goes}
use Rattle.durable_journal.proofs.Openings.{opening_rests, opening_goes, kept_opens}
use Rattle.durable_journal.proofs.OpeningSides.{same_current}
use Rattle.durable_journal.proofs.beginning.append_opening.Goals as goal

pub returns-in-Err-clause-goes : goal.returns-in-Err-clause-goes
returns-in-Err-clause-goes g c =
    kept_opens g.D.Disk.moment g.D.Disk.since c.args.features.now.schema c.args.features.now.kept (disks_of c.args.journal.now) (disks_of c.args.journal.now)
    (still_goes g.D.Disk.moment g.D.Disk.since g.D.Disk.images g.met.D.Disk.counts g.met.D.Disk.only c.args.features.now.schema c.args.features.now.kept c.args.journal.now c.requires.holds)

pub returns-in-Ok-append-clause-rests : goal.returns-in-Ok-append-clause-rests
returns-in-Ok-append-clause-rests g c =
    opening_rests g.D.Disk.images c.args.features.now.schema c.args.features.now.kept c.args.journal.now c.append.new.self c.requires.holds c.deref.result.now (c.deref.ensures.value ∙ c.in-Ok.ensures.body) c.in-Ok.ensures.read_back c.requires.below c.in-Ok-append.ensures.done

pub returns-in-Ok-append-clause-goes : goal.returns-in-Ok-append-clause-goes
returns-in-Ok-append-clause-goes g c =
    opening_goes g.D.Disk.images c.args.features.now.schema c.args.features.now.kept c.args.journal.now c.append.new.self c.requires.holds c.deref.result.now (c.deref.ensures.value ∙ c.in-Ok.ensures.body) c.in-Ok.ensures.read_back g.D.Disk.moment g.D.Disk.since c.append.ensures.goes

pub returns-clause-goes : goal.returns-clause-goes
returns-clause-goes g c =
    opening_goes g.D.Disk.images c.args.features.now.schema c.args.features.now.kept c.args.journal.now c.append.new.self c.requires.holds c.deref.result.now (c.deref.ensures.value ∙ c.in-Ok.ensures.body) c.in-Ok.ensures.read_back g.D.Disk.moment g.D.Disk.since c.append.ensures.goes

pub returns-in-Ok-append-clause-appended : goal.returns-in-Ok-append-clause-appended
returns-in-Ok-append-clause-appended g c bodies rests =
    subst (λ (b : List ℕ). Rests g.D.Disk.images (bodies ++ b ∷ []) (seen c.append.new.self)) (c.deref.ensures.value ∙ c.in-Ok.ensures.body) (c.in-Ok-append.ensures.done bodies rests)

pub returns-in-Ok-append-clause-current : goal.returns-in-Ok-append-clause-current
returns-in-Ok-append-clause-current g c = same_current _ _ _ _ c.in-Ok-append.ensures.longer.0 c.in-Ok-append.ensures.longer.1

pub returns-in-Ok-append-clause-longer : goal.returns-in-Ok-append-clause-longer
returns-in-Ok-append-clause-longer g c =
    c.in-Ok-append.ensures.longer.2 ∙ ap (λ (b : List ℕ). length_of c.args.journal.now + 5 + length b) (c.deref.ensures.value ∙ c.in-Ok.ensures.body)

-- What the bodies come to is kept well, and so is the store that begins on it.
use Rattle.std.proofs.Common.{◌≤◌, ◌∙◌, ℕ, All, None, refl, sym, ap, subst, arith}
use Rattle.durable_journal.proofs.Shorter.{just_held}
use Rattle.wfs_model.specs.Playable.{most_number}
use Rattle.wfs_model.specs.State.{Durable, opened}
use Rattle.wfs_store.specs.declared.course.Course.{Course}
use Rattle.wfs_store.proofs.Starts.{begun_store, next_numbers, next_opened}
use Rattle.wfs_store.proofs.starting.begin.Goals as goal

pub open-requires : goal.open-requires
open-requires g c =
    let at = c.requires.opened in
    let restorable = c.what_bodies_come_to_is_kept_well.ensures c.args.opened.features.schema c.args.opened.bodies at.kept at.come in
    subst (λ (k : Durable). All (λ (n : ℕ). n ≤ most_number) k.counters) (sym at.now) (next_numbers at.kept restorable.numbers)

pub invariant_of-result : goal.invariant_of-result
invariant_of-result g c =
    let at = c.requires.opened in
    let schema = c.open.ensures.schema in
    let restorable = c.what_bodies_come_to_is_kept_well.ensures c.args.opened.features.schema c.args.opened.bodies at.kept at.come in
    let state = c.open.ensures.state ∙ ap (λ (k : Durable). opened k k.opening) at.now ∙ next_opened at.kept in
    let course : Course = record { alloc = c.args.alloc; limits = c.args.limits; signature = c.args.signature; state = c.open.result; history = c.new.result; bytes = 0; last = None; body = c.new-2.result } in
    begun_store g.D.Disk.images course c.args.opened.journal c.args.opened.bodies c.side_length-side.result at.kept
    (rw schema at.come) (rw schema restorable.well) state c.new.ensures.items refl refl (rw schema c.requires.signature) (rw schema c.requires.rules)
    (rw (schema, ← at.now) at.rests) at.limit_is c.side_length-side.ensures

pub returns-clause-current : goal.returns-clause-current
returns-clause-current g c =
    let at = c.requires.opened.rests in
    (at.bodies, just_held g.D.Disk.images at.bodies c.args.opened.journal at.rests)

pub returns-clause-side : goal.returns-clause-side
returns-clause-side g c =
    let within = c.requires.opened.rests.rests.within in
    let most = c.requires.opened.rests.rests.limit in
    let told = c.side_length-side.ensures in
    omega (arith, told, within, most)

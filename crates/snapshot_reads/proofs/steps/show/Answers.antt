use Rattle.std.proofs.Common.{◌∙◌, IsSome, Option, Some, Bor, refl, subst, sym}
use Rattle.std.specs.Option.{option_copied}
use Rattle.wfs_model.specs.declared.change.Change.{Change}
use Rattle.snapshot_reads.specs.Publishers.{Follows}
use Rattle.snapshot_reads.proofs.Asking.{asks_there}
use Rattle.snapshot_reads.proofs.steps.show.Goals as goal

pub show_change-requires-clause-queries : goal.show_change-requires-clause-queries
show_change-requires-clause-queries g c =
    let shown = c.args.writer.desk.shown.value.snapshot in
    let features = c.in-Some-caught.features in
    let now = c.args.now.now in
    let some : IsSome c.args.other = subst IsSome (sym c.in-Some.is) refl in
    let follows : Follows (Some c.in-Some-change.change.now) shown now = subst (λ (o : Option (Bor Change)). Follows (option_copied o) shown now) c.in-Some-change.is (c.requires.change some) in
    asks_there shown features now c.in-Some-change.change.now (c.catch_up-writer.ensures.alike features c.in-Some-caught.is) (c.requires.schema ∙ sym c.requires.sound.ready.schema) follows c.schema-schema.ensures.kept

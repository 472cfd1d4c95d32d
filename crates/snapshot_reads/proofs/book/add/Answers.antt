use Rattle.std.proofs.Common.{◌-◌, ◌∙◌, sym, ap, arith}
use Rattle.snapshot_reads.specs.Content.{content_of}
use Rattle.snapshot_reads.specs.Pairs.{IsPairOf, pair, schema_in}
use Rattle.snapshot_reads.proofs.Adding.{adds_moves}
use Rattle.snapshot_reads.proofs.book.add.Goals as goal

pub compare_exchange-found-requires : goal.compare_exchange-found-requires
compare_exchange-found-requires g c =
    let h = c.requires.book in
    let offer = c.plain-offer.ensures in
    let pen = c.no_pen-pen.ensures in
    let some = c.requires.some in
    let its : IsPairOf (schema_in c.args.seen.now.log) (pair c.args.front (content_of c.args.features.now)) = record { of = c.requires.schema; well = c.schema-schema.ensures.kept } in (
      ap (λ w. w.tracked) h,
      sym (ap (λ w. w.book) h),
      pen.0 ∙ sym (ap (λ w. w.book) h),
      offer.0,
      rw (ap (λ w. w.key) h, pen.1, offer.1, offer.3)
          (adds_moves c.args.seen.now.log (pair c.args.front (content_of c.args.features.now)) (c.args.front - 1) c.args.front c.requires.next (omega arith) its),
    )

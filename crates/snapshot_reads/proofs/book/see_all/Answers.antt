use Rattle.std.proofs.Common.{sym, ap}
use Rattle.snapshot_reads.specs.Pairs.{pair}
use Rattle.snapshot_reads.specs.Content.{no_content}
use Rattle.snapshot_reads.proofs.Adding.{looks_moves}
use Rattle.snapshot_reads.proofs.book.see_all.Goals as goal

pub load-found-requires : goal.load-found-requires
load-found-requires g c =
    let h = c.requires.book in
    let offer = c.plain-offer.ensures in (
      ap (λ w. w.tracked) h,
      sym (ap (λ w. w.book) h),
      offer.0,
      rw (ap (λ w. w.key) h, offer.3) (looks_moves c.args.seen.now.log (pair c.args.last no_content)),
    )

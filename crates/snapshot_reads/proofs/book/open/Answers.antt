use Rattle.std.proofs.Common.{refl, rules}
use Rattle.snapshot_reads.specs.Content.{content_of}
use Rattle.snapshot_reads.specs.Pairs.{pair}
use Rattle.snapshot_reads.proofs.Schemas.{opens}
use Rattle.snapshot_reads.proofs.book.open.Goals as goal

pub open_row-seen-requires : goal.open_row-seen-requires
open_row-seen-requires c = (opens (pair 0 (content_of c.args.features.now)) (record { of = refl; well = c.schema-schema.ensures.kept }), search rules, search rules)

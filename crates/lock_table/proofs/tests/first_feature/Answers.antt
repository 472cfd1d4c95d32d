use Rattle.std.proofs.Common.{◌≡◌}
use Rattle.lock_table.specs.declared.id.LockId.{LockId}
use Rattle.lock_table.specs.declared.words.LockStatus.TheVariants.{Live}
use Rattle.lock_table.specs.Held.{status}
use Rattle.lock_table.proofs.Callers.{live_number_now}
use Rattle.lock_table.proofs.tests.first_feature.Goals as goal

pub features_of-requires : goal.features_of-requires
features_of-requires c =
    let id : LockId = record { opening = 7; number = c.args.number } in
    let live : status c.args.table.now.opening c.args.table.now.given c.args.table.now.locks c.args.moment id ≡ Live = cc in
    live_number_now c.args.table.now c.args.moment id live c.requires

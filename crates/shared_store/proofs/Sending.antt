-- What may be moved to another thread: a counter where its disks may, and a desk where, beside that, its handle may be shared.
use base.Fml.{Lft}
use mir.Syntax.{static}
use denote.Param.Send.{IsSend, IsSync, sendable}
use denote.RattleType.{RattleType}
use Rattle.disk_core.specs.declared.disk.Disk as disk
use Rattle.std.proofs.option.Option.TheSendSync.{the_field_send as option_send}
use Rattle.feature_values.proofs.schema.Schema.TheSendSync.{the_sync as schema_sync}
use Rattle.snapshot_reads.proofs.Sending.{publisher_send, viewer_send}
use Rattle.turnstile_core.proofs.seat.Seat.TheSendSync.{the_field_send as seat_send}
use Rattle.turnstile_core.proofs.turnstile.Turnstile.TheSendSync.{the_sync as turnstile_sync}
use Rattle.turnstile_core.specs.declared.kept.Kept as kept
use Rattle.wfs_model.specs.declared.entry.Entry.{Entry}
use Rattle.wfs_store.proofs.Sending.{store_send}
use Rattle.shared_store.specs.contracts.counter.Counter as counter
use Rattle.shared_store.specs.contracts.desk.Desk as desk
use Rattle.shared_store.specs.declared.counter.Counter.{Counter}

counter_send : (D : RattleType) (g : disk.Ghosts D.Denot) → IsSend D → IsSend (counter.the_row D g)
counter_send D g s = search (store_send, publisher_send, sendable) depth 20

-- What is said of a desk does not depend on how a caller names its lifetime, so it is said at one name.
pub desk_send :
    (κ : Lft) (R D : RattleType) (g : disk.Ghosts D.Denot) (k : kept.Ghosts (Counter D.Denot) Entry) →
    IsSync R →
    IsSend D →
    IsSend (desk.the_row (record { mir = static; lft = κ }) R D k g)
desk_send κ R D g k r s = search (counter_send, turnstile_sync, seat_send, schema_sync, viewer_send, option_send, sendable) depth 20

-- What a conversation over the store comes to.
use Rattle.std.specs.Prelude.{◌≡◌, ℕ, List, Option}
use Rattle.disk_core.specs.Sides.{Always}
use Rattle.disk_core.specs.declared.disk.Disk.{Ghosts as DiskMeaning}
use Rattle.disk_core.specs.declared.pair.Pair.{Pair}
use Rattle.feature_values.specs.declared.schema.Schema.{Schema}
use Rattle.service_session.specs.declared.ending.SessionEnd.{SessionEnd}
use Rattle.service_session.specs.declared.ending.SessionEnd.TheVariants as end
use Rattle.service_session.specs.Became.{StoreBecomes, TalliesAnswers, SaysOnTheWay}
use Rattle.service_session.specs.Session.{IsSession}
use Rattle.service_session.specs.Solo.{store_meaning}
use Rattle.wfs_ends.specs.Ends.{Shown, both}
use Rattle.wfs_store.specs.Held.{Held}
use Rattle.wfsd_commands.specs.declared.done.Done.{Done}
use Rattle.wfsd_commands.specs.Early.{Ends, EndsEarly, HasLoaded, SaysNoMemory}
use Rattle.wfsd_commands.specs.Left.{LeavesStore}
use Rattle.wfsd_commands.specs.Starting.{IsStarted, EndsUnopened}

-- the ends of a session at one time: the input, the output, and the moments that the clock has still to tell
pub record Heard : Type 0 where
  pub input : Shown
  pub out : Shown
  pub clock : Option (List ℕ)

-- the ends of a conversation at one time: also the schema's source
pub record TalkEnds : Type 0 where
  pub schema : Shown
  pub heard : Heard

-- the ends that each command has
abbrev pub own_of : TalkEnds → Ends
own_of ends = record { schema = ends.schema; out = ends.heard.out }

-- the input and the output as one link
abbrev pub link_of : Heard → Shown
link_of ends = both ends.input ends.out

-- neither the input nor the clock was touched
pub record SaysNothingHeard (old new : Heard) : Type 0 where
  pub input : new.input ≡ old.input
  pub clock : new.clock ≡ old.clock

-- the status of a session's end
abbrev pub status_of : SessionEnd → ℕ
status_of end.Ended = 0
status_of end.Closed = 0
status_of end.Unframed = 12
status_of end.Cut = 10
status_of end.ReadFault = 4
status_of end.WriteFault = 7
status_of end.NoMemory = 8

-- A session of the one seat was held with a store over a link. Its tally has one more for each answer that was a store fault.
pub record WasHeld {D : Type 0} (mean : DiskMeaning D) (first : Held D) (clock : Option (List ℕ)) (old : Shown) (end : SessionEnd) (store : Held D) (clock' : Option (List ℕ)) (new : Shown) : Type 0 where
  pub session : IsSession (store_meaning mean.moment mean.since mean.faults) clock first old end store clock' new
  pub tallies : TalliesAnswers mean.moment mean.since mean.faults first old end store clock' new

-- A session of the one seat was held with a store over a link, and its end gives the status. Its tally has one more for each answer that was a store
-- fault. At each moment of it a crash leaves what the history left so far, or that with the change that was begun there, or with the one in work.
pub record HeldBy {D : Type 0} (mean : DiskMeaning D) (first : Held D) (clock : Option (List ℕ)) (old : Shown) (done : Done D) (clock' : Option (List ℕ)) (new : Shown) : Type 0 where
  pub end : SessionEnd
  pub store : Held D
  pub leaves : LeavesStore (status_of end) store done
  pub session : IsSession (store_meaning mean.moment mean.since mean.faults) clock first old end store clock' new
  pub becomes : StoreBecomes mean.faults first store
  pub tallies : TalliesAnswers mean.moment mean.since mean.faults first old end store clock' new
  pub goes : Always mean.moment mean.since (SaysOnTheWay mean.moment mean.since mean.faults first store) first.disks store.disks

-- What a conversation comes to once there is memory for it: the store is started on the disks; what refuses that gives the status and one line. Else one session is
-- held with the store, whose end gives the status.
pub data TalksWith {D : Type 0} (mean : DiskMeaning D) (schema : Schema) (disks : Pair D) (old : Heard) (done : Done D) (new : Heard) : Type 0 where
  unopened : EndsUnopened mean schema disks old.out done new.out → SaysNothingHeard old new → TalksWith mean schema disks old done new
  held : (first : Held D) → IsStarted mean schema disks first → HeldBy mean first old.clock (link_of old) done new.clock (link_of new) → TalksWith mean schema disks old done new

-- What it comes to once there is a schema: where there is no memory for a session, no disk is asked.
pub data MayTalk {D : Type 0} (mean : DiskMeaning D) (schema : Schema) (disks : Pair D) (old : Heard) (done : Done D) (new : Heard) : Type 0 where
  no_memory_for_it : SaysNoMemory disks old.out done new.out → SaysNothingHeard old new → MayTalk mean schema disks old done new
  talks_with : TalksWith mean schema disks old done new → MayTalk mean schema disks old done new

-- What a conversation comes to. First the schema is read; where there is none, the status and one line say why.
pub data Talks {D : Type 0} (mean : DiskMeaning D) (disks : Pair D) (old : TalkEnds) (done : Done D) (new : TalkEnds) : Type 0 where
  early : EndsEarly disks (own_of old) done (own_of new) → SaysNothingHeard old.heard new.heard → Talks mean disks old done new
  talks : (schema : Schema) → HasLoaded schema (own_of old) (own_of new) → MayTalk mean schema disks old.heard done new.heard → Talks mean disks old done new

-- What a session over two ends comes to, and the history that it leaves.
use Rattle.std.proofs.Common.{◌≡◌, inl, inr, ℕ, List, [], ◌∷◌, Option, None, ap, ◌∙◌}
use Rattle.std.specs.Prelude.{IfSome}
use base.Fml.{GName}
use Rattle.disk_core.specs.declared.disk.Disk.{Ghosts as DiskMeaning}
use Rattle.wfs_ends.specs.Ends.{Shown, lent}
use Rattle.service_session.specs.declared.ending.SessionEnd.{SessionEnd}
use Rattle.service_session.specs.declared.ending.SessionEnd.TheVariants as end
use Rattle.service_session.specs.declared.service.Service.{Ghosts as Meaning}
use Rattle.service_session.specs.Session.{HasCause, IsSession}
use Rattle.service_session.specs.Became.{LeavesBegun, StoreBecomes, TalliesAnswers}
use Rattle.service_session.specs.Solo.{store_meaning}
use Rattle.service_session.proofs.Sessions.{told_map}
use Rattle.wfs_store.specs.Held.{Held}
use Rattle.wfsd_commands.specs.declared.done.Done.{Done}
use Rattle.wfsd_commands.specs.Becoming.{RestsUnless, GoesOn, Stands, IsLeft}
use Rattle.wfsd_commands.specs.Left.{LeavesStore}
use Rattle.wfsd_commands.specs.Talk.{WasHeld}
use Rattle.wfsd_commands.proofs.Becomes.{left_behind}

-- the borrows of a link say nothing of its session
cause_lent : (e : SessionEnd) (a b c d : GName) (old new : Shown) → HasCause e (lent a b old) (lent c d new) → HasCause e old new
cause_lent end.ReadFault a b c d old new h = h
cause_lent end.WriteFault a b c d old new h = h
cause_lent end.Ended a b c d old new h = tt
cause_lent end.Closed a b c d old new h = tt
cause_lent end.Unframed a b c d old new h = tt
cause_lent end.Cut a b c d old new h = tt
cause_lent end.NoMemory a b c d old new h = tt

abbrev behind_two : List GName → List GName
behind_two [] = []
behind_two (a ∷ []) = []
behind_two (a ∷ b ∷ names) = names

session_lent : {S : Type 0} (mean : Meaning S) (moments moments' : Option (List ℕ)) (served served' : S) (e : SessionEnd) (a b c d : GName) (old new : Shown)
    → IsSession mean moments served (lent a b old) e served' moments' (lent c d new) → IsSession mean moments served old e served' moments' new
session_lent mean moments moments' served served' e a b c d old new s = record {
  cause = cause_lent e a b c d old new s.cause;
  calm = s.calm;
  place = ap behind_two s.place;
  becomes = s.becomes;
  told = told_map moments old (λ input ms held. record { point = held.point; reaches = held.reaches; final = held.final; finishes = held.finishes; end = held.end; given = held.given; serves = held.serves; coming = held.coming; left = held.left }) s.told;
}

tallies_lent : {D : Type 0} (time : D → ℕ) (since : D → ℕ → List ℕ → Type 0) (faults : D → ℕ) (first store : Held D) (e : SessionEnd) (a b c d : GName) (clock : Option (List ℕ)) (old new : Shown)
    → TalliesAnswers time since faults first (lent a b old) e store clock (lent c d new) → TalliesAnswers time since faults first old e store clock new
tallies_lent time since faults first store e a b c d clock old new tallies input moments held =
    tallies input moments (record { point = held.point; reaches = held.reaches; final = held.final; finishes = held.finishes; end = held.end; given = held.given; serves = held.serves; coming = held.coming; left = held.left })

pub held_lent : {D : Type 0} (mean : DiskMeaning D) (moments moments' : Option (List ℕ)) (first store : Held D) (e : SessionEnd) (a b c d : GName) (old new : Shown)
    → IsSession (store_meaning mean.moment mean.since mean.faults) moments first (lent a b old) e store moments' (lent c d new)
    → TalliesAnswers mean.moment mean.since mean.faults first (lent a b old) e store moments' (lent c d new)
    → WasHeld mean first moments old e store moments' new
held_lent mean moments moments' first store e a b c d old new session tallies = record {
  session = session_lent (store_meaning mean.moment mean.since mean.faults) moments moments' first store e a b c d old new session;
  tallies = tallies_lent mean.moment mean.since mean.faults first store e a b c d moments' old new tallies;
}

abbrev first_of : GName → List GName → GName
first_of a [] = a
first_of a (b ∷ names) = b

abbrev second_of : GName → List GName → GName
second_of a [] = a
second_of a (b ∷ []) = a
second_of a (b ∷ c ∷ names) = c

-- a session leaves a link the ends that it borrowed
pub source_stays : (a b c d : GName) (old new : List GName) → (c ∷ d ∷ new) ≡ (a ∷ b ∷ old) → c ≡ a
source_stays a b c d old new same = ap (first_of a) same

pub sink_stays : (a b c d : GName) (old new : List GName) → (c ∷ d ∷ new) ≡ (a ∷ b ∷ old) → d ≡ b
sink_stays a b c d old new same = ap (second_of b) same

-- ---- what is left

begun_none : {D : Type 0} (faults : D → ℕ) (old new : Held D) → LeavesBegun faults old new → old.begun ≡ None → RestsUnless faults old.disks new.begun new.disks
begun_none faults old new (inl (inl none)) rests = inl none
begun_none faults old new (inl (inr same)) rests = inl (same ∙ rests)
begun_none faults old new (inr rose) rests = inr rose

became : {D : Type 0} (faults : D → ℕ) (old new : Held D) → StoreBecomes faults old new → GoesOn faults old new
became faults old new b = record { opening = b.opening; grows = b.grows; begun = begun_none faults old new b.begun; count = b.count }

pub left_by : {D : Type 0} (mean : DiskMeaning D) (first store : Held D) (status : ℕ) (done : Done D) → first.entries ≡ [] → first.begun ≡ None → StoreBecomes mean.faults first store → Stands mean store
    → LeavesStore status store done → IfSome done.store (IsLeft mean first.disks)
left_by mean first store status done none rests becomes stands leaves =
    rw leaves.store_is (left_behind mean first store none rests (became mean.faults first store becomes) stands)

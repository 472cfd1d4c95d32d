-- What a worker does: one link after the other is handed out, a session is held over it, and it is finished.
use Rattle.std.specs.Prelude.{◌≡◌, ℕ, ◌+◌, ◌<◌, ◌≤◌, true, List, [], ◌∷◌, ◌++◌, length, map, Option, Some, None, Result, Ok, Err, ◌⊎◌}
use Rattle.wfs_ends.specs.Ends.{Shown, GivesAll, GivesFront, Rose, last_count, capped}
use Rattle.wfs_ends.specs.declared.fault.OutOfMemory.{OutOfMemory}
use Rattle.reply_documents.specs.Refusals.{fixed_text}
use Rattle.service_doors.specs.Accepting.{Accepting, HandsOut, HasNoLink, HasFailed, with_finished}
use Rattle.service_session.specs.declared.ending.SessionEnd.{SessionEnd}
use Rattle.service_session.specs.declared.service.Service.{Ghosts as Meaning}
use Rattle.service_session.specs.Session.{IsSession, Becomes}
use Rattle.session_workers.specs.declared.ending.WorkerEnd.{WorkerEnd}
use Rattle.session_workers.specs.declared.ending.WorkerEnd.TheVariants as end
use Rattle.session_workers.specs.declared.visit.Next.{Next}
use Rattle.session_workers.specs.declared.visit.Next.TheVariants as next

-- where a worker stands between two links: the service, and the moments still to come, where the clock tells
pub record Stand (S : Type 0) : Type 0 where
  pub service : S
  pub moments : Option (List ℕ)

abbrev pub stand : {S : Type 0} → S → Option (List ℕ) → Stand S
stand service moments = record { service = service; moments = moments }

-- a link: what it showed when it was handed out, how the session over it ended, if there was memory for one, and what it showed
-- when it was finished
pub record Visit : Type 0 where
  pub before : Shown
  pub end : Result SessionEnd OutOfMemory
  pub after : Shown

-- That there is no memory was said: the refusal 27, which closes a session, was given, or a front of it and then the output failed. Nothing
-- was taken of the input.
abbrev pub SaysNoMemory : Shown → Shown → Type 0
SaysNoMemory before after = GivesAll before (fixed_text 27 true) after ⊎ GivesFront before (fixed_text 27 true) after

-- A session was held over a link, or there was no memory for one: then that was said, and the service and the clock were not touched.
abbrev pub IsVisit : {S : Type 0} → Meaning S → Stand S → Shown → Result SessionEnd OutOfMemory → Shown → Stand S → Type 0
IsVisit mean p before (Ok e) after q = IsSession mean p.moments p.service before e q.service q.moments after
IsVisit mean p before (Err fault) after q = SaysNoMemory before after × (q ≡ p)

-- some links were visited, each from where the one before it left the service and the clock
pub data Visits {S : Type 0} (mean : Meaning S) (p : Stand S) : List Visit → Stand S → Type 0 where
  none : Visits mean p [] p
  one_more : (vs : List Visit) (q : Stand S) (v : Visit) (r : Stand S) → Visits mean p vs q → IsVisit mean q v.before v.end v.after r → Visits mean p (vs ++ v ∷ []) r

-- ---- the acceptor

-- Links before the others, and behind them. An acceptor that does not tell still does not.
abbrev pub all_led_by : List Shown → Option (List Shown) → Option (List Shown)
all_led_by links None = None
all_led_by links (Some rest) = Some (links ++ rest)

abbrev pub all_followed_by : Option (List Shown) → List Shown → Option (List Shown)
all_followed_by None links = None
all_followed_by (Some done) links = Some (done ++ links)

-- The first links to come were handed out, and these were finished in the same order. Where no count stood at its last value, as
-- many are out as before, and the links are counted.
pub record Passes (old : Accepting) (visits : List Visit) (new : Accepting) : Type 0 where
  pub handed : old.left ≡ all_led_by (map (λ v. v.before) visits) new.left
  pub done : new.done ≡ all_followed_by old.done (map (λ v. v.after) visits)
  pub out : old.out < last_count → new.out ≡ old.out
  pub finished : old.finished ≤ last_count → new.finished ≡ capped (old.finished + length visits)

-- ---- a worker

-- how many links a worker has at most
abbrev pub most_links : Option ℕ → ℕ
most_links None = last_count
most_links (Some limit) = limit

-- Why a worker ended behind so many links: it had just as many as it may have; or fewer, and no link was left; or fewer, and the
-- acceptor failed.
abbrev pub HasEnded : WorkerEnd → Option ℕ → ℕ → Accepting → Accepting → Type 0
HasEnded end.LimitReached limit visited old new = (visited ≡ most_links limit) × (new.faults ≡ old.faults)
HasEnded end.NoMore limit visited old new = (visited < most_links limit) × (new.left ≡ Some []) × (new.faults ≡ old.faults)
HasEnded end.AcceptFault limit visited old new = (visited < most_links limit) × Rose old.faults new.faults

-- A worker's work: the links that its acceptor handed out, in order, were visited and finished, in that order, and then it ended.
-- What became of the service is said also where nothing tells.
pub record IsWorked {S : Type 0} (mean : Meaning S) (limit : Option ℕ) (p : Stand S) (old : Accepting) (e : WorkerEnd) (q : Stand S) (new : Accepting) : Type 0 where
  pub visits : List Visit
  pub visited : Visits mean p visits q
  pub passes : Passes old visits new
  pub ended : HasEnded e limit (length visits) old new
  pub becomes : Becomes mean p.service q.service

-- ---- one link

-- the next link was handed out, visited and finished
pub record Serves {S : Type 0} (mean : Meaning S) (p : Stand S) (old : Accepting) (q : Stand S) (new : Accepting) : Type 0 where
  pub visit : Visit
  pub visited : IsVisit mean p visit.before visit.end visit.after q
  pub out : Accepting
  pub handed : HandsOut old visit.before out
  pub finished : new ≡ with_finished out visit.after

-- what comes next of a worker
abbrev pub IsNext : {S : Type 0} → Meaning S → Stand S → Accepting → Next → Stand S → Accepting → Type 0
IsNext mean p old next.Served q new = Serves mean p old q new
IsNext mean p old next.NoLink q new = HasNoLink old new × (q ≡ p)
IsNext mean p old next.Failed q new = HasFailed old new × (q ≡ p)

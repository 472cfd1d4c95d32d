-- The answers of a session, one for each message that was judged, in their order.
use Rattle.std.specs.Prelude.{ℕ, List, [], ◌∷◌, ◌++◌, Option}
use Rattle.std.specs.List.{sum_by}
use Rattle.wfs_ends.specs.Ends.{Shown}
use Rattle.service_session.specs.declared.answered.Answered.{Answered}
use Rattle.service_session.specs.declared.answered.Answered.TheVariants as variant
use Rattle.service_session.specs.declared.ending.SessionEnd.{SessionEnd}
use Rattle.service_session.specs.declared.service.Service.{Ghosts as Meaning}
use Rattle.service_session.specs.Session.{Point, begun, Reaches, here, on, Final, Finishes, input_ended, input_cut, refused, answered, read_failed, line_failed, answer_failed, refusal_failed, no_memory, memory_failed, IsHeld}

-- up to a point
abbrev pub answers_to : {S : Type 0} (mean : Meaning S) (p q : Point S) → Reaches mean p q → List Answered
answers_to mean p q here = []
answers_to mean p q (on mid next before is) = answers_to mean p mid before ++ is.answer ∷ []

-- at the end: the answer that closed the session, or within which the output failed
abbrev pub answers_at : {S : Type 0} (mean : Meaning S) (p : Point S) (f : Final S) → Finishes mean p f → List Answered
answers_at mean p f (input_ended due next) = []
answers_at mean p f (input_cut due next) = []
answers_at mean p f (refused e due row next is_row) = []
answers_at mean p f (answered q is) = is.answer ∷ []
answers_at mean p f (read_failed taken rest due parts awaits) = []
answers_at mean p f (line_failed taken rest front parts plan begins) = []
answers_at mean p f (answer_failed closes q front is begins) = is.answer ∷ []
answers_at mean p f (refusal_failed e due row front next is_row begins) = []
answers_at mean p f (no_memory taken rest due parts plan) = []
answers_at mean p f (memory_failed taken rest due front parts plan begins) = []

-- all of them
abbrev pub answers_of : {S : Type 0} (mean : Meaning S) (input moments : List ℕ) (service : S) (old : Shown) (e : SessionEnd) (service' : S) (moments' : Option (List ℕ)) (new : Shown)
    → IsHeld mean input moments service old e service' moments' new → List Answered
answers_of mean input moments service old e service' moments' new held =
    answers_to mean (begun input moments service) held.point held.reaches ++ answers_at mean held.point held.final held.finishes

-- one for a store fault
abbrev pub store_fault : Answered → ℕ
store_fault variant.StoreFault = 1
store_fault (variant.Reply reply) = 0
store_fault variant.Full = 0
store_fault variant.OutOfMemory = 0

-- how many answers are store faults
abbrev pub store_faults : List Answered → ℕ
store_faults answers = sum_by store_fault answers

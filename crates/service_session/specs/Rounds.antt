-- What a round of a session does.
use Rattle.std.specs.Prelude.{◌≡◌, ℕ, ◌-◌, ◌==◌, ◌||◌, Bool, true, false, List, Option, Some, IfSome, Result, Ok, Err, slice_get}
use Rattle.wfs_ends.specs.Ends.{Given, Shown, GivesAll, GivesFront, later}
use Rattle.wfs_ends.specs.declared.fault.WriteFault.{WriteFault}
use Rattle.http_session.specs.declared.message.Message.{Message}
use Rattle.http_session.specs.Reading.{IsCalm}
use Rattle.reply_documents.specs.Refusals.{fixed_text}
use Rattle.service_session.specs.declared.answered.Answered.{Answered}
use Rattle.service_session.specs.declared.ending.SessionEnd.TheVariants as end
use Rattle.service_session.specs.declared.round.Round.{Round}
use Rattle.service_session.specs.declared.round.Round.TheVariants as round
use Rattle.service_session.specs.declared.service.Service.{Ghosts as Meaning}
use Rattle.service_session.specs.Answers.{answer_text}
use Rattle.service_session.specs.Session.{Point, Stays, HasCause, IsWritable, IsCalmBut, Becomes, IsAt, GoesOn, IsOver}

-- an answer was given, with whether it closes the session, or a front of it, and then the output failed
abbrev pub GivesAnswer : Result Bool WriteFault → Shown → List ℕ → Bool → Shown → Type 0
GivesAnswer (Ok closed) old text closes new = GivesAll old text new × (closed ≡ closes)
GivesAnswer (Err fault) old text closes new = GivesFront old text new

-- a message was judged, at the moment that the clock says where it tells, and answered
pub record Replies {S : Type 0} (mean : Meaning S) (service : S) (m : Message) (last : Bool) (moments : Option (List ℕ)) (old : Shown) (result : Result Bool WriteFault) (service' : S) (moments' : Option (List ℕ)) (new : Shown) : Type 0 where
  pub moment : ℕ
  pub now : IfSome moments (λ ms. slice_get ms 0 ≡ Some moment)
  pub answer : Answered
  pub judged : mean.judges service m last moment answer service'
  pub becomes : Becomes mean service service'
  pub gives : GivesAnswer result old (answer_text answer (mean.schema service) (m.close || last)) (m.close || last) new
  pub later : moments' ≡ later moments

-- what holds behind a round
abbrev pub HasGone : {S : Type 0} → Meaning S → Given → Point S → Round → List ℕ → Shown → Option (List ℕ) → S → ℕ → Type 0
HasGone mean first p round.On buffered shown moments service left = GoesOn mean first p buffered shown moments service left
HasGone mean first p (round.Over e) buffered shown moments service left = IsOver mean first p e shown moments service

abbrev pub RoundCause : Round → Bool → Shown → Shown → Type 0
RoundCause round.On last old new = last ≡ false
RoundCause (round.Over e) last old new = HasCause e old new

abbrev pub IsCalmRound : Round → Shown → Shown → Type 0
IsCalmRound round.On old new = IsCalm old new × IsWritable old new
IsCalmRound (round.Over e) old new = IsCalmBut e old new

-- a round: the last one goes on in no case
pub record IsRound {S : Type 0} (mean : Meaning S) (last : Bool) (old : List ℕ) (before : Shown) (moments : Option (List ℕ)) (service : S) (r : Round) (new : List ℕ) (after : Shown) (moments' : Option (List ℕ)) (service' : S) : Type 0 where
  pub stays : Stays before after
  pub cause : RoundCause r last before after
  pub calm : IsCalmRound r before after
  pub becomes : Becomes mean service service'
  pub told : (first : Given) (p : Point S) (left : ℕ) → (left == 1) ≡ last → IsAt first p old before moments service left → HasGone mean first p r new after moments' service' (left - 1)

-- what an answer comes to
abbrev pub round_of : Result Bool WriteFault → Round
round_of (Ok false) = round.On
round_of (Ok true) = round.Over end.Closed
round_of (Err fault) = round.Over end.WriteFault

-- what follows was refused by a row, or a front of that was given
abbrev pub IsRefused : ℕ → Shown → Round → Shown → Type 0
IsRefused row old (round.Over end.Unframed) new = GivesAll old (fixed_text row true) new
IsRefused row old (round.Over end.WriteFault) new = GivesFront old (fixed_text row true) new
IsRefused row old (round.Over end.Ended) new = ⊥
IsRefused row old (round.Over end.Closed) new = ⊥
IsRefused row old (round.Over end.Cut) new = ⊥
IsRefused row old (round.Over end.ReadFault) new = ⊥
IsRefused row old (round.Over end.NoMemory) new = ⊥
IsRefused row old round.On new = ⊥

-- that memory ran out was said, or a front of that was given
abbrev pub IsGivenUp : Shown → Round → Shown → Type 0
IsGivenUp old (round.Over end.NoMemory) new = GivesAll old (fixed_text 27 true) new
IsGivenUp old (round.Over end.WriteFault) new = GivesFront old (fixed_text 27 true) new
IsGivenUp old (round.Over end.Ended) new = ⊥
IsGivenUp old (round.Over end.Closed) new = ⊥
IsGivenUp old (round.Over end.Unframed) new = ⊥
IsGivenUp old (round.Over end.Cut) new = ⊥
IsGivenUp old (round.Over end.ReadFault) new = ⊥
IsGivenUp old round.On new = ⊥

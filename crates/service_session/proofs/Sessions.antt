-- A session, round by round.
use Rattle.std.proofs.Common.{◌≡◌, ℕ, ◌-◌, ◌<◌, false, List, [], Option, Some, None, refl, ◌∙◌, arith}
use Rattle.std.specs.Prelude.{◌==◌, IfSome}
use Rattle.wfs_ends.specs.Ends.{Shown}
use Rattle.wfs_ends.proofs.Given.{given_nil}
use Rattle.http_session.specs.Reading.{IsCalm}
use Rattle.service_session.specs.declared.ending.SessionEnd.{SessionEnd}
use Rattle.service_session.specs.declared.ending.SessionEnd.TheVariants as end
use Rattle.service_session.specs.declared.round.Round.TheVariants as round
use Rattle.service_session.specs.declared.service.Service.{Ghosts as Meaning}
use Rattle.service_session.specs.Session.{Point, begun, most_messages, Reaches, here, on, Stays, HasCause, IsWritable, Becomes, WhereTold, IsSession, IsAt}
use Rattle.service_session.specs.Rounds.{IsRound}

-- ---- what is told

if_map : {X : Type 0} {P Q : X → Type 0} (o : Option X) → ((x : X) → P x → Q x) → IfSome o P → IfSome o Q
if_map None f h = tt
if_map (Some x) f h = f x h

if_is : {X : Type 0} {P : X → Type 0} (o : Option X) → ((x : X) → o ≡ Some x → P x) → IfSome o P
if_is None f = tt
if_is (Some x) f = f x refl

pub told_map : (moments : Option (List ℕ)) (old : Shown) {P Q : List ℕ → List ℕ → Type 0} → ((input ms : List ℕ) → P input ms → Q input ms) → WhereTold moments old P → WhereTold moments old Q
told_map moments old f h = if_map moments (λ ms. if_map old.left (λ input. f input ms)) h

told_is : (moments : Option (List ℕ)) (old : Shown) {P : List ℕ → List ℕ → Type 0} → ((input ms : List ℕ) → old.left ≡ Some input → moments ≡ Some ms → P input ms) → WhereTold moments old P
told_is moments old f = if_is moments (λ ms is_ms. if_is old.left (λ input is_input. f input ms is_input is_ms))

-- ---- between two rounds

-- the point that a session has come to
pub record Stands {S : Type 0} (mean : Meaning S) (input ms : List ℕ) (first : S) (s0 : Shown) (buffered : List ℕ) (s : Shown) (moments : Option (List ℕ)) (service : S) (left : ℕ) : Type 0 where
  pub point : Point S
  pub reaches : Reaches mean (begun input ms first) point
  pub at : IsAt s0.given point buffered s moments service left

pub record UnderWay {S : Type 0} (mean : Meaning S) (c0 : Option (List ℕ)) (first : S) (s0 : Shown) (buffered : List ℕ) (s : Shown) (moments : Option (List ℕ)) (service : S) (left : ℕ) : Type 0 where
  pub some : 0 < left
  pub stays : Stays s0 s
  pub calm : IsCalm s0 s × IsWritable s0 s
  pub becomes : Becomes mean first service
  pub told : WhereTold c0 s0 (λ input ms. Stands mean input ms first s0 buffered s moments service left)

-- what always holds between a service before and after holds at once
pub stays_so : {S : Type 0} (mean : Meaning S) (service : S) → mean.leads service service → Becomes mean service service
stays_so mean service h = record { leads = h; schema = refl }

pub begins_session : {S : Type 0} (mean : Meaning S) (c0 : Option (List ℕ)) (first : S) (s0 : Shown) (buffered : List ℕ) → mean.leads first first → buffered ≡ [] → UnderWay mean c0 first s0 buffered s0 c0 first most_messages
begins_session mean c0 first s0 buffered leads e = record {
  some = omega arith;
  stays = record { takes = omega arith; puts = omega arith; place = refl };
  calm = (refl, refl);
  becomes = stays_so mean first leads;
  told = told_is c0 s0 (λ input ms is_input is_ms. record {
    point = begun input ms first;
    reaches = here;
    at = record { bytes = rw (e, is_input) refl; coming = is_ms; serves = refl; given = given_nil s0.given; remains = refl };
  });
}

not_one : (n : ℕ) → (n == 1) ≡ false → 0 < n → 0 < n - 1
not_one n e some = grind (arith, e, some)

stays_twice : (s0 s1 s2 : Shown) → Stays s0 s1 → Stays s1 s2 → Stays s0 s2
stays_twice s0 s1 s2 a b = record { takes = omega (arith, a.takes, b.takes); puts = omega (arith, a.puts, b.puts); place = b.place ∙ a.place }

cause_before : (e : SessionEnd) (s0 s1 s2 : Shown) → Stays s0 s1 → HasCause e s1 s2 → HasCause e s0 s2
cause_before end.ReadFault s0 s1 s2 a c = omega (arith, a.takes, c)
cause_before end.WriteFault s0 s1 s2 a c = omega (arith, a.puts, c)
cause_before end.Ended s0 s1 s2 a c = tt
cause_before end.Closed s0 s1 s2 a c = tt
cause_before end.Unframed s0 s1 s2 a c = tt
cause_before end.Cut s0 s1 s2 a c = tt
cause_before end.NoMemory s0 s1 s2 a c = tt

module _ {S : Type 0} (mean : Meaning S) (follows : (x y z : S) → mean.leads x y → mean.leads y z → mean.leads x z) (c0 : Option (List ℕ)) (first : S) (s0 : Shown) (b : List ℕ) (s : Shown) (c : Option (List ℕ)) (service : S) (left : ℕ) (way : UnderWay mean c0 first s0 b s c service left) (b' : List ℕ) (s' : Shown) (c' : Option (List ℕ)) (service' : S) where
  became : Becomes mean service service' → Becomes mean first service'
  became h = record { leads = follows first service service' way.becomes.leads h.leads; schema = h.schema ∙ way.becomes.schema }

  pub goes_on : IsRound mean (left == 1) b s c service round.On b' s' c' service' → UnderWay mean c0 first s0 b' s' c' service' (left - 1)
  goes_on r = record {
    some = not_one left r.cause way.some;
    stays = stays_twice s0 s s' way.stays r.stays;
    calm = (r.calm.0 ∙ way.calm.0, r.calm.1 ∙ way.calm.1);
    becomes = became r.becomes;
    told = told_map c0 s0 (λ input ms stands.
        let went = r.told s0.given stands.point left refl stands.at in
        record { point = went.to; reaches = on stands.point went.to stands.reaches went.answered; at = went.at }) way.told;
  }

  pub is_over : (e : SessionEnd) → IsRound mean (left == 1) b s c service (round.Over e) b' s' c' service' → IsSession mean c0 first s0 e service' c' s'
  is_over e r = record {
    cause = cause_before e s0 s s' way.stays r.cause;
    calm = ((λ other. r.calm.0 other ∙ way.calm.0), λ other. r.calm.1 other ∙ way.calm.1);
    place = (stays_twice s0 s s' way.stays r.stays).place;
    becomes = became r.becomes;
    told = told_map c0 s0 (λ input ms stands.
        let over = r.told s0.given stands.point left refl stands.at in
        record { point = stands.point; reaches = stands.reaches; final = over.final; finishes = over.finishes; end = over.end; given = over.given; serves = over.serves; coming = over.coming; left = over.left }) way.told;
  }

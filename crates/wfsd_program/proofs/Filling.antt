-- Workers that are given what was made for them.
use Rattle.std.proofs.Common.{◌≡◌, ℕ, ◌+◌, List, [], ◌∷◌, ◌++◌, length, map, Option, Some, sym, ap, ◌∙◌, subst, arith, append_assoc, length-append}
use Rattle.std.specs.Prelude.{All}
use Rattle.std.proofs.lemmas.List.{length-map, map-append}
use Rattle.std.proofs.lemmas.List.Elements.{All-pop, All-push}
use Rattle.std.proofs.lemmas.Simd.{map-map}
use Rattle.service_doors.specs.Accepting.{Accepting}
use Rattle.service_doors.specs.Listening.{Listening, Opens, asking}
use Rattle.service_session.specs.declared.gate.NoGate.{NoGate}
use Rattle.store_server.specs.declared.slot.Slot.{Slot}
use Rattle.wfsd_program.specs.declared.places.Places.{Places}
use Rattle.wfsd_program.specs.declared.words.ServeWords.{ServeWords}
use Rattle.wfsd_program.specs.Serving.{AreFor, AreReady}

-- ---- one worker more

pub split_more : {A : Type 0} (before left rest all : List A) (a : A) → left ≡ a ∷ rest → before ++ left ≡ all → (before ++ a ∷ []) ++ rest ≡ all
split_more {A} before left rest all a is split = append_assoc before (a ∷ []) rest ∙ ap (λ (l : List A). before ++ l) (sym is) ∙ split

pub filled : {A C : Type 0} (slots more : List (Slot A C NoGate)) (slot : Slot A C NoGate) (acceptors : List A) → more ≡ slots ++ slot ∷ [] → map (λ (s : Slot A C NoGate). s.acceptor) slots ≡ acceptors
    → map (λ (s : Slot A C NoGate). s.acceptor) more ≡ acceptors ++ slot.acceptor ∷ []
filled {A} {C} slots more slot acceptors is are =
    ap (map (λ (s : Slot A C NoGate). s.acceptor)) is
    ∙ map-append (λ (s : Slot A C NoGate). s.acceptor) slots (slot ∷ [])
    ∙ ap (λ (l : List A). l ++ slot.acceptor ∷ []) are

-- one clock less, and one acceptor more
pub counted : {A C : Type 0} (clocks less : List C) (clock : C) (acceptors : List A) (a : A) (n : ℕ) → clocks ≡ less ++ clock ∷ [] → length clocks + length acceptors ≡ n
    → length less + length (acceptors ++ a ∷ []) ≡ n
counted clocks less clock acceptors a n is count = omega (arith, count, ap length is, length-append less (clock ∷ []), length-append acceptors (a ∷ []))

-- a clock that is taken for one more worker
pub taken : {A C : Type 0} (moments : C → Option (List ℕ)) (now : Option (List ℕ)) (clocks less : List C) (slots more : List (Slot A C NoGate)) (slot : Slot A C NoGate) → clocks ≡ less ++ slot.clock ∷ []
    → more ≡ slots ++ slot ∷ [] → All (λ (c : C). moments c ≡ now) clocks → All (λ (s : Slot A C NoGate). moments s.clock ≡ now) slots
    → All (λ (c : C). moments c ≡ now) less × All (λ (s : Slot A C NoGate). moments s.clock ≡ now) more
taken {A} {C} moments now clocks less slots more slot is are left filled =
    let popped = All-pop (λ (c : C). moments c ≡ now) clocks less (Some slot.clock) is left in
    (popped.0, rw are (All-push (λ (s : Slot A C NoGate). moments s.clock ≡ now) slots slot filled popped.1))

-- ---- all workers

module _ {A C : Type 0} (accepting : A → Accepting) (moments : C → Option (List ℕ)) where
  -- there are as many acceptors as workers
  pub many : (acceptors : List A) (n : ℕ) → length (map accepting acceptors) ≡ n → length acceptors ≡ n
  many acceptors n is = sym (length-map acceptors accepting) ∙ is

  -- what was made for the workers is enough for the acceptors
  pub for_these : (acceptors : List A) (n : ℕ) (clock : Option (List ℕ)) (places : Places A C) → length (map accepting acceptors) ≡ n → AreFor moments n clock places
      → AreFor moments (length acceptors) clock places
  for_these acceptors n clock places is are = subst (λ (m : ℕ). AreFor moments m clock places) (sym (many acceptors n is)) are

  -- each acceptor has its worker
  pub as_many : (slots : List (Slot A C NoGate)) (acceptors : List A) (n : ℕ) → map (λ (s : Slot A C NoGate). s.acceptor) slots ≡ acceptors → length (map accepting acceptors) ≡ n → length slots ≡ n
  as_many slots acceptors n are is = sym (length-map slots (λ (s : Slot A C NoGate). s.acceptor)) ∙ ap length are ∙ many acceptors n is

  -- workers that are ready
  pub ready : (wanted : ServeWords) (clock : Option (List ℕ)) (old new : Listening) (slots : List (Slot A C NoGate)) (acceptors : List A) (address : List ℕ) → address ≡ wanted.listen
      → Opens old (asking address wanted.workers) (map accepting acceptors) new → map (λ (s : Slot A C NoGate). s.acceptor) slots ≡ acceptors
      → All (λ (s : Slot A C NoGate). moments s.clock ≡ clock) slots → AreReady accepting moments wanted clock old slots new
  ready wanted clock old new slots acceptors address here opens are twins = record {
    opens = subst (λ (l : List Accepting). Opens old (asking wanted.listen wanted.workers) l new) shown (subst (λ (a : List ℕ). Opens old (asking a wanted.workers) (map accepting acceptors) new) here opens);
    twins = twins;
  }
    where
      shown : map accepting acceptors ≡ map (λ (s : Slot A C NoGate). accepting s.acceptor) slots
      shown = ap (map accepting) (sym are) ∙ map-map accepting (λ (s : Slot A C NoGate). s.acceptor) slots

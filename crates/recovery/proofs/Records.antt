-- The records of a side, one after the other.
use Rattle.std.proofs.Common.{◌≡◌, ◌≤◌, ℕ, zero, suc, ◌+◌, ◌-◌, ◌<◌, List, [], ◌∷◌, ◌++◌, length, take, drop, refl, sym, ◌∙◌, ap, arith, length-drop, Option, None, Some, Err, nat_lt, ◌==◌, Bool, true, false, if◌then◌else◌}
use Rattle.std.proofs.lemmas.Bool.Decides.{nat_tests}
use Rattle.std.specs.Int.{from_be_bytes, w32}
use Rattle.feature_journal.specs.Recover.{records_at, and_then, body_at, body_with, is_open}
use Rattle.recovery.specs.Replay.{Verdict, Answers}
use Rattle.recovery.specs.Replay.Verdict.{accepted, bad_bytes, not_of_schema}
use Rattle.recovery.specs.declared.replay.ReplayFault.{ReplayFault}
use Rattle.recovery.specs.declared.replay.ReplayFault.TheVariants as replay_faults
use Rattle.recovery.specs.declared.fault.RecoverFault.TheVariants as faults
use Rattle.recovery.specs.Outcome.{Judge, judged, judged_pair, by_verdict, not_a_journal}
use Rattle.recovery.specs.Outcome.Outcome.{refused, found}
use Rattle.recovery.specs.declared.fault.RecoverFault.TheVariants.{Full}
use Rattle.recovery.specs.Walk.{Opens, OpensWhole, Refuses, fault_from, left}

-- the parts of a whole record behind its gate
pub record Parts (n : ℕ) (bytes body rest : List ℕ) : Type 0 where
  pub room : 5 + n ≤ length bytes
  pub body_is : body ≡ take n (drop 4 bytes)
  pub rest_is : rest ≡ drop (4 + n) bytes

body_in : Option (List ℕ × List ℕ) → List ℕ
body_in None = []
body_in (Some x) = x.0

rest_in : Option (List ℕ × List ℕ) → List ℕ
rest_in None = []
rest_in (Some x) = x.1

parts_at : (n : ℕ) (bytes body rest : List ℕ) (x : Bool) → nat_lt (length bytes) (5 + n) ≡ x → if◌then◌else◌ {A = Option (List ℕ × List ℕ)} x None (Some (take n (drop 4 bytes), drop (4 + n) bytes)) ≡ Some (body, rest) → Parts n bytes body rest
unfolding body_in rest_in
parts_at n bytes body rest true e is = absurd cc
parts_at n bytes body rest false e is = record { room = grind (arith, nat_tests); body_is = sym (ap body_in is); rest_is = sym (ap rest_in is) }

pub parts_with : (n : ℕ) (bytes body rest : List ℕ) → body_with n bytes ≡ Some (body, rest) → Parts n bytes body rest
unfolding body_with
parts_with n bytes body rest is = parts_at n bytes body rest (nat_lt (length bytes) (5 + n)) refl is

pub parts : (bytes body rest : List ℕ) → body_at bytes ≡ Some (body, rest) → Parts (from_be_bytes w32 (take 4 bytes)) bytes body rest
unfolding body_at
parts bytes body rest is = parts_with (from_be_bytes w32 (take 4 bytes)) bytes body rest is

shorter : (bytes body rest : List ℕ) → body_at bytes ≡ Some (body, rest) → length rest ≤ length bytes
shorter bytes body rest is =
    let p = parts bytes body rest is in
    let n : ℕ = from_be_bytes w32 (take 4 bytes) in
    omega (arith, ap length p.rest_is, length-drop (4 + n) bytes)

by_body : (m n : ℕ) (all bytes : List ℕ) (o : Option (List ℕ × List ℕ)) → body_at bytes ≡ o → ((x : List ℕ) → length x ≤ length bytes → records_at m x ≡ records_at n x) → and_then (records_at m) all o ≡ and_then (records_at n) all o
by_body m n all bytes None is same = refl
by_body m n all bytes (Some x) is same = let e : records_at m x.1 ≡ records_at n x.1 = same x.1 (shorter bytes x.0 x.1 is) in ap (λ (y : List (List ℕ) × List ℕ). (x.0 ∷ y.0, y.1)) e

-- more fuel than bytes reads no more
pub records_more : (m n : ℕ) (x : List ℕ) → length x ≤ m → length x ≤ n → records_at m x ≡ records_at n x
unfolding records_at
records_more zero zero x le_m le_n = refl
records_more zero (suc n) [] le_m le_n = refl
records_more zero (suc n) (gate ∷ bytes) le_m le_n = absurd (omega arith)
records_more (suc m) zero [] le_m le_n = refl
records_more (suc m) zero (gate ∷ bytes) le_m le_n = absurd (omega arith)
records_more (suc m) (suc n) [] le_m le_n = refl
records_more (suc m) (suc n) (gate ∷ bytes) le_m le_n =
    ap (λ (y : List (List ℕ) × List ℕ). if gate == 1 then y else ([], gate ∷ bytes))
    (by_body m n (gate ∷ bytes) bytes (body_at bytes) refl (λ x le. records_more m n x (omega (arith, le, le_m)) (omega (arith, le, le_n))))

records_end : (n : ℕ) (d : List ℕ) → is_open d ≡ false → records_at n d ≡ ([], d)
unfolding records_at
records_end zero d shut = refl
records_end (suc n) [] shut = refl
records_end (suc n) (gate ∷ bytes) shut = rw shut refl

records_torn : (n : ℕ) (more : List ℕ) → body_at more ≡ None → records_at n (1 ∷ more) ≡ ([], 1 ∷ more)
unfolding records_at
records_torn zero more none = refl
records_torn (suc n) more none = ap (and_then (records_at n) (1 ∷ more)) none

records_whole : (n : ℕ) (more body rest : List ℕ) → length (1 ∷ more) ≤ n → body_at more ≡ Some (body, rest) → records_at n (1 ∷ more) ≡ (body ∷ (records_at n rest).0, (records_at n rest).1)
unfolding records_at
records_whole zero more body rest le is = absurd (omega arith)
records_whole (suc n) more body rest le is =
    ap (and_then (records_at n) (1 ∷ more)) is
    ∙ ap (λ (y : List (List ℕ) × List ℕ). (body ∷ y.0, y.1)) (records_more n (suc n) rest (omega (arith, le, shorter more body rest is)) (omega (arith, le, shorter more body rest is)))

module _ (judge : Judge) (limit : ℕ) (second : Bool) (generation : ℕ) (c : List ℕ) where
  pub left_end : (gate : ℕ) (taken : List (List ℕ)) → is_open (drop gate c) ≡ false → left judge limit second generation c gate taken ≡ found second generation gate taken
  unfolding judged
  left_end gate taken shut =
      let place : gate + 1 - 1 ≡ gate = omega arith in
      ap (judged_pair judge limit second generation (gate + 1) taken) (records_end (length c) (drop gate c) shut) ∙ rw (shut, place) refl

  pub left_torn : (gate : ℕ) (more : List ℕ) (taken : List (List ℕ)) → drop gate c ≡ 1 ∷ more → body_at more ≡ None → left judge limit second generation c gate taken ≡ not_a_journal second gate taken
  unfolding judged
  left_torn gate more taken is none =
      let place : gate + 1 - 1 ≡ gate = omega arith in
      ap (judged_pair judge limit second generation (gate + 1) taken) (ap (records_at (length c)) is ∙ records_torn (length c) more none) ∙ rw place refl

  first_of : (gate size : ℕ) (o : Opens gate size c) → records_at (length c) (drop gate c) ≡ (o.body ∷ (records_at (length c) o.rest).0, (records_at (length c) o.rest).1)
  first_of gate size o = ap (records_at (length c)) o.is ∙ records_whole (length c) o.more o.body o.rest (omega (arith, ap length o.is, length-drop gate c)) o.whole

  pub left_full : (gate size : ℕ) (taken : List (List ℕ)) → Opens gate size c → limit < gate + 6 + size → left judge limit second generation c gate taken ≡ refused (Full (gate + 6 + size)) taken
  unfolding judged
  left_full gate size taken o over =
      let sum : gate + 1 + 5 + length o.body ≡ gate + 6 + size = omega (arith, o.size_is) in
      let test : nat_lt limit (gate + 6 + size) ≡ true = grind (arith, nat_tests) in
      ap (judged_pair judge limit second generation (gate + 1) taken) (first_of gate size o) ∙ rw (sum, test) refl

  pub left_next : (gate size : ℕ) (taken : List (List ℕ)) (o : Opens gate size c) → o.rest ≡ drop (gate + 5 + size) c → gate + 6 + size ≤ limit
      → left judge limit second generation c gate taken ≡ by_verdict (judge taken o.body) second gate taken (left judge limit second generation c (gate + 5 + size) (taken ++ o.body ∷ []))
  unfolding judged
  left_next gate size taken o rest_is fits =
      let sum : gate + 1 + 5 + length o.body ≡ gate + 5 + size + 1 = omega (arith, o.size_is) in
      let test : nat_lt limit (gate + 5 + size + 1) ≡ false = grind (arith, nat_tests) in
      let place : gate + 1 - 1 ≡ gate = omega arith in
      ap (judged_pair judge limit second generation (gate + 1) taken) (first_of gate size o)
      ∙ rw (sum, test, place) (ap (λ (l : List ℕ). by_verdict (judge taken o.body) second gate taken (judged_pair judge limit second generation (gate + 5 + size + 1) (taken ++ o.body ∷ []) (records_at (length c) l))) rest_is)

  -- what a turn comes to, where the record is taken and where it is not
  pub turned : (gate size : ℕ) (taken new : List (List ℕ)) (body bytes : List ℕ) → OpensWhole size gate bytes c → gate + 6 + size ≤ limit → body ≡ take size (drop (gate + 5) bytes) → judge taken body ≡ accepted → new ≡ taken ++ body ∷ []
      → left judge limit second generation c gate taken ≡ left judge limit second generation c (gate + 5 + size) new
  turned gate size taken new body bytes o fits is took new_is =
      let same : o.opens.body ≡ body = o.body ∙ sym is in
      left_next gate size taken o.opens o.rest fits
      ∙ ap (λ (x : List ℕ). by_verdict (judge taken x) second gate taken (left judge limit second generation c (gate + 5 + size) (taken ++ x ∷ []))) same
      ∙ ap (λ (v : Verdict). by_verdict v second gate taken (left judge limit second generation c (gate + 5 + size) (taken ++ body ∷ []))) took
      ∙ ap (left judge limit second generation c (gate + 5 + size)) (sym new_is)

  judged_as : (gate size : ℕ) (taken : List (List ℕ)) (body bytes : List ℕ) (v : Verdict) → OpensWhole size gate bytes c → gate + 6 + size ≤ limit → body ≡ take size (drop (gate + 5) bytes) → judge taken body ≡ v
      → left judge limit second generation c gate taken ≡ by_verdict v second gate taken (left judge limit second generation c (gate + 5 + size) (taken ++ body ∷ []))
  judged_as gate size taken body bytes v o fits is verdict_is =
      let same : o.opens.body ≡ body = o.body ∙ sym is in
      left_next gate size taken o.opens o.rest fits
      ∙ ap (λ (x : List ℕ). by_verdict (judge taken x) second gate taken (left judge limit second generation c (gate + 5 + size) (taken ++ x ∷ []))) same
      ∙ ap (λ (w : Verdict). by_verdict w second gate taken (left judge limit second generation c (gate + 5 + size) (taken ++ body ∷ []))) verdict_is

  pub not_taken : (fault : ReplayFault) (gate size number : ℕ) (taken new : List (List ℕ)) (body bytes : List ℕ) → OpensWhole size gate bytes c → gate + 6 + size ≤ limit → body ≡ take size (drop (gate + 5) bytes) → Answers (Err fault) (judge taken body) → new ≡ taken → number ≡ length taken
      → Refuses (fault_from fault (record { second_side = second; at = gate }) number) (left judge limit second generation c gate taken) new
  not_taken replay_faults.BadBytes gate size number taken new body bytes o fits is verdict_is same count =
      judged_as gate size taken body bytes bad_bytes o fits is verdict_is ∙ ap (not_a_journal second gate) (sym same)
  not_taken replay_faults.NotOfSchema gate size number taken new body bytes o fits is verdict_is same count =
      judged_as gate size taken body bytes not_of_schema o fits is verdict_is ∙ ap (λ (n : ℕ). refused (faults.NotOfSchema n) taken) (sym count) ∙ ap (refused (faults.NotOfSchema number)) (sym same)
  not_taken replay_faults.OutOfMemory gate size number taken new body bytes o fits is verdict_is same count = tt

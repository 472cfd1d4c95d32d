-- The outcome is what the journal's definition recovers.
use Rattle.std.proofs.Common.{◌≡◌, ◌≤◌, ℕ, zero, suc, ◌+◌, ◌-◌, List, [], ◌∷◌, ◌++◌, length, take, drop, refl, sym, ◌∙◌, ap, arith, append_assoc, length-append, length-drop, Option, None, Some, nat_lt, ◌==◌, ◌&&◌, Bool, true, false, cond, if◌then◌else◌}
use Rattle.std.proofs.lemmas.Bool.Decides.{nat_tests}
use Rattle.std.proofs.lemmas.List.{length-take-le, append-nil}
use Rattle.std.specs.List.{flat_map}
use Rattle.std.specs.Int.{from_be_bytes, w32}
use Rattle.feature_journal.specs.Side.{opened}
use Rattle.feature_journal.specs.Recover.{records_at, and_then, body_at, is_open, is_able, foreign_at, current_of, generation_of, tail_at, read_side, ended, recover}
use Rattle.feature_journal.specs.Recover as journal
use Rattle.feature_journal.specs.Recover.{Recovered as recovered}
use Rattle.feature_journal.proofs.Pairs.{length-framed}
use Rattle.feature_journal.specs.Whole.{Says}
use Rattle.feature_journal.specs.Nothing.{Unmade}
use Rattle.feature_journal.proofs.Recovered.{says_recovered, unmade_recovered}
use Rattle.recovery.specs.Replay.{Verdict}
use Rattle.recovery.specs.Replay.Verdict.{accepted, bad_bytes, not_of_schema}
use Rattle.recovery.specs.Outcome.{Judge, judged, judged_pair, by_verdict, not_a_journal, of_current, unless_foreign, outcome_of}
use Rattle.recovery.specs.Outcome.Outcome.{refused, no_side, found}
use Rattle.recovery.specs.declared.fault.RecoverFault.TheVariants.{Full}
use Rattle.recovery.proofs.Records.{parts}

-- what is known of records that were all taken
record AllTaken (second s : Bool) (generation g so_far p : ℕ) (taken bodies t : List (List ℕ)) (rest : List ℕ) : Type 0 where
  pub second_is : s ≡ second
  pub generation_is : g ≡ generation
  pub taken_is : t ≡ taken ++ bodies
  pub place : p + 1 ≡ so_far + length (flat_map opened bodies)
  pub shut : is_open rest ≡ false

ended_all : (second s : Bool) (generation g so_far p : ℕ) (taken t : List (List ℕ)) (rest : List ℕ) (x : Bool) → 1 ≤ so_far → is_open rest ≡ x → (if x then not_a_journal second (so_far - 1) taken else found second generation (so_far - 1) taken) ≡ found s g p t → AllTaken second s generation g so_far p taken [] t rest
ended_all second s generation g so_far p taken t rest true some e is = absurd cc
ended_all second s generation g so_far p taken t rest false some e is =
    let place : so_far - 1 ≡ p = cc in
    let all : taken ≡ t = cc in
    record { second_is = cc; generation_is = cc; taken_is = sym all ∙ sym (append-nil taken); place = omega (arith, some, place); shut = e }

judged_all : (judge : Judge) (limit : ℕ) (second : Bool) (generation so_far : ℕ) (taken bodies : List (List ℕ)) (rest : List ℕ) (s : Bool) (g p : ℕ) (t : List (List ℕ)) → 1 ≤ so_far
    → judged judge limit second generation so_far taken bodies rest ≡ found s g p t → AllTaken second s generation g so_far p taken bodies t rest
unfolding judged
judged_all judge limit second generation so_far taken [] rest s g p t some is = ended_all second s generation g so_far p taken t rest (is_open rest) some refl is
judged_all judge limit second generation so_far taken (body ∷ bodies) rest s g p t some is =
    by_limit (nat_lt limit (so_far + 5 + length body)) (judge taken body) is (λ e. judged_all judge limit second generation (so_far + 5 + length body) (taken ++ body ∷ []) bodies rest s g p t (omega arith) e)
  where
    more : AllTaken second s generation g (so_far + 5 + length body) p (taken ++ body ∷ []) bodies t rest → AllTaken second s generation g so_far p taken (body ∷ bodies) t rest
    more a = record {
      second_is = a.second_is;
      generation_is = a.generation_is;
      taken_is = a.taken_is ∙ append_assoc taken (body ∷ []) bodies;
      place = omega (arith, a.place, length-append (opened body) (flat_map opened bodies), length-framed body);
      shut = a.shut;
    }

    by_limit : (x : Bool) (v : Verdict) → (if x then refused (Full (so_far + 5 + length body)) taken else by_verdict v second (so_far - 1) taken (judged judge limit second generation (so_far + 5 + length body) (taken ++ body ∷ []) bodies rest)) ≡ found s g p t
        → (judged judge limit second generation (so_far + 5 + length body) (taken ++ body ∷ []) bodies rest ≡ found s g p t → AllTaken second s generation g (so_far + 5 + length body) p (taken ++ body ∷ []) bodies t rest)
        → AllTaken second s generation g so_far p taken (body ∷ bodies) t rest
    by_limit true v e ih = absurd cc
    by_limit false accepted e ih = more (ih e)
    by_limit false bad_bytes e ih = absurd cc
    by_limit false not_of_schema e ih = absurd cc

-- how long the records are that were read
pub record Lengths (d : List ℕ) (read : List (List ℕ) × List ℕ) : Type 0 where
  pub sum : length d ≡ length (flat_map opened read.0) + length read.1

lengths_next : (m : ℕ) (bytes : List ℕ) (o : Option (List ℕ × List ℕ)) → body_at bytes ≡ o → ((x : List ℕ) → Lengths x (records_at m x)) → Lengths (1 ∷ bytes) (and_then (records_at m) (1 ∷ bytes) o)
lengths_next m bytes None is all = record { sum = omega arith }
lengths_next m bytes (Some x) is all =
    let p = parts bytes x.0 x.1 is in
    let n : ℕ = from_be_bytes w32 (take 4 bytes) in
    let later = (all x.1).sum in
    let body : length x.0 ≡ n = ap length p.body_is ∙ length-take-le n (drop 4 bytes) (omega (arith, p.room, length-drop 4 bytes)) in
    record { sum = omega (arith, p.room, ap length p.rest_is, length-drop (4 + n) bytes, later, body, length-append (opened x.0) (flat_map opened (records_at m x.1).0), length-framed x.0) }

lengths_gate : (m gate : ℕ) (bytes : List ℕ) (x : Bool) → (gate == 1) ≡ x → ((y : List ℕ) → Lengths y (records_at m y)) → Lengths (gate ∷ bytes) (if x then and_then (records_at m) (gate ∷ bytes) (body_at bytes) else ([], gate ∷ bytes))
lengths_gate m gate bytes false e all = record { sum = omega arith }
lengths_gate m gate bytes true e all =
    let one : gate ≡ 1 = grind (arith, nat_tests) in
    rw one (lengths_next m bytes (body_at bytes) refl all)

pub lengths : (n : ℕ) (d : List ℕ) → Lengths d (records_at n d)
unfolding records_at
lengths zero d = record { sum = omega arith }
lengths (suc n) [] = record { sum = omega arith }
lengths (suc n) (gate ∷ bytes) = lengths_gate n gate bytes (gate == 1) refl (lengths n)

-- what is known of two sides whose records were all taken
pub record Agreed (a b : List ℕ) (s : Bool) (g p : ℕ) (t : List (List ℕ)) : Type 0 where
  pub own_a : foreign_at a ≡ None
  pub own_b : foreign_at b ≡ None
  pub current : current_of a b ≡ Some s
  pub generation_is : g ≡ generation_of (cond s b a)
  pub bodies_are : t ≡ (records_at (length (cond s b a)) (drop 16 (cond s b a))).0
  pub place : p + 1 ≡ 17 + length (flat_map opened t)
  pub shut : is_open (records_at (length (cond s b a)) (drop 16 (cond s b a))).1 ≡ false

side_all : (judge : Judge) (limit : ℕ) (second : Bool) (c : List ℕ) (s : Bool) (g p : ℕ) (t : List (List ℕ)) (x : Bool) → (if x then refused (Full 17) [] else judged_pair judge limit second (generation_of c) 17 [] (records_at (length c) (drop 16 c))) ≡ found s g p t
    → AllTaken second s (generation_of c) g 17 p [] (records_at (length c) (drop 16 c)).0 t (records_at (length c) (drop 16 c)).1
side_all judge limit second c s g p t true is = absurd cc
side_all judge limit second c s g p t false is = judged_all judge limit second (generation_of c) 17 [] (records_at (length c) (drop 16 c)).0 (records_at (length c) (drop 16 c)).1 s g p t (omega arith) is

by_current : (judge : Judge) (limit : ℕ) (a b : List ℕ) (s : Bool) (g p : ℕ) (t : List (List ℕ)) (o : Option Bool) → foreign_at a ≡ None → foreign_at b ≡ None → current_of a b ≡ o → of_current judge limit a b o ≡ found s g p t → Agreed a b s g p t
by_current judge limit a b s g p t None own_a own_b current is = absurd cc
by_current judge limit a b s g p t (Some second) own_a own_b current is =
    let all = side_all judge limit second (cond second b a) s g p t (nat_lt limit 17) is in
    let same = all.second_is in
    record {
      own_a = own_a;
      own_b = own_b;
      current = current ∙ ap Some (sym same);
      generation_is = all.generation_is ∙ ap (λ (x : Bool). generation_of (cond x b a)) (sym same);
      bodies_are = all.taken_is ∙ ap (λ (x : Bool). (records_at (length (cond x b a)) (drop 16 (cond x b a))).0) (sym same);
      place = all.place ∙ ap (λ (l : List (List ℕ)). 17 + length (flat_map opened l)) (sym all.taken_is);
      shut = ap (λ (x : Bool). is_open (records_at (length (cond x b a)) (drop 16 (cond x b a))).1) same ∙ all.shut;
    }

by_foreign : (judge : Judge) (limit : ℕ) (a b : List ℕ) (s : Bool) (g p : ℕ) (t : List (List ℕ)) (x y : Option ℕ) → foreign_at a ≡ x → foreign_at b ≡ y → unless_foreign x y (of_current judge limit a b (current_of a b)) ≡ found s g p t → Agreed a b s g p t
by_foreign judge limit a b s g p t (Some at) y own_a own_b is = absurd cc
by_foreign judge limit a b s g p t None (Some at) own_a own_b is = absurd cc
by_foreign judge limit a b s g p t None None own_a own_b is = by_current judge limit a b s g p t (current_of a b) own_a own_b refl is

pub agreed : (judge : Judge) (limit : ℕ) (a b : List ℕ) (s : Bool) (g p : ℕ) (t : List (List ℕ)) → outcome_of judge limit a b ≡ found s g p t → Agreed a b s g p t
unfolding outcome_of
agreed judge limit a b s g p t is = by_foreign judge limit a b s g p t (foreign_at a) (foreign_at b) refl refl is

long_able : (c : List ℕ) (x y z : Bool) → nat_lt 16 (length c) ≡ x → ((x && y) && z) ≡ true → 16 ≤ length c
long_able c true y z e is = grind (arith, nat_tests)
long_able c false y z e is = absurd cc

able_long : (c : List ℕ) → is_able c ≡ true → 16 ≤ length c
unfolding is_able
able_long c able = long_able c (nat_lt 16 (length c)) _ _ refl able

able_by : (a b : List ℕ) (s x y z : Bool) → is_able a ≡ x → is_able b ≡ y → (if x then (if y && z then Some true else Some false) else if y then Some true else None) ≡ Some s → is_able (cond s b a) ≡ true
able_by a b true x true z at_a at_b is = at_b
able_by a b true true false z at_a at_b is = absurd cc
able_by a b true false false z at_a at_b is = absurd cc
able_by a b false true y z at_a at_b is = at_a
able_by a b false false true z at_a at_b is = absurd cc
able_by a b false false false z at_a at_b is = absurd cc

-- the current side has its head
pub current_long : (a b : List ℕ) (s : Bool) → current_of a b ≡ Some s → 16 ≤ length (cond s b a)
unfolding current_of
current_long a b s is = able_long (cond s b a) (able_by a b s (is_able a) (is_able b) (nat_lt (generation_of a) (generation_of b)) refl refl is)

pub recovers_found : (a b : List ℕ) (s : Bool) (g p : ℕ) (t : List (List ℕ)) → Agreed a b s g p t → recover a b ≡ recovered.found s g t (p + 1) (tail_at (records_at (length (cond s b a)) (drop 16 (cond s b a))).1)
unfolding recover
recovers_found a b s g p t w =
    let long = current_long a b s w.current in
    let c : List ℕ = cond s b a in
    let read : List (List ℕ) × List ℕ = records_at (length c) (drop 16 c) in
    let sum = (lengths (length c) (drop 16 c)).sum in
    let same : length (flat_map opened read.0) ≡ length (flat_map opened t) = ap (λ (l : List (List ℕ)). length (flat_map opened l)) (sym w.bodies_are) in
    let place : length c - length read.1 + 1 ≡ p + 1 = omega (arith, w.place, same, sum, length-drop 16 c, long) in
    (λ i. journal.unless_foreign (w.own_a i) (w.own_b i) (read_side a b (w.current i)))
    ∙ ap (λ (x : Bool). if x then recovered.not_a_journal s (length c - length read.1) else recovered.found s (generation_of c) read.0 (length c - length read.1 + 1) (tail_at read.1)) w.shut
    ∙ (λ i. recovered.found s (sym w.generation_is i) (sym w.bodies_are i) (place i) (tail_at read.1))

ended_never : (x : Bool) (second : Bool) (generation place : ℕ) (taken : List (List ℕ)) → (if x then not_a_journal second place taken else found second generation place taken) ≡ no_side → ⊥
ended_never true second generation place taken e = cc
ended_never false second generation place taken e = cc

never : (judge : Judge) (limit : ℕ) (second : Bool) (generation so_far : ℕ) (taken bodies : List (List ℕ)) (rest : List ℕ) → judged judge limit second generation so_far taken bodies rest ≡ no_side → ⊥
unfolding judged
never judge limit second generation so_far taken [] rest e = ended_never (is_open rest) second generation (so_far - 1) taken e
never judge limit second generation so_far taken (body ∷ bodies) rest e =
    by_limit (nat_lt limit (so_far + 5 + length body)) (judge taken body) e (never judge limit second generation (so_far + 5 + length body) (taken ++ body ∷ []) bodies rest)
  where
    by_limit : (x : Bool) (v : Verdict) → (if x then refused (Full (so_far + 5 + length body)) taken else by_verdict v second (so_far - 1) taken (judged judge limit second generation (so_far + 5 + length body) (taken ++ body ∷ []) bodies rest)) ≡ no_side
        → (judged judge limit second generation (so_far + 5 + length body) (taken ++ body ∷ []) bodies rest ≡ no_side → ⊥) → ⊥
    by_limit true v is ih = cc
    by_limit false accepted is ih = ih is
    by_limit false bad_bytes is ih = cc
    by_limit false not_of_schema is ih = cc

side_never : (judge : Judge) (limit : ℕ) (second : Bool) (c : List ℕ) (x : Bool) → (if x then refused (Full 17) [] else judged_pair judge limit second (generation_of c) 17 [] (records_at (length c) (drop 16 c))) ≡ no_side → ⊥
side_never judge limit second c true e = cc
side_never judge limit second c false e = never judge limit second (generation_of c) 17 [] (records_at (length c) (drop 16 c)).0 (records_at (length c) (drop 16 c)).1 e

none_current : (judge : Judge) (limit : ℕ) (a b : List ℕ) (o : Option Bool) → current_of a b ≡ o → of_current judge limit a b o ≡ no_side → current_of a b ≡ None
none_current judge limit a b None current is = current
none_current judge limit a b (Some second) current is = absurd (side_never judge limit second (cond second b a) (nat_lt limit 17) is)

none_foreign : (judge : Judge) (limit : ℕ) (a b : List ℕ) (x y : Option ℕ) → foreign_at a ≡ x → foreign_at b ≡ y → unless_foreign x y (of_current judge limit a b (current_of a b)) ≡ no_side → recover a b ≡ recovered.no_side
unfolding recover
none_foreign judge limit a b (Some at) y own_a own_b is = absurd cc
none_foreign judge limit a b None (Some at) own_a own_b is = absurd cc
none_foreign judge limit a b None None own_a own_b is = let none = none_current judge limit a b (current_of a b) refl is in (λ i. journal.unless_foreign (own_a i) (own_b i) (read_side a b (none i)))

pub recovers_none : (judge : Judge) (limit : ℕ) (a b : List ℕ) → outcome_of judge limit a b ≡ no_side → recover a b ≡ recovered.no_side
unfolding outcome_of
recovers_none judge limit a b is = none_foreign judge limit a b (foreign_at a) (foreign_at b) refl refl is

-- what says a list is never without a side, and what says nothing never with one
pub says_side : (judge : Judge) (limit : ℕ) (lists : List (List (List ℕ))) (a b : List ℕ) → Says lists a b → outcome_of judge limit a b ≡ no_side → ⊥
says_side judge limit lists a b s none = let there = says_recovered lists a b s in let is = recovers_none judge limit a b none in cc

pub unmade_side : (judge : Judge) (limit : ℕ) (a b : List ℕ) (s : Bool) (g p : ℕ) (t : List (List ℕ)) → Unmade a → Unmade b → outcome_of judge limit a b ≡ found s g p t → ⊥
unmade_side judge limit a b s g p t at_a at_b is = let none = unmade_recovered a b at_a at_b in let there = recovers_found a b s g p t (agreed judge limit a b s g p t is) in cc

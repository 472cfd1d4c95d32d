-- What is said is what is recovered.
use Rattle.std.proofs.Common.{◌≡◌, ℕ, ◌+◌, ◌-◌, ◌<◌, ◌≤◌, ◌^◌, List, [], ◌∷◌, ◌++◌, length, drop, refl, ◌∙◌, ap, arith, append_assoc, length-append, Option, None, nat_lt, ◌==◌, Bool, true, false, not, cond, if◌then◌else◌}
use Rattle.std.proofs.lemmas.Bool.Decides.{nat_tests}
use Rattle.std.specs.List.{flat_map}
use Rattle.std.specs.Int.{to_be_bytes, w64}
use Rattle.disk_core.specs.Disk.{Begins}
use Rattle.feature_journal.specs.Side.{side, mark, opened, framed, behind}
use Rattle.feature_journal.specs.Whole.{Harmless, IsList, Ends, Says}
use Rattle.feature_journal.specs.Whole.Harmless.{short, shut, older, tied, equal}
use Rattle.feature_journal.specs.Whole.Ends.{closed, tail}
use Rattle.feature_journal.specs.Nothing.{Unmade}
use Rattle.feature_journal.specs.Nothing.Unmade.{few, zero_first, no_record}
use Rattle.feature_journal.specs.Recover.{recover, unless_foreign, read_side, ended, tail_at, tail_in, first_of, records_at, generation_of, foreign_at, differs_at, current_of, is_able, body_at}
use Rattle.feature_journal.specs.Recover.Recovered.{no_side, found, not_a_journal}
use Rattle.feature_journal.proofs.Current.{says_current, unable, unable_short, generation_headed, head}
use Rattle.feature_journal.proofs.Parsed.{records_again, body_again}

one_way : {A : Type 0} (x : Bool) (a : A) → (if x then a else a) ≡ a
one_way true a = refl
one_way false a = refl

-- a side with the mark and the version is not foreign
pub own_marked : (gate : ℕ) (rest : List ℕ) → foreign_at (gate ∷ (mark ++ rest)) ≡ None
unfolding foreign_at differs_at
own_marked gate rest = ap (λ (o : Option ℕ). if nat_lt (length (gate ∷ (mark ++ rest))) 17 then None else o) (one_way (gate == 0) None) ∙ one_way (nat_lt (length (gate ∷ (mark ++ rest))) 17) None

pub own_short : (c : List ℕ) → length c < 17 → foreign_at c ≡ None
unfolding foreign_at
own_short c less = let test : nat_lt (length c) 17 ≡ true = grind (arith, nat_tests) in rw test refl

pub own_shut : (c : List ℕ) → Begins (0 ∷ []) c → foreign_at c ≡ None
unfolding foreign_at
own_shut c b = ap foreign_at b.is ∙ one_way (nat_lt (length (0 ∷ b.rest)) 17) None

own_harmless : (is_b : Bool) (generation : ℕ) (lists : List (List (List ℕ))) (c : List ℕ) → Harmless is_b generation lists c → foreign_at c ≡ None
unfolding side
own_harmless is_b generation lists c (short less) = own_short c less
own_harmless is_b generation lists c (shut b) = own_shut c b
own_harmless is_b generation lists c (older own m less) = ap foreign_at m.is.is ∙ own_marked m.gate _
own_harmless is_b generation lists c (tied is m) = ap foreign_at m.is.is ∙ own_marked m.gate _
own_harmless is_b generation lists c (equal gate own bodies not_open l one b) = ap foreign_at b.is ∙ own_marked gate _

own_ends : (generation : ℕ) (bodies : List (List ℕ)) (c : List ℕ) → Ends (side generation bodies) c → foreign_at c ≡ None
own_ends generation bodies c ends = let h = head generation bodies c ends in ap foreign_at h.is ∙ own_marked 1 (to_be_bytes w64 generation ++ h.rest)

-- an ending gate, and what stands behind it
record Ending (generation : ℕ) (bodies : List (List ℕ)) (c : List ℕ) (last : Option (List ℕ)) : Type 0 where
  pub gate : ℕ
  pub more : List ℕ
  pub not_open : gate ≡ 1 → ⊥
  pub is : c ≡ side generation bodies ++ gate ∷ more
  pub last_is : tail_at (gate ∷ more) ≡ last

ending : (generation : ℕ) (bodies : List (List ℕ)) (c : List ℕ) (ends : Ends (side generation bodies) c) → Ending generation bodies c (tail_in ends)
ending generation bodies c (closed b) = record { gate = 0; more = b.rest; not_open = λ e. omega (arith, e); is = b.is ∙ append_assoc (side generation bodies) (0 ∷ []) b.rest; last_is = refl }
ending generation bodies c (tail gate body not_open fits b) = record {
  gate = gate;
  more = behind body ++ b.rest;
  not_open = not_open;
  is = b.is ∙ append_assoc (side generation bodies) (gate ∷ behind body) b.rest;
  last_is = ap (λ (o : Option (List ℕ × List ℕ)). if gate == 0 then None else first_of o) (ap body_at (append_assoc (framed body) (0 ∷ []) b.rest) ∙ body_again body (0 ∷ b.rest) fits (omega arith));
}

pub count_bodies : (bodies : List (List ℕ)) → length bodies ≤ length (flat_map opened bodies)
count_bodies [] = omega arith
count_bodies (body ∷ bodies) = omega (arith, count_bodies bodies, length-append (opened body) (flat_map opened bodies))

pub side_size : (generation : ℕ) (bodies : List (List ℕ)) → length (side generation bodies) ≡ 16 + length (flat_map opened bodies)
unfolding side
side_size generation bodies = omega arith

pub behind_head : (generation : ℕ) (bodies : List (List ℕ)) (more : List ℕ) → drop 16 (side generation bodies ++ more) ≡ flat_map opened bodies ++ more
unfolding side
behind_head generation bodies more = refl

generation_side : (generation : ℕ) (bodies : List (List ℕ)) (more : List ℕ) → generation < 2 ^ 64 → generation_of (side generation bodies ++ more) ≡ generation
unfolding side
generation_side generation bodies more fits = generation_headed 1 generation (flat_map opened bodies ++ more) fits

read_ending : (second : Bool) (generation : ℕ) (bodies : List (List ℕ)) (c : List ℕ) (last : Option (List ℕ)) → IsList generation bodies → Ending generation bodies c last
    → ended second c (records_at (length c) (drop 16 c)) ≡ found second generation bodies (length (side generation bodies) + 1) last
read_ending second generation bodies c last list e =
    let size : length c ≡ length (side generation bodies) + length (e.gate ∷ e.more) = ap length e.is ∙ length-append (side generation bodies) (e.gate ∷ e.more) in
    let read : records_at (length c) (drop 16 c) ≡ (bodies, e.gate ∷ e.more) =
    ap (λ (l : List ℕ). records_at (length c) (drop 16 l)) e.is ∙ ap (records_at (length c)) (behind_head generation bodies (e.gate ∷ e.more))
    ∙ records_again bodies e.gate e.more (length c) list.bodies_fit e.not_open (omega (arith, size, side_size generation bodies, count_bodies bodies)) in
    let shut_gate : (e.gate == 1) ≡ false = let n = e.not_open in grind (arith, nat_tests) in
    let own : generation_of c ≡ generation = ap generation_of e.is ∙ generation_side generation bodies (e.gate ∷ e.more) list.generation_fits in
    let place : length c - length (e.gate ∷ e.more) + 1 ≡ length (side generation bodies) + 1 = omega (arith, size) in
    ap (ended second c) read
    ∙ ap (λ (x : Bool). if x then not_a_journal second (length c - length (e.gate ∷ e.more)) else found second (generation_of c) bodies (length c - length (e.gate ∷ e.more) + 1) (tail_at (e.gate ∷ e.more))) shut_gate
    ∙ (λ i. found second (own i) bodies (place i) (e.last_is i))

own_both : (second : Bool) (generation : ℕ) (lists : List (List (List ℕ))) (bodies : List (List ℕ)) (a b : List ℕ) → Ends (side generation bodies) (cond second b a) → Harmless (not second) generation lists (cond second a b) → (foreign_at a ≡ None) × (foreign_at b ≡ None)
own_both true generation lists bodies a b ends beside = (own_harmless false generation lists a beside, own_ends generation bodies b ends)
own_both false generation lists bodies a b ends beside = (own_ends generation bodies a ends, own_harmless true generation lists b beside)

pub says_recovered : (lists : List (List (List ℕ))) (a b : List ℕ) (s : Says lists a b) → recover a b ≡ found s.second s.generation s.bodies (length (side s.generation s.bodies) + 1) (tail_in s.ends)
unfolding recover
says_recovered lists a b s =
    let own = own_both s.second s.generation lists s.bodies a b s.ends s.beside in
    (λ i. unless_foreign (own.0 i) (own.1 i) (read_side a b (says_current lists a b s i)))
    ∙ read_ending s.second s.generation s.bodies (cond s.second b a) (tail_in s.ends) s.list (ending s.generation s.bodies (cond s.second b a) s.ends)

own_unmade : (c : List ℕ) → Unmade c → foreign_at c ≡ None
own_unmade c (few less) = own_short c less
own_unmade c (zero_first b) = own_shut c b
own_unmade c (no_record gate own not_open fits b) = ap foreign_at b.is ∙ own_marked gate _

unable_unmade : (c : List ℕ) → Unmade c → is_able c ≡ false
unable_unmade c (few less) = unable_short c less
unable_unmade c (zero_first b) = ap is_able b.is ∙ unable 0 b.rest (λ e. omega (arith, e))
unable_unmade c (no_record gate own not_open fits b) = ap is_able b.is ∙ unable gate _ not_open

pub unmade_recovered : (a b : List ℕ) → Unmade a → Unmade b → recover a b ≡ no_side
unfolding recover current_of
unmade_recovered a b at_a at_b = rw (own_unmade a at_a, own_unmade b at_b, unable_unmade a at_a, unable_unmade b at_b) refl

-- What is refused, and which side is current.
use Rattle.std.proofs.Common.{◌≡◌, ◌≤◌, ℕ, zero, suc, ◌+◌, ◌-◌, ◌<◌, List, [], ◌∷◌, ◌++◌, length, take, drop, refl, sym, ◌∙◌, ap, arith, append_assoc, length-append, Option, None, Some, nat_lt, ◌==◌, Bool, true, false, cond}
use Rattle.std.proofs.lemmas.Bool.Decides.{nat_tests}
use Rattle.std.proofs.lemmas.List.{take_at}
use Rattle.std.proofs.lemmas.Nat.{from_be_bytes-to_be_bytes_4}
use Rattle.std.specs.List.{AllByRecursion, flat_map}
use Rattle.std.specs.Int.{to_be_bytes, from_be_bytes, w32}
use Rattle.feature_journal.specs.Side.{side, mark, opened, framed}
use Rattle.feature_journal.specs.Whole.{Fits, IsList}
use Rattle.feature_journal.specs.Refused.{Foreign, Own, Able, Unable, Torn}
use Rattle.feature_journal.specs.Refused.Own.{few, shut, marked}
use Rattle.feature_journal.specs.Refused.Unable.{too_few, not_open}
use Rattle.feature_journal.specs.Refused.Torn.{no_length, no_body}
use Rattle.feature_journal.specs.Recover.{recover, unless_foreign, read_side, ended, records_at, and_then, generation_of, foreign_at, differs_at, current_of, is_able, body_at, body_with}
use Rattle.feature_journal.specs.Recover.Recovered.{not_a_journal}
use Rattle.feature_journal.proofs.Current.{able_headed, generation_headed, unable, unable_short}
use Rattle.feature_journal.proofs.Parsed.{body_again}
use Rattle.feature_journal.proofs.Recovered.{own_short, own_shut, own_marked, behind_head, side_size, count_bodies}

differs : (place : ℕ) (front more tail : List ℕ) (due other : ℕ) → (other ≡ due → ⊥) → differs_at place (front ++ due ∷ more) (front ++ other ∷ tail) ≡ Some (place + length front)
unfolding differs_at
differs place [] more tail due other apart = let test : (due == other) ≡ false = grind (arith, nat_tests) in let at : place ≡ place + 0 = omega arith in rw test (ap Some at)
differs place (x ∷ front) more tail due other apart =
    let test : (x == x) ≡ true = grind (arith, nat_tests) in
    let at : place + 1 + length front ≡ place + length (x ∷ front) = omega arith in
    rw test (differs (place + 1) front more tail due other apart ∙ ap Some at)

foreign_headed : (first : ℕ) (front more tail : List ℕ) (due other : ℕ) → (first ≡ 0 → ⊥) → (other ≡ due → ⊥) → mark ≡ front ++ due ∷ more → 17 ≤ length (first ∷ (front ++ other ∷ tail)) → foreign_at (first ∷ (front ++ other ∷ tail)) ≡ Some (1 + length front)
unfolding foreign_at
foreign_headed first front more tail due other used apart mark_is long =
    let enough : nat_lt (length (first ∷ (front ++ other ∷ tail))) 17 ≡ false = grind (arith, nat_tests) in
    let test : (first == 0) ≡ false = grind (arith, nat_tests) in
    rw (enough, test) (ap (λ (m : List ℕ). differs_at 1 m (front ++ other ∷ tail)) mark_is ∙ differs 1 front more tail due other apart)

foreign_found : (place : ℕ) (c : List ℕ) → Foreign place c → foreign_at c ≡ Some place
foreign_found place c f =
    let whole : c ≡ f.first ∷ (f.front ++ f.other ∷ f.is.rest) = f.is.is ∙ ap (λ (l : List ℕ). f.first ∷ l) (append_assoc f.front (f.other ∷ []) f.is.rest) in
    ap foreign_at whole ∙ foreign_headed f.first f.front f.more f.is.rest f.due f.other f.used f.differs f.mark_is (omega (arith, f.long, ap length whole)) ∙ ap Some (sym f.at)

own_none : (c : List ℕ) → Own c → foreign_at c ≡ None
own_none c (few less) = own_short c less
own_none c (shut b) = own_shut c b
own_none c (marked first b) = ap foreign_at b.is ∙ own_marked first b.rest

pub refused_first : (a b : List ℕ) (place : ℕ) → Foreign place a → recover a b ≡ not_a_journal false place
unfolding recover
refused_first a b place f = rw (foreign_found place a f) refl

pub refused_second : (a b : List ℕ) (place : ℕ) → Own a → Foreign place b → recover a b ≡ not_a_journal true place
unfolding recover
refused_second a b place o f = rw (own_none a o, foreign_found place b f) refl

able : (generation : ℕ) (c : List ℕ) → Able generation c → is_able c ≡ true
able generation c s = ap is_able s.is.is ∙ able_headed generation (s.first ∷ s.is.rest) (omega arith)

generation_able : (generation : ℕ) (c : List ℕ) → Able generation c → generation_of c ≡ generation
generation_able generation c s = ap generation_of s.is.is ∙ generation_headed 1 generation (s.first ∷ s.is.rest) s.fits

not_able : (c : List ℕ) → Unable c → is_able c ≡ false
not_able c (too_few less) = unable_short c less
not_able c (not_open first other b) = ap is_able b.is ∙ unable first b.rest other

pub current_greater : (a b : List ℕ) (m n : ℕ) → Able m a → Able n b → m < n → current_of a b ≡ Some true
unfolding current_of
current_greater a b m n at_a at_b less =
    let test : nat_lt (generation_of a) (generation_of b) ≡ true = let e = generation_able m a at_a in let f = generation_able n b at_b in grind (arith, nat_tests) in
    rw (able m a at_a, able n b at_b, test) refl

pub current_tie : (a b : List ℕ) (m n : ℕ) → Able m a → Able n b → n ≤ m → current_of a b ≡ Some false
unfolding current_of
current_tie a b m n at_a at_b le =
    let test : nat_lt (generation_of a) (generation_of b) ≡ false = let e = generation_able m a at_a in let f = generation_able n b at_b in grind (arith, nat_tests) in
    rw (able m a at_a, able n b at_b, test) refl

pub current_first : (a b : List ℕ) (m : ℕ) → Able m a → Unable b → current_of a b ≡ Some false
unfolding current_of
current_first a b m at_a at_b = rw (able m a at_a, not_able b at_b) refl

pub current_second : (a b : List ℕ) (n : ℕ) → Unable a → Able n b → current_of a b ≡ Some true
unfolding current_of
current_second a b n at_a at_b = rw (not_able a at_a, able n b at_b) refl

pub current_none : (a b : List ℕ) → Unable a → Unable b → current_of a b ≡ None
unfolding current_of
current_none a b at_a at_b = rw (not_able a at_a, not_able b at_b) refl

body_sized : (size : List ℕ) (n : ℕ) (more : List ℕ) → length size ≡ 4 → from_be_bytes w32 size ≡ n → length more ≤ n → body_at (size ++ more) ≡ None
unfolding body_at body_with
body_sized size n more four is less =
    let read : from_be_bytes w32 (take 4 (size ++ more)) ≡ n = ap (from_be_bytes w32) (take_at size more 4 four) ∙ is in
    let test : nat_lt (length (size ++ more)) (5 + n) ≡ true = grind (arith, nat_tests, length-append size more, four, less) in
    ap (λ (k : ℕ). body_with k (size ++ more)) read ∙ rw test refl

body_few : (rest : List ℕ) (n : ℕ) → length rest < 4 → body_with n rest ≡ None
unfolding body_with
body_few rest n less = let test : nat_lt (length rest) (5 + n) ≡ true = grind (arith, nat_tests) in rw test refl

body_torn : (rest : List ℕ) → Torn rest → body_at rest ≡ None
unfolding body_at
body_torn rest (no_length less) = body_few rest _ less
body_torn rest (no_body size more fits is less) = ap body_at is ∙ body_sized (to_be_bytes w32 size) size more refl (from_be_bytes-to_be_bytes_4 size fits) less

records_torn : (bodies : List (List ℕ)) (rest : List ℕ) (n : ℕ) → AllByRecursion Fits bodies → body_at rest ≡ None → length bodies < n → records_at n (flat_map opened bodies ++ 1 ∷ rest) ≡ (bodies, 1 ∷ rest)
unfolding records_at
records_torn bodies rest zero all none less = absurd (omega arith)
records_torn [] rest (suc n) all none less = ap (and_then (records_at n) (1 ∷ rest)) none
records_torn (body ∷ bodies) rest (suc n) all none less =
    let more = flat_map opened bodies ++ 1 ∷ rest in
    let first : body_at (framed body ++ more) ≡ Some (body, more) = body_again body more all.0 (omega (arith, length-append (flat_map opened bodies) (1 ∷ rest))) in
    let others = records_torn bodies rest n all.1 none (omega arith) in
    ap (λ (l : List ℕ). and_then (records_at n) (1 ∷ l) (body_at l)) (append_assoc (framed body) (flat_map opened bodies) (1 ∷ rest))
    ∙ ap (λ (o : Option (List ℕ × List ℕ)). and_then (records_at n) (1 ∷ (framed body ++ more)) o) first
    ∙ ap (λ (y : List (List ℕ) × List ℕ). (body ∷ y.0, y.1)) others

ended_torn : (second : Bool) (generation : ℕ) (bodies : List (List ℕ)) (rest c : List ℕ) → IsList generation bodies → c ≡ side generation bodies ++ 1 ∷ rest → body_at rest ≡ None → ended second c (records_at (length c) (drop 16 c)) ≡ not_a_journal second (length (side generation bodies))
ended_torn second generation bodies rest c list is none =
    let size : length c ≡ length (side generation bodies) + length (1 ∷ rest) = ap length is ∙ length-append (side generation bodies) (1 ∷ rest) in
    let read : records_at (length c) (drop 16 c) ≡ (bodies, 1 ∷ rest) =
    ap (λ (l : List ℕ). records_at (length c) (drop 16 l)) is ∙ ap (records_at (length c)) (behind_head generation bodies (1 ∷ rest))
    ∙ records_torn bodies rest (length c) list.bodies_fit none (omega (arith, size, side_size generation bodies, count_bodies bodies)) in
    let place : length c - length (1 ∷ rest) ≡ length (side generation bodies) = omega (arith, size) in
    ap (ended second c) read ∙ ap (not_a_journal second) place

pub refused_torn : (a b : List ℕ) (second : Bool) (generation : ℕ) (bodies : List (List ℕ)) (rest : List ℕ) → Own a → Own b → current_of a b ≡ Some second → IsList generation bodies → cond second b a ≡ side generation bodies ++ 1 ∷ rest → Torn rest
    → recover a b ≡ not_a_journal second (length (side generation bodies))
unfolding recover
refused_torn a b second generation bodies rest at_a at_b current list is torn =
    (λ i. unless_foreign (own_none a at_a i) (own_none b at_b i) (read_side a b (current i))) ∙ ended_torn second generation bodies rest (cond second b a) list is (body_torn rest torn)

-- From one spot of the chunks to the next.
use Rattle.std.proofs.Common.{◌≡◌, ◌≢◌, ℕ, ◌+◌, ◌-◌, ◌<◌, Bool, List, [], ◌∷◌, ◌++◌, length, take, drop, refl, sym, ap, ◌∙◌, arith, append_assoc, Option, Some, None, nat_lt, if◌then◌else◌}
use Rattle.std.specs.Prelude.{IfSome, option_map, slice_index_or}
use Rattle.std.proofs.lemmas.List.{length-append}
use Rattle.std.proofs.lemmas.Bool.Decides.{nat_tests}
use Rattle.std.proofs.Math.Seq.{take-append-add}
use Rattle.http_session.specs.declared.message.Ending.{Ending}
use Rattle.http_session.specs.declared.message.Ending.TheVariants as ending
use Rattle.http_session.specs.declared.line.LineState.{LineState}
use Rattle.http_session.specs.declared.line.LineState.TheVariants as state
use Rattle.http_session.specs.declared.line.LineStep.TheVariants as step
use Rattle.http_session.specs.Chunks.{line, no_line, part_line}
use Rattle.http_session.specs.Lines.{line_step, line_then, line_from, line_of}
use Rattle.wfs_ends.specs.Ends.{Shown, KeepsGiven, Rose}
use Rattle.http_session.specs.Reading.{after_buffer, ahead, Moved, Reached, IsFault}
use Rattle.http_session.specs.Spots.{Spot, window, Moves, Passes, FaultAt, part_ending, IsOver, Alike}

-- ---- moves

pub after_twice : (f g : List ℕ) (o : Option (List ℕ)) → after_buffer f (after_buffer g o) ≡ after_buffer (f ++ g) o
after_twice f g None = refl
after_twice f g (Some l) = ap Some (sym (append_assoc f g l))

pub after_none : (o : Option (List ℕ)) → o ≡ after_buffer [] o
after_none None = refl
after_none (Some l) = refl

unfoldable pub moves_stay : (a : Spot) → Moves a a
moves_stay a = record { front = []; bytes = after_none a.ahead; count = omega arith }

unfoldable pub moves_on : (a b c : Spot) → Moves a b → Moves b c → Moves a c
moves_on a b c m n = record {
  front = m.front ++ n.front;
  bytes = m.bytes ∙ ap (after_buffer m.front) n.bytes ∙ after_twice m.front n.front c.ahead;
  count = let k = length-append m.front n.front in omega (arith, k, m.count, n.count);
}

-- ---- what the bytes come to on the way

pub passes_on : {X : Type 0} (f g h : List ℕ → X) (a b c : Spot) → Passes f g a b → Passes g h b c → Passes f h a c
unfolding moves_on
passes_on {X} f g h a b c p q = record {
  moves = moves_on a b c p.moves q.moves;
  same = λ more. ap f (append_assoc p.moves.front q.moves.front more) ∙ p.same (q.moves.front ++ more) ∙ q.same more;
}

pub passes_by : {X : Type 0} (f g : List ℕ → X) (a : Spot) → ((x : List ℕ) → f x ≡ g x) → Passes f g a a
unfolding moves_stay
passes_by {X} f g a e = record { moves = moves_stay a; same = e }

pub passes_then : {X Y : Type 0} (h : X → Y) (f g : List ℕ → X) (a b : Spot) → Passes f g a b → Passes (λ x. h (f x)) (λ x. h (g x)) a b
passes_then {X} {Y} h f g a b p = record { moves = p.moves; same = λ more. ap h (p.same more) }

pub passes_byte : {X : Type 0} (f g : List ℕ → X) (b : ℕ) (a c : Spot) (m : Moves a c) → m.front ≡ b ∷ [] → ((x : List ℕ) → f (b ∷ x) ≡ g x) → Passes f g a c
passes_byte {X} f g b a c m one e = record { moves = m; same = λ more. ap (λ (x : List ℕ). f (x ++ more)) one ∙ e more }

windows : (front : List ℕ) (k0 k : ℕ) (old new : Option (List ℕ)) → old ≡ after_buffer front new → k0 ≡ length front + k → option_map (take k0) old ≡ after_buffer front (option_map (take k) new)
windows front k0 k old None e c = rw e refl
windows front k0 k old (Some l) e c = rw (e, c) (ap Some (take-append-add front l k))

pub window_after : (a b : Spot) (m : Moves a b) → window a ≡ after_buffer m.front (window b)
window_after a b m = windows m.front a.allowed b.allowed a.ahead b.ahead m.bytes m.count

pub passes_alike : {X : Type 0} (f g : List ℕ → X) (a b : Spot) → Passes f g a b → Alike f (window a) g (window b)
passes_alike {X} f g a b p = by (window a) (window b) (window_after a b p.moves)
  where
    by : (v w : Option (List ℕ)) → v ≡ after_buffer p.moves.front w → Alike f v g w
    by v None e = ap (option_map f) e
    by v (Some x) e = ap (option_map f) e ∙ ap Some (p.same x)

-- a byte of the buffer is used
pub byte_moves : (k : ℕ) (bs held new : List ℕ) (left old : Option (List ℕ)) → k ≢ 0 → 0 < length held → bs ≡ held → new ≡ drop 1 held → after_buffer held left ≡ old
    → let a : Spot = record { allowed = k; ahead = old } in let c : Spot = record { allowed = k - 1; ahead = after_buffer new left } in
    (window a ≡ after_buffer (slice_index_or bs 0 0 ∷ []) (window c)) × (m : Moves a c) × (m.front ≡ slice_index_or bs 0 0 ∷ []) × (k ≡ k - 1 + 1)
byte_moves k bs [] new left old some long same skip e = absurd (omega arith)
byte_moves k bs (x ∷ held) new left old some long same skip e =
    let b : slice_index_or bs 0 0 ≡ x = ap (λ (l : List ℕ). slice_index_or l 0 0) same in
    let m : Moves (record { allowed = k; ahead = old }) (record { allowed = k - 1; ahead = after_buffer new left }) = record {
      front = slice_index_or bs 0 0 ∷ [];
      bytes = rw (b, skip) (sym e ∙ sym (after_twice (x ∷ []) held left));
      count = omega arith;
    } in
    (window_after _ _ m, m, refl, omega arith)

-- ---- where a fault comes

pub reached_on : (a b : Spot) (u : Shown) → Moves a b → Reached b.ahead u → Reached a.ahead u
reached_on a b u m r = record { taken = m.front ++ r.taken; parts = m.bytes ∙ ap (after_buffer m.front) r.parts ∙ after_twice m.front r.taken u.left }

pub reached_held : (held : List ℕ) (u : Shown) → Reached (ahead held u) u
reached_held held u = record { taken = held; parts = refl }

-- nothing was in the buffer, and the link failed
pub fault_held : (old held : List ℕ) (s u : Shown) → Moved old s held u → held ≡ [] → Rose s.failed_takes u.failed_takes → (q : IsFault (ahead old s) s u) × (q.reached.taken ≡ [])
fault_held old held s u m e c = (record { reached = record { taken = held; parts = sym m.same }; cause = c }, e)

pub fault_here : {X : Type 0} (f : List ℕ → X) (x : X) (a : Spot) (s u : Shown) → f [] ≡ x → (q : IsFault a.ahead s u) × (q.reached.taken ≡ []) → FaultAt f x a s u
fault_here {X} f x a s u is (q, e) = record { fault = q; within = let k = ap length e in omega arith; is = ap f e ∙ is }

pub fault_then : {X Y : Type 0} (h : X → Y) (f : List ℕ → X) (x : X) (a : Spot) (s u : Shown) → FaultAt f x a s u → FaultAt (λ w. h (f w)) (h x) a s u
fault_then {X} {Y} h f x a s u q = record { fault = q.fault; within = q.within; is = ap h q.is }

pub fault_on : {X : Type 0} (f g : List ℕ → X) (x : X) (a b : Spot) (s t u : Shown) → Passes f g a b → KeepsGiven s t → FaultAt g x b t u → FaultAt f x a s u
fault_on {X} f g x a b s t u p k q = record {
  fault = record {
    reached = record { taken = p.moves.front ++ q.fault.reached.taken; parts = p.moves.bytes ∙ ap (after_buffer p.moves.front) q.fault.reached.parts ∙ after_twice p.moves.front q.fault.reached.taken u.left };
    cause = let c = q.fault.cause in omega (arith, k.takes, c);
  };
  within = let l = length-append p.moves.front q.fault.reached.taken in omega (arith, l, p.moves.count, q.within);
  is = p.same q.fault.reached.taken ∙ q.is;
}

-- ---- what holds at a later spot

pub part_same : (front s : List ℕ) (k0 k : ℕ) → k0 ≡ length front + k → part_ending k0 (front ++ s) ≡ part_ending k s
part_same front s k0 k e = ap (λ (t : Bool). if t then ending.TooLarge else ending.Cut) same
  where
    same : nat_lt k0 (length (front ++ s)) ≡ nat_lt k (length s)
    same = let l = length-append front s in grind (arith, nat_tests, l, e)

pub over_back : {X : Type 0} (f g : List ℕ → X) (y : X) (e : Ending) (front : List ℕ) (k0 k : ℕ) (old new : Option (List ℕ)) → old ≡ after_buffer front new → k0 ≡ length front + k
    → Alike f (option_map (take k0) old) g (option_map (take k) new)
    → IfSome new (λ bytes. (g (take k bytes) ≡ y) × (e ≡ part_ending k bytes)) → IfSome old (λ bytes. (f (take k0 bytes) ≡ y) × (e ≡ part_ending k0 bytes))
over_back {X} f g y e front k0 k None new whole count alike h = tt
over_back {X} f g y e front k0 k (Some l) None whole count alike h = absurd cc
over_back {X} f g y e front k0 k (Some l) (Some s) whole count alike h =
    let same : l ≡ front ++ s = cc in
    let image : f (take k0 l) ≡ g (take k s) = cc in
    (image ∙ h.0, h.1 ∙ sym (part_same front s k0 k count) ∙ ap (part_ending k0) (sym same))

-- ---- chunk lines

line_at : (st : LineState) (b : ℕ) (x : List ℕ) → line_from st (b ∷ x) ≡ line_then (line_step st b) (λ t. line_from t x) x
unfolding line_from
line_at st b x = refl

pub line_on : (st next : LineState) (b : ℕ) (a c d : Spot) (m : Moves c d) → Passes line_of (line_from st) a c → m.front ≡ b ∷ [] → step.Goes next ≡ line_step st b → Passes line_of (line_from next) a d
line_on st next b a c d m p h e = passes_on line_of (line_from st) (line_from next) a c d p (passes_byte (line_from st) (line_from next) b c d m h (λ x. line_at st b x ∙ ap (λ k. line_then k (λ u. line_from u x) x) (sym e)))

pub line_whole : (st : LineState) (size b : ℕ) (a c d : Spot) (m : Moves c d) → Passes line_of (line_from st) a c → m.front ≡ b ∷ [] → step.Ends size ≡ line_step st b → Passes line_of (line size) a d
line_whole st size b a c d m p h e = passes_on line_of (line_from st) (line size) a c d p (passes_byte (line_from st) (line size) b c d m h (λ x. line_at st b x ∙ ap (λ k. line_then k (λ u. line_from u x) x) (sym e)))

pub line_start : (st : LineState) (a : Spot) → st ≡ state.Digits 0 0 → Passes line_of (line_from st) a a
line_start st a e = passes_by line_of (line_from st) a (λ x. ap (λ k. line_from k x) (sym e))

pub line_bad : (st : LineState) (b : ℕ) (old v w : Option (List ℕ)) → Alike line_of old (line_from st) v → v ≡ after_buffer (b ∷ []) w → step.Bad ≡ line_step st b → IfSome old (λ x. line_of x ≡ no_line)
unfolding line_from
line_bad st b None v w inv e s = tt
line_bad st b (Some x) v None inv e s = let k = inv ∙ ap (option_map (line_from st)) e in absurd cc
line_bad st b (Some x) v (Some w) inv e s =
    let k = inv ∙ ap (option_map (line_from st)) e ∙ ap (λ t. Some (line_then t (λ u. line_from u w) w)) (sym s) in
    cc

pub line_at_end : (st : LineState) → line_from st [] ≡ part_line
unfolding line_from
line_at_end st = refl

pub line_over : (st : LineState) (e : Ending) (a c : Spot) → Moves a c → Alike line_of (window a) (line_from st) (window c) → IsOver c e
    → IfSome a.ahead (λ bytes. (line_of (take a.allowed bytes) ≡ part_line) × (e ≡ part_ending a.allowed bytes))
line_over st e a c m inv over = over_back line_of (line_from st) part_line e m.front a.allowed c.allowed a.ahead c.ahead m.bytes m.count inv (ended c.ahead over)
  where
    ended : (o : Option (List ℕ)) → IfSome o (λ bytes. (take c.allowed bytes ≡ []) × (e ≡ part_ending c.allowed bytes)) → IfSome o (λ bytes. (line_from st (take c.allowed bytes) ≡ part_line) × (e ≡ part_ending c.allowed bytes))
    ended None h = tt
    ended (Some s) h = (ap (line_from st) h.0 ∙ line_at_end st, h.1)

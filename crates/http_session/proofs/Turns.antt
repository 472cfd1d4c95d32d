-- What one step of the chunks after the other comes to.
use Rattle.std.proofs.Common.{◌≡◌, ◌≢◌, ℕ, zero, suc, ◌+◌, ◌<◌, ◌≤◌, Bool, true, false, ◌==◌, List, [], ◌∷◌, ◌++◌, length, take, drop, refl, sym, ap, ◌∙◌, arith, append_assoc, append-nil, Option, Some, None, nat_lt, if◌then◌else◌}
use Rattle.std.specs.Prelude.{IfSome, option_map}
use Rattle.std.proofs.lemmas.List.{length-append, length-take, take-append-drop}
use Rattle.std.proofs.lemmas.Bool.Decides.{nat_tests}
use Rattle.std.proofs.Math.Seq.{take-append-add, drop-append-add}
use Rattle.wfs_ends.specs.Ends.{Shown, KeepsGiven}
use Rattle.http_session.specs.declared.message.Ending.{Ending}
use Rattle.http_session.specs.declared.message.Ending.TheVariants as ending
use Rattle.http_session.specs.declared.chunks.Begun.{Begun}
use Rattle.http_session.specs.declared.chunks.Begun.TheVariants as begun
use Rattle.http_session.specs.declared.chunks.ChunkRead.{ChunkRead}
use Rattle.http_session.specs.declared.chunks.ChunkRead.TheVariants as chunkread
use Rattle.http_session.specs.Chunks.{line, no_line, part_line, Stop, whole, wrong, large, part, Turn, goes, stops, after_return, after_data, chunk_of}
use Rattle.http_session.specs.Lines.{line_of}
use Rattle.http_session.specs.Reading.{after_buffer, ahead, Moved}
use Rattle.http_session.specs.Spots.{Spot, spot, Moves, Passes, part_ending, stop_ending, Alike, IsBroken, IsTurn, IsCopied, is_empty_line, begun_more, after_trailer, trailer_step, turn_of}
use Rattle.http_session.proofs.Spots.{passes_on, passes_alike, fault_on, reached_on, part_same, after_none, after_twice}

pub alike_byte : {X : Type 0} (f g : List ℕ → X) (b : ℕ) (v w : Option (List ℕ)) → v ≡ after_buffer (b ∷ []) w → ((x : List ℕ) → f (b ∷ x) ≡ g x) → Alike f v g w
alike_byte {X} f g b v None e h = ap (option_map f) e
alike_byte {X} f g b v (Some x) e h = ap (option_map f) e ∙ ap Some (h x)

pub stop_same : (stop : Stop) (front s : List ℕ) (k0 k : ℕ) → k0 ≡ length front + k → stop_ending stop k0 (front ++ s) ≡ stop_ending stop k s
stop_same (whole found rest) front s k0 k e = refl
stop_same wrong front s k0 k e = refl
stop_same large front s k0 k e = refl
stop_same part front s k0 k e = part_same front s k0 k e

ended_back : (f g : List ℕ → Turn) (e : Ending) (front : List ℕ) (k0 k : ℕ) (old new : Option (List ℕ)) → old ≡ after_buffer front new → k0 ≡ length front + k
    → Alike f (option_map (take k0) old) g (option_map (take k) new)
    → IfSome new (λ bytes. (stop : Stop) × (g (take k bytes) ≡ stops stop) × (e ≡ stop_ending stop k bytes) × IsBroken stop)
    → IfSome old (λ bytes. (stop : Stop) × (f (take k0 bytes) ≡ stops stop) × (e ≡ stop_ending stop k0 bytes) × IsBroken stop)
ended_back f g e front k0 k None new bytes count alike h = tt
ended_back f g e front k0 k (Some l) None bytes count alike h = absurd cc
ended_back f g e front k0 k (Some l) (Some s) bytes count alike h =
    let same : l ≡ front ++ s = cc in
    let image : f (take k0 l) ≡ g (take k s) = cc in
    (h.0, image ∙ h.1, h.2 ∙ sym (stop_same h.0 front s k0 k count) ∙ ap (stop_ending h.0 k0) (sym same), h.3)

pub ended_from : (f g : List ℕ → Turn) (e : Ending) (a b : Spot) → Passes f g a b
    → IfSome b.ahead (λ bytes. (stop : Stop) × (g (take b.allowed bytes) ≡ stops stop) × (e ≡ stop_ending stop b.allowed bytes) × IsBroken stop)
    → IfSome a.ahead (λ bytes. (stop : Stop) × (f (take a.allowed bytes) ≡ stops stop) × (e ≡ stop_ending stop a.allowed bytes) × IsBroken stop)
ended_from f g e a b p h = ended_back f g e p.moves.front a.allowed b.allowed a.ahead b.ahead p.moves.bytes p.moves.count (passes_alike f g a b p) h

-- the rest of a turn, where the beginning came to g
pub turn_back : (f g : List ℕ → Turn) (r : ChunkRead) (found : List ℕ) (s t u : Shown) (a b c : Spot) → KeepsGiven s t → Passes f g a b → IsTurn g r found t b u c → IsTurn f r found s a u c
turn_back f g chunkread.More found s t u a b c keeps p h = (passes_on f g (goes found) a b c p h.0, omega (arith, p.moves.count, h.1))
turn_back f g chunkread.Whole found s t u a b c keeps p h = passes_on f g (λ w. stops (whole found w)) a b c p h
turn_back f g (chunkread.Ended e) found s t u a b c keeps p h = ended_from f g e a b p h
turn_back f g chunkread.Fault found s t u a b c keeps p h = fault_on f g (stops part) a b s t u p keeps h
turn_back f g chunkread.OutOfMemory found s t u a b c keeps p h = reached_on a b u p.moves h

pub wrong_at : (f : List ℕ → Turn) (k : ℕ) (old w : Option (List ℕ)) → Alike f (option_map (take k) old) (λ x. stops wrong) w
    → IfSome old (λ bytes. (stop : Stop) × (f (take k bytes) ≡ stops stop) × (ending.BadHead ≡ stop_ending stop k bytes) × IsBroken stop)
wrong_at f k None w e = tt
wrong_at f k (Some l) None e = absurd cc
wrong_at f k (Some l) (Some x) e = let image : f (take k l) ≡ stops wrong = cc in (wrong, image, refl, tt)

pub over_at : (f : List ℕ → Turn) (e : Ending) (k : ℕ) (old : Option (List ℕ)) → f [] ≡ stops part → IfSome old (λ bytes. (take k bytes ≡ []) × (e ≡ part_ending k bytes))
    → IfSome old (λ bytes. (stop : Stop) × (f (take k bytes) ≡ stops stop) × (e ≡ stop_ending stop k bytes) × IsBroken stop)
over_at f e k None is h = tt
over_at f e k (Some l) is h = (part, ap f h.0 ∙ is, h.1, tt)

-- ---- bytes were taken into the buffer

pub held_moves : (k : ℕ) (old new : List ℕ) (s t : Shown) → Moved old s new t → Moves (spot k old s) (spot k new t)
held_moves k old new s t m = record { front = []; bytes = sym m.same ∙ after_none (ahead new t); count = omega arith }

pub passes_held : {X : Type 0} (f : List ℕ → X) (k : ℕ) (old new : List ℕ) (s t : Shown) → Moved old s new t → Passes f f (spot k old s) (spot k new t)
unfolding held_moves
passes_held {X} f k old new s t m = record { moves = held_moves k old new s t m; same = λ more. refl }

take_nil : (k : ℕ) (x : List ℕ) → x ≡ [] → take k x ≡ []
take_nil zero x e = refl
take_nil (suc k) [] e = refl
take_nil (suc k) (y ∷ x) e = absurd cc

pub over_end : (k : ℕ) (o : Option (List ℕ)) → IfSome o (λ bytes. bytes ≡ []) → IfSome o (λ bytes. (take k bytes ≡ []) × (ending.Cut ≡ part_ending k bytes))
over_end k None h = tt
over_end k (Some b) h =
    let a : nat_lt k 0 ≡ false = grind (arith, nat_tests) in
    (take_nil k b h, rw (h, a) refl)

pub over_limit : (k : ℕ) (held : List ℕ) (o : Option (List ℕ)) → k ≡ 0 → 0 < length held → IfSome (after_buffer held o) (λ bytes. (take k bytes ≡ []) × (ending.TooLarge ≡ part_ending k bytes))
over_limit k held None is some = tt
over_limit k [] (Some l) is some = absurd (omega arith)
over_limit k (x ∷ held) (Some l) is some =
    let a : nat_lt 0 (suc (length (held ++ l))) ≡ true = grind (arith, nat_tests) in
    rw is (refl, rw a refl)

-- ---- the end of a chunk

pub data_return : (content : List ℕ) (b : ℕ) (x : List ℕ) → b ≡ 13 → after_data content (b ∷ x) ≡ after_return content x
unfolding after_data
data_return content b x e = rw e refl

pub data_wrong : (content : List ℕ) (b : ℕ) (x : List ℕ) → b ≢ 13 → after_data content (b ∷ x) ≡ stops wrong
unfolding after_data
data_wrong content b x other = let k : (b == 13) ≡ false = grind (arith, nat_tests, other) in rw k refl

pub data_none : (content : List ℕ) → after_data content [] ≡ stops part
unfolding after_data
data_none content = refl

pub feed_goes : (content : List ℕ) (b : ℕ) (x : List ℕ) → b ≡ 10 → after_return content (b ∷ x) ≡ goes content x
feed_goes content b x e = rw e refl

-- ---- trailers

pub trailer_more : (content : List ℕ) (so_far next : Begun) (b : ℕ) (x : List ℕ) → Some next ≡ trailer_step so_far b → stops (after_trailer content so_far (b ∷ x)) ≡ stops (after_trailer content next x)
unfolding after_trailer
trailer_more content so_far next b x e = ap stops (by (b == 10) (is_empty_line so_far) e)
  where
    by : (t u : Bool) → Some next ≡ (if t then if u then None else Some begun.Nothing else Some (begun_more so_far b))
        → (if t then if u then whole content x else after_trailer content begun.Nothing x else after_trailer content (begun_more so_far b) x) ≡ after_trailer content next x
    by true true e = absurd cc
    by true false e = let k : begun.Nothing ≡ next = cc in ap (λ n. after_trailer content n x) k
    by false u e = let k : begun_more so_far b ≡ next = cc in ap (λ n. after_trailer content n x) k

pub trailer_whole : (content : List ℕ) (so_far : Begun) (b : ℕ) (x : List ℕ) → None ≡ trailer_step so_far b → stops (after_trailer content so_far (b ∷ x)) ≡ stops (whole content x)
unfolding after_trailer
trailer_whole content so_far b x e = ap stops (by (b == 10) (is_empty_line so_far) e)
  where
    by : (t u : Bool) → None ≡ (if t then if u then None else Some begun.Nothing else Some (begun_more so_far b))
        → (if t then if u then whole content x else after_trailer content begun.Nothing x else after_trailer content (begun_more so_far b) x) ≡ whole content x
    by true true e = refl
    by true false e = absurd cc
    by false u e = absurd cc

pub trailer_none : (content : List ℕ) (so_far : Begun) → stops (after_trailer content so_far []) ≡ stops part
unfolding after_trailer
trailer_none content so_far = refl

-- ---- content

pub chunk_step : (content front w : List ℕ) (m : ℕ) → length content + length front ≤ 4194304 → chunk_of content (length front + m) (front ++ w) ≡ chunk_of (content ++ front) m w
unfolding chunk_of
chunk_step content front w m le =
    let a : length content + length (take (length front + m) (front ++ w)) ≡ length (content ++ front) + length (take m w) = sums in
    let b : nat_lt (length (front ++ w)) (length front + m) ≡ nat_lt (length w) m = let l = length-append front w in grind (arith, nat_tests, l) in
    rw (a, b, take-append-add front w m, drop-append-add front w m, append_assoc content front (take m w)) refl
  where
    sums : length content + length (take (length front + m) (front ++ w)) ≡ length (content ++ front) + length (take m w)
    sums =
        let k = ap length (take-append-add front w m) in
        let l = length-append front (take m w) in
        let n = length-append content front in
        omega arith

pub chunk_done : (content w : List ℕ) → length content ≤ 4194304 → chunk_of content 0 w ≡ after_data content w
unfolding chunk_of
chunk_done content w le =
    let a : nat_lt 4194304 (length content + 0) ≡ false = grind (arith, nat_tests) in
    let b : nat_lt (length w) 0 ≡ false = grind (arith, nat_tests) in
    rw (a, b, append-nil content) refl

pub chunk_part : (content : List ℕ) (left : ℕ) → length content ≤ 4194304 → 0 < left → chunk_of content left [] ≡ stops part
unfolding chunk_of
chunk_part content zero le some = absurd (omega arith)
chunk_part content (suc left) le some =
    let a : nat_lt 4194304 (length content + 0) ≡ false = grind (arith, nat_tests) in
    let b : nat_lt 0 (suc left) ≡ true = grind (arith, nat_tests) in
    rw (a, b) refl

pub chunk_large : (content w : List ℕ) (left x : ℕ) → length content ≡ 4194304 → 0 < left → chunk_of content left (x ∷ w) ≡ stops large
unfolding chunk_of
chunk_large content w zero x is some = absurd (omega arith)
chunk_large content w (suc left) x is some =
    let a : nat_lt 4194304 (length content + suc (length (take left w))) ≡ true = grind (arith, nat_tests, is) in
    rw a refl

pub large_at : (content held : List ℕ) (left k : ℕ) (o : Option (List ℕ)) → length content ≡ 4194304 → 0 < left → k ≢ 0 → 0 < length held
    → IfSome (after_buffer held o) (λ bytes. (stop : Stop) × (chunk_of content left (take k bytes) ≡ stops stop) × (ending.TooLarge ≡ stop_ending stop k bytes) × IsBroken stop)
large_at content held left k None full some may long = tt
large_at content [] left k (Some l) full some may long = absurd (omega arith)
large_at content (x ∷ held) left zero (Some l) full some may long = absurd (may refl)
large_at content (x ∷ held) left (suc k) (Some l) full some may long = (large, chunk_large content (take k (held ++ l)) left x full some, refl, tt)

pub copied_moves : (content held content' held' : List ℕ) (k left k' left' : ℕ) (o : Option (List ℕ)) → IsCopied content held k left content' held' k' left'
    → Moves (record { allowed = k; ahead = after_buffer held o }) (record { allowed = k'; ahead = after_buffer held' o })
copied_moves content held content' held' k left k' left' o m = record {
  front = take m.count held;
  bytes = ap (λ (x : List ℕ). after_buffer x o) (sym (take-append-drop m.count held)) ∙ sym (after_twice (take m.count held) (drop m.count held) o) ∙ ap (λ (x : List ℕ). after_buffer (take m.count held) (after_buffer x o)) (sym m.buffered_is);
  count = let l = length-take m.count held in omega (arith, l, m.held, m.allowed_is);
}

pub passes_copied : (content held content' held' : List ℕ) (k left k' left' : ℕ) (o : Option (List ℕ)) → IsCopied content held k left content' held' k' left'
    → Passes (chunk_of content left) (chunk_of content' left') (record { allowed = k; ahead = after_buffer held o }) (record { allowed = k'; ahead = after_buffer held' o })
unfolding copied_moves
passes_copied content held content' held' k left k' left' o m =
    let l = length-take m.count held in
    let long : length (take m.count held) ≡ m.count = omega (arith, l, m.held) in
    let few : length content + length (take m.count held) ≤ 4194304 = omega (arith, long, m.within) in
    let is : left ≡ length (take m.count held) + left' = omega (arith, long, m.left_is) in
    record {
      moves = copied_moves content held content' held' k left k' left' o m;
      same = λ x. ap (λ (n : ℕ). chunk_of content n (take m.count held ++ x)) is ∙ chunk_step content (take m.count held) x left' few ∙ ap (λ (c : List ℕ). chunk_of c left' x) (sym m.content_is);
    }

pub copied_within : (content held content' held' : List ℕ) (k left k' left' : ℕ) → IsCopied content held k left content' held' k' left' → length content' ≤ 4194304
copied_within content held content' held' k left k' left' m =
    let l = length-take m.count held in
    let a = length-append content (take m.count held) in
    let b = ap length m.content_is in
    omega (arith, a, b, l, m.held, m.within)

-- ---- the line

pub turn_trailer : (content : List ℕ) (rest : List ℕ) → turn_of content (line 0 rest) ≡ stops (after_trailer content begun.Nothing rest)
turn_trailer content rest = refl

pub turn_chunk : (content : List ℕ) (size : ℕ) (rest : List ℕ) → size ≢ 0 → turn_of content (line size rest) ≡ chunk_of content size rest
turn_chunk content size rest some = let k : (size == 0) ≡ false = grind (arith, nat_tests, some) in rw k refl

pub line_wrong : (content : List ℕ) (k : ℕ) (o : Option (List ℕ)) → IfSome (option_map (take k) o) (λ w. line_of w ≡ no_line)
    → IfSome o (λ bytes. (stop : Stop) × (turn_of content (line_of (take k bytes)) ≡ stops stop) × (ending.BadHead ≡ stop_ending stop k bytes) × IsBroken stop)
line_wrong content k None h = tt
line_wrong content k (Some l) h = (wrong, ap (turn_of content) h, refl, tt)

pub line_part : (content : List ℕ) (e : Ending) (k : ℕ) (o : Option (List ℕ)) → IfSome o (λ bytes. (line_of (take k bytes) ≡ part_line) × (e ≡ part_ending k bytes))
    → IfSome o (λ bytes. (stop : Stop) × (turn_of content (line_of (take k bytes)) ≡ stops stop) × (e ≡ stop_ending stop k bytes) × IsBroken stop)
line_part content e k None h = tt
line_part content e k (Some l) h = (part, ap (turn_of content) h.0, h.1, tt)

-- What the chunks so far make of those that follow.
use Rattle.std.proofs.Common.{◌≡◌, ℕ, zero, suc, ◌+◌, ◌≤◌, Bool, true, false, List, [], ◌++◌, length, take, drop, refl, sym, ap, ap₂, subst, ◌∙◌, arith, append_assoc, length-append, Option, Some, None, nat_lt, if◌then◌else◌}
use Rattle.std.specs.Prelude.{IfSome, option_map}
use Rattle.std.proofs.lemmas.List.{take-append-drop, take_all}
use Rattle.std.proofs.lemmas.Bool.Decides.{nat_tests}
use Rattle.wfs_ends.specs.Ends.{Shown, KeepsGiven}
use Rattle.std.proofs.Math.Seq.{drop-append-add}
use Rattle.http_session.specs.declared.message.Ending.{Ending}
use Rattle.http_session.specs.declared.message.Ending.TheVariants as ending
use Rattle.http_session.specs.declared.plan.Body.TheVariants as way
use Rattle.http_session.specs.Chunks.{Stop, whole, wrong, large, part, goes, stops, IsTurnOf, ReadsChunks, sent_limit}
use Rattle.http_session.specs.Lines.{line_of}
use Rattle.http_session.specs.Frames.{content, no_content, chunked_body, IsBody}
use Rattle.http_session.specs.Reading.{after_buffer, IsFault}
use Rattle.http_session.specs.Spots.{Spot, window, Moves, Passes, FaultAt, stop_ending, Alike, IsBroken, turn_of}
use Rattle.http_session.proofs.LineLaws.{line_is}
use Rattle.http_session.proofs.Spots.{after_twice, moves_on, moves_stay, window_after, passes_alike}
use Rattle.http_session.proofs.Turns.{stop_same}
use Rattle.http_session.proofs.TrailerLaws.{turn_is}

-- what is read after the chunks so far is read from the first on
pub record Follows (a : Spot) (found : List ℕ) (b : Spot) : Type 0 where
  pub moves : Moves a b
  pub reads : (n : ℕ) (stop : Stop) (w : List ℕ) → ReadsChunks n found w stop → (m : ℕ) × ReadsChunks m [] (moves.front ++ w) stop

pub follows_start : (a : Spot) (found : List ℕ) → found ≡ [] → Follows a found a
unfolding moves_stay
follows_start a found none = record { moves = moves_stay a; reads = λ n stop w h. (n, subst (λ (x : List ℕ). ReadsChunks n x w stop) none h) }

pub follows_more : (a b c : Spot) (found more : List ℕ) → Follows a found b → Passes (λ w. turn_of found (line_of w)) (goes more) b c → Follows a more c
unfolding moves_on
follows_more a b c found more f p = record {
  moves = moves_on a b c f.moves p.moves;
  reads = λ n stop w h.
      let x = p.moves.front ++ w in
      let r = f.reads (suc n) stop x (line_of x, line_is x, more, w, subst (IsTurnOf found (line_of x)) (p.same w) (turn_is found (line_of x)), h) in
      (r.0, subst (λ (y : List ℕ). ReadsChunks r.0 [] y stop) (sym (append_assoc f.moves.front p.moves.front w)) r.1);
}

-- the same of windows
abbrev FollowsIn : Option (List ℕ) → List ℕ → Option (List ℕ) → Type 0
FollowsIn first found now = (n : ℕ) (stop : Stop) → IfSome now (λ w. ReadsChunks n found w stop) → (m : ℕ) × IfSome first (λ w. ReadsChunks m [] w stop)

follows_in : (a b : Spot) (found : List ℕ) → Follows a found b → FollowsIn (window a) found (window b)
follows_in a b found f = λ n stop h. by n stop (window a) (window b) (window_after a b f.moves) h
  where
    by : (n : ℕ) (stop : Stop) (v w : Option (List ℕ)) → v ≡ after_buffer f.moves.front w → IfSome w (λ x. ReadsChunks n found x stop) → (m : ℕ) × IfSome v (λ x. ReadsChunks m [] x stop)
    by n stop None w e h = (zero, tt)
    by n stop (Some x) None e h = absurd cc
    by n stop (Some x) (Some y) e h =
        let same : f.moves.front ++ y ≡ x = cc in
        let r = f.reads n stop y h in
        (r.0, subst (λ (z : List ℕ). ReadsChunks r.0 [] z stop) same r.1)

past_is : (limit k j : ℕ) (front more x y b : List ℕ) → limit ≡ length front + k → k ≡ length more + j → b ≡ front ++ x → x ≡ more ++ y → drop limit b ≡ drop j y
past_is limit k j front more x y b c c' all tail =
    ap₂ (λ (n : ℕ) (l : List ℕ). drop n l) c all ∙ drop-append-add front x k ∙ ap₂ (λ (n : ℕ) (l : List ℕ). drop n l) c' tail ∙ drop-append-add more y j

-- the last line was read
whole_body : (so_far found : List ℕ) (front : List ℕ) (k : ℕ) (old now : Option (List ℕ)) → old ≡ after_buffer front now → sent_limit ≡ length front + k → FollowsIn (option_map (take sent_limit) old) so_far (option_map (take k) now)
    → (left : Option (List ℕ)) (more : List ℕ) (j : ℕ) → now ≡ after_buffer more left → k ≡ length more + j → Alike (λ w. turn_of so_far (line_of w)) (option_map (take k) now) (λ w. stops (whole found w)) (option_map (take j) left)
    → IfSome old (λ bytes. (rest : List ℕ) × (left ≡ Some rest) × IsBody way.Chunked bytes (content found rest))
whole_body so_far found front k None now e c f left more j e' c' alike = tt
whole_body so_far found front k (Some b) None e c f left more j e' c' alike = absurd cc
whole_body so_far found front k (Some b) (Some x) e c f None more j e' c' alike = absurd cc
whole_body so_far found front k (Some b) (Some x) e c f (Some y) more j e' c' alike =
    let all : b ≡ front ++ x = cc in
    let tail : x ≡ more ++ y = cc in
    let last : turn_of so_far (line_of (take k x)) ≡ stops (whole found (take j y)) = cc in
    let reads = f zero (whole found (take j y)) (line_of (take k x), line_is (take k x), subst (IsTurnOf so_far (line_of (take k x))) last (turn_is so_far (line_of (take k x)))) in
    let past : drop sent_limit b ≡ drop j y = past_is sent_limit k j front more x y b c c' all tail in
    (y, refl, (reads.0, whole found (take j y), reads.1, ap (content found) (sym (ap (λ (l : List ℕ). take j y ++ l) past ∙ take-append-drop j y))))

pub whole_chunks : (so_far found : List ℕ) (a b c : Spot) → a.allowed ≡ sent_limit → Follows a so_far b → Passes (λ w. turn_of so_far (line_of w)) (λ w. stops (whole found w)) b c
    → IfSome a.ahead (λ bytes. (rest : List ℕ) × (c.ahead ≡ Some rest) × IsBody way.Chunked bytes (content found rest))
whole_chunks so_far found a b c is f p =
    whole_body so_far found f.moves.front b.allowed a.ahead b.ahead f.moves.bytes (sym is ∙ f.moves.count) (subst (λ k. FollowsIn (option_map (take k) a.ahead) so_far (window b)) is (follows_in a b so_far f))
    c.ahead p.moves.front c.allowed p.moves.bytes p.moves.count (passes_alike (λ w. turn_of so_far (line_of w)) (λ w. stops (whole found w)) b c p)

broken_is : (stop : Stop) (e : Ending) (bytes : List ℕ) → e ≡ stop_ending stop sent_limit bytes → IsBroken stop → no_content e ≡ chunked_body bytes stop
broken_is (whole found rest) e bytes is broken = absurd broken
broken_is wrong e bytes is broken = ap no_content is
broken_is large e bytes is broken = ap no_content is
broken_is part e bytes is broken = ap no_content is ∙ by (nat_lt sent_limit (length bytes))
  where
    by : (t : Bool) → no_content (if t then ending.TooLarge else ending.Cut) ≡ (if t then no_content ending.TooLarge else no_content ending.Cut)
    by true = refl
    by false = refl

ended_body : (found : List ℕ) (e : Ending) (front : List ℕ) (k : ℕ) (old now : Option (List ℕ)) → old ≡ after_buffer front now → sent_limit ≡ length front + k → FollowsIn (option_map (take sent_limit) old) found (option_map (take k) now)
    → IfSome now (λ bytes. (stop : Stop) × (turn_of found (line_of (take k bytes)) ≡ stops stop) × (e ≡ stop_ending stop k bytes) × IsBroken stop)
    → IfSome old (λ bytes. IsBody way.Chunked bytes (no_content e))
ended_body found e front k None now bytes c f h = tt
ended_body found e front k (Some b) None bytes c f h = absurd cc
ended_body found e front k (Some b) (Some x) bytes c f h =
    let all : b ≡ front ++ x = cc in
    let reads = f zero h.0 (line_of (take k x), line_is (take k x), subst (IsTurnOf found (line_of (take k x))) h.1 (turn_is found (line_of (take k x)))) in
    let is : e ≡ stop_ending h.0 sent_limit b = h.2 ∙ sym (stop_same h.0 front x sent_limit k c) ∙ ap (stop_ending h.0 sent_limit) (sym all) in
    (reads.0, h.0, reads.1, broken_is h.0 e b is h.3)

pub ended_chunks : (found : List ℕ) (e : Ending) (a b : Spot) → a.allowed ≡ sent_limit → Follows a found b
    → IfSome b.ahead (λ bytes. (stop : Stop) × (turn_of found (line_of (take b.allowed bytes)) ≡ stops stop) × (e ≡ stop_ending stop b.allowed bytes) × IsBroken stop)
    → IfSome a.ahead (λ bytes. IsBody way.Chunked bytes (no_content e))
ended_chunks found e a b is f h =
    ended_body found e f.moves.front b.allowed a.ahead b.ahead f.moves.bytes (sym is ∙ f.moves.count) (subst (λ k. FollowsIn (option_map (take k) a.ahead) found (window b)) is (follows_in a b found f)) h

-- chunks that are not whole where the link fails
part_body : (m : ℕ) (bytes : List ℕ) → length bytes ≤ sent_limit → ReadsChunks m [] bytes part → IsBody way.Chunked bytes (no_content ending.Cut)
part_body m bytes le reads =
    let short : nat_lt sent_limit (length bytes) ≡ false = grind (arith, nat_tests, le) in
    (m, part, subst (λ (x : List ℕ). ReadsChunks m [] x part) (sym (take_all sent_limit bytes le)) reads, rw short refl)

pub fault_chunks : (found : List ℕ) (a b : Spot) (s t u : Shown) → a.allowed ≡ sent_limit → Follows a found b → KeepsGiven s t → FaultAt (λ w. turn_of found (line_of w)) (stops part) b t u
    → (q : IsFault a.ahead s u) × IsBody way.Chunked q.reached.taken (no_content ending.Cut)
fault_chunks found a b s t u is f k q =
    let x = q.fault.reached.taken in
    let reads = f.reads zero part x (line_of x, line_is x, subst (IsTurnOf found (line_of x)) q.is (turn_is found (line_of x))) in
    let l = length-append f.moves.front x in (
      record {
        reached = record { taken = f.moves.front ++ x; parts = f.moves.bytes ∙ ap (after_buffer f.moves.front) q.fault.reached.parts ∙ after_twice f.moves.front x u.left };
        cause = let c = q.fault.cause in omega (arith, k.takes, c);
      },
      part_body reads.0 (f.moves.front ++ x) (omega (arith, l, is, f.moves.count, q.within)) reads.1,
    )

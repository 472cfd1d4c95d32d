-- The reader's trailer is the grammar's.
use Rattle.std.proofs.Common.{◌≡◌, ℕ, zero, suc, Bool, true, false, ◌==◌, not, List, [], ◌∷◌, ◌++◌, refl, sym, ap, subst, ◌∙◌, arith, append_assoc, append-nil, if◌then◌else◌}
use Rattle.std.specs.List.{list_all}
use Rattle.std.proofs.lemmas.Bool.{and_parts}
use Rattle.std.proofs.lemmas.Bool.Decides.{nat_tests}
use Rattle.std.proofs.lemmas.List.Folds.{list_all-append}
use Rattle.std.proofs.lemmas.List.Concat.{flat_map-cons}
use Rattle.httparse.specs.Grammar.{LineEnd, crlf, lf, print_end}
use Rattle.http_session.specs.declared.chunks.Begun.{Begun}
use Rattle.http_session.specs.declared.chunks.Begun.TheVariants as begun
use Rattle.http_session.specs.Trailers.{is_in_line, is_blank, IsTrailerLine, AreTrailerLines, print_trailer, ReadsTrailer, HasNoTrailer}
use Rattle.http_session.specs.Chunks.{Line, line, no_line, part_line, Stop, whole, wrong, large, part, Turn, stops, IsAfterTrailer, IsTurnOf}
use Rattle.http_session.specs.Spots.{is_empty_line, begun_more, after_trailer, turn_of}
use Rattle.http_session.proofs.Turns.{turn_chunk}

-- ---- what has come of a line

abbrev BegunBy : Begun → List ℕ → Type 0
BegunBy begun.Nothing text = text ≡ []
BegunBy begun.Return text = text ≡ 13 ∷ []
BegunBy begun.Text text = is_blank text ≡ false

longer_text : (text : List ℕ) (b : ℕ) → is_blank text ≡ false → is_blank (text ++ b ∷ []) ≡ false
longer_text [] b e = absurd cc
longer_text (x ∷ []) b e = refl
longer_text (x ∷ y ∷ text) b e = refl

begun_on : (s : Begun) (text : List ℕ) (b : ℕ) → BegunBy s text → BegunBy (begun_more s b) (text ++ b ∷ [])
begun_on begun.Nothing text b e = rw e (by (b == 13) refl)
  where
    by : (t : Bool) → (b == 13) ≡ t → BegunBy (if t then begun.Return else begun.Text) (b ∷ [])
    by true is = let k : b ≡ 13 = grind (arith, nat_tests, is) in ap (λ (x : ℕ). x ∷ []) k
    by false is = is
begun_on begun.Return text b e = rw e refl
begun_on begun.Text text b e = longer_text text b e

blank_is : (s : Begun) (text : List ℕ) → BegunBy s text → is_blank text ≡ is_empty_line s
blank_is begun.Nothing text e = rw e refl
blank_is begun.Return text e = rw e refl
blank_is begun.Text text e = e

line_more : (text : List ℕ) (b : ℕ) → list_all is_in_line text ≡ true → (b == 10) ≡ false → list_all is_in_line (text ++ b ∷ []) ≡ true
line_more text b l e = list_all-append is_in_line text (b ∷ []) ∙ rw (l, e) refl

not_feed : (b : ℕ) → is_in_line b ≡ true → (b == 10) ≡ false
not_feed b e = by (b == 10) e
  where
    by : (t : Bool) → not t ≡ true → t ≡ false
    by true e = absurd cc
    by false e = refl

-- ---- a trailer is read

-- some more bytes of a line
pub record RunsTo (content : List ℕ) (s : Begun) (text more bytes : List ℕ) : Type 0 where
  state : Begun
  begun : BegunBy state text
  same : after_trailer content s bytes ≡ after_trailer content state more

run_byte : (content : List ℕ) (s : Begun) (b : ℕ) (bytes : List ℕ) → (b == 10) ≡ false → after_trailer content s (b ∷ bytes) ≡ after_trailer content (begun_more s b) bytes
unfolding after_trailer
run_byte content s b bytes e = rw e refl

run_line : (content : List ℕ) (s : Begun) (text u more : List ℕ) → BegunBy s text → list_all is_in_line u ≡ true → RunsTo content s (text ++ u) more (u ++ more)
run_line content s text [] more is l = record { state = s; begun = subst (BegunBy s) (sym (append-nil text)) is; same = refl }
run_line content s text (b ∷ u) more is l =
    let parts = and_parts (is_in_line b) (list_all is_in_line u) l in
    let next = run_line content (begun_more s b) (text ++ b ∷ []) u more (begun_on s text b is) parts.1 in
    record { state = next.state; begun = subst (BegunBy next.state) (append_assoc text (b ∷ []) u) next.begun; same = run_byte content s b (u ++ more) (not_feed b parts.0) ∙ next.same }

line_end : (content : List ℕ) (s : Begun) (bytes : List ℕ) → is_empty_line s ≡ false → after_trailer content s (10 ∷ bytes) ≡ after_trailer content begun.Nothing bytes
unfolding after_trailer
line_end content s bytes e = rw e refl

last_line : (content : List ℕ) (last : LineEnd) (rest : List ℕ) → after_trailer content begun.Nothing (print_end last ++ rest) ≡ whole content rest
unfolding after_trailer
last_line content crlf rest = refl
last_line content lf rest = refl

regroup : (l : List ℕ) (ls : List (List ℕ)) (last : LineEnd) (rest : List ℕ) → print_trailer (l ∷ ls) last ++ rest ≡ l ++ 10 ∷ (print_trailer ls last ++ rest)
regroup l ls last rest = rw flat_map-cons (simp append_assoc)

trailer_read : (content : List ℕ) (ls : List (List ℕ)) (last : LineEnd) (rest : List ℕ) → AreTrailerLines ls → after_trailer content begun.Nothing (print_trailer ls last ++ rest) ≡ whole content rest
trailer_read content [] last rest are = last_line content last rest
trailer_read content (l ∷ ls) last rest are =
    let more = print_trailer ls last ++ rest in
    let run = run_line content begun.Nothing [] l (10 ∷ more) refl are.0.one in
    let some : is_empty_line run.state ≡ false = sym (blank_is run.state l run.begun) ∙ are.0.some in
    ap (after_trailer content begun.Nothing) (regroup l ls last rest) ∙ run.same ∙ line_end content run.state more some ∙ trailer_read content ls last rest are.1

-- ---- what is read is a trailer

abbrev TrailerFrom : List ℕ → List ℕ → List ℕ → Stop → Type 0
TrailerFrom content text bytes (whole found rest) = (found ≡ content) × ReadsTrailer (text ++ bytes) rest
TrailerFrom content text bytes part = Unit {0}
TrailerFrom content text bytes wrong = ⊥
TrailerFrom content text bytes large = ⊥

from_empty : (text bytes : List ℕ) → is_blank text ≡ true → ReadsTrailer (text ++ 10 ∷ bytes) bytes
from_empty [] bytes e = record { lines = []; last = lf; are_lines = tt; whole = refl }
from_empty (b ∷ []) bytes e = let k : b ≡ 13 = grind (arith, nat_tests, e) in record { lines = []; last = crlf; are_lines = tt; whole = ap (λ (x : ℕ). x ∷ 10 ∷ bytes) k }
from_empty (b ∷ c ∷ text) bytes e = absurd cc

from_line : (content text bytes : List ℕ) (stop : Stop) → IsTrailerLine text → TrailerFrom content [] bytes stop → TrailerFrom content text (10 ∷ bytes) stop
from_line content text bytes (whole found rest) is h = (
  h.0,
  record {
    lines = text ∷ h.1.lines;
    last = h.1.last;
    are_lines = (is, h.1.are_lines);
    whole = ap (λ (x : List ℕ). text ++ 10 ∷ x) h.1.whole ∙ sym (regroup text h.1.lines h.1.last rest);
  },
)
from_line content text bytes part is h = tt
from_line content text bytes wrong is h = h
from_line content text bytes large is h = h

from_byte : (content text : List ℕ) (b : ℕ) (bytes : List ℕ) (stop : Stop) → TrailerFrom content (text ++ b ∷ []) bytes stop → TrailerFrom content text (b ∷ bytes) stop
from_byte content text b bytes (whole found rest) h = (h.0, subst (λ (x : List ℕ). ReadsTrailer x rest) (append_assoc text (b ∷ []) bytes) h.1)
from_byte content text b bytes part h = tt
from_byte content text b bytes wrong h = h
from_byte content text b bytes large h = h

from_turn : (content : List ℕ) (s : Begun) (text : List ℕ) (b : ℕ) (bytes : List ℕ) (t u : Bool) → (b == 10) ≡ t → is_empty_line s ≡ u → is_blank text ≡ u → list_all is_in_line text ≡ true
    → TrailerFrom content [] bytes (after_trailer content begun.Nothing bytes)
    → ((b == 10) ≡ false → TrailerFrom content (text ++ b ∷ []) bytes (after_trailer content (begun_more s b) bytes))
    → TrailerFrom content text (b ∷ bytes) (if t then if u then whole content bytes else after_trailer content begun.Nothing bytes else after_trailer content (begun_more s b) bytes)
from_turn content s text b bytes true true e empty blank l lines more = let k : b ≡ 10 = grind (arith, nat_tests, e) in rw k (refl, from_empty text bytes blank)
from_turn content s text b bytes true false e empty blank l lines more = let k : b ≡ 10 = grind (arith, nat_tests, e) in rw k (from_line content text bytes _ (record { one = l; some = blank }) lines)
from_turn content s text b bytes false u e empty blank l lines more = from_byte content text b bytes _ (more e)

trailer_from : (content : List ℕ) (s : Begun) (text bytes : List ℕ) → BegunBy s text → list_all is_in_line text ≡ true → TrailerFrom content text bytes (after_trailer content s bytes)
unfolding after_trailer
trailer_from content s text [] is l = tt
trailer_from content s text (b ∷ bytes) is l =
    from_turn content s text b bytes (b == 10) (is_empty_line s) refl refl (blank_is s text is) l
    (trailer_from content begun.Nothing [] bytes refl refl)
    (λ e. trailer_from content (begun_more s b) (text ++ b ∷ []) bytes (begun_on s text b is) (line_more text b l e))

-- ---- both ways

by_grammar : (content bytes : List ℕ) (stop : Stop) → after_trailer content begun.Nothing bytes ≡ stop → TrailerFrom content [] bytes stop → IsAfterTrailer content bytes stop
by_grammar content bytes (whole found rest) e h = h
by_grammar content bytes part e h = λ rest t. let k = sym e ∙ ap (after_trailer content begun.Nothing) t.whole ∙ trailer_read content t.lines t.last rest t.are_lines in absurd cc
by_grammar content bytes wrong e h = h
by_grammar content bytes large e h = h

trailer_is : (content bytes : List ℕ) → IsAfterTrailer content bytes (after_trailer content begun.Nothing bytes)
trailer_is content bytes = by_grammar content bytes _ refl (trailer_from content begun.Nothing [] bytes refl refl)

part_only : (content bytes : List ℕ) (stop : Stop) → TrailerFrom content [] bytes stop → HasNoTrailer bytes → stop ≡ part
part_only content bytes (whole found rest) h none = absurd (none rest h.1)
part_only content bytes part h none = refl
part_only content bytes wrong h none = absurd h
part_only content bytes large h none = absurd h

trailer_only : (content bytes : List ℕ) (stop : Stop) → IsAfterTrailer content bytes stop → after_trailer content begun.Nothing bytes ≡ stop
trailer_only content bytes (whole found rest) (e, t) = ap (after_trailer content begun.Nothing) t.whole ∙ trailer_read content t.lines t.last rest t.are_lines ∙ ap (λ (c : List ℕ). whole c rest) (sym e)
trailer_only content bytes part none = part_only content bytes _ (trailer_from content begun.Nothing [] bytes refl refl) none
trailer_only content bytes wrong h = absurd h
trailer_only content bytes large h = absurd h

pub turn_is : (content : List ℕ) (l : Line) → IsTurnOf content l (turn_of content l)
turn_is content (line zero rest) = (after_trailer content begun.Nothing rest, refl, trailer_is content rest)
turn_is content (line (suc n) rest) = turn_chunk content (suc n) rest (λ e. absurd cc)
turn_is content no_line = refl
turn_is content part_line = refl

pub turn_only : (content : List ℕ) (l : Line) (turn : Turn) → IsTurnOf content l turn → turn_of content l ≡ turn
turn_only content (line zero rest) turn (stop, e, is) = ap stops (trailer_only content rest stop is) ∙ sym e
turn_only content (line (suc n) rest) turn is = turn_chunk content (suc n) rest (λ e. absurd cc) ∙ sym is
turn_only content no_line turn is = sym is
turn_only content part_line turn is = sym is

-- Bytes begin with one head, and have one next frame.
use Rattle.std.proofs.Common.{◌≡◌, ℕ, zero, suc, ◌-◌, ◌<◌, ◌≤◌, Bool, List, [], ◌∷◌, ◌++◌, length, take, drop, refl, sym, ap, ap₂, subst, ◌∙◌, arith, append_assoc, append-nil}
use Rattle.std.specs.Prelude.{Result, Ok, Err}
use Rattle.std.proofs.lemmas.List.{take-append-drop, take_all}
use Rattle.httparse.specs.Grammar.{RequestHead, print_request, ReadsRequest}
use Rattle.httparse.proofs.GrammarLemmas.{request_unique}
use Rattle.http_session.specs.declared.message.Ending.{Ending}
use Rattle.http_session.specs.declared.message.Ending.TheVariants as ending
use Rattle.http_session.specs.declared.plan.Plan.{Plan}
use Rattle.http_session.specs.Heads.{HeadFound, head, no_head, IsHead, IsBad, head_limit, EndsWithoutHead}
use Rattle.http_session.specs.Fields.{judged}
use Rattle.httparse.specs.Grammar.{chunk_size, ReadsChunkLine}
use Rattle.httparse.proofs.ChunkLemmas.{chunk_line_unique}
use Rattle.http_session.specs.declared.message.Message.{Message}
use Rattle.http_session.specs.declared.plan.Body.{Body}
use Rattle.http_session.specs.declared.plan.Body.TheVariants as way
use Rattle.http_session.specs.Chunks.{Line, line, no_line, part_line, IsLine, Stop, goes, stops, ReadsChunks, sent_limit}
use Rattle.http_session.specs.Spots.{turn_of}
use Rattle.http_session.specs.Frames.{Frame, message, ended, BodyFound, chunked_body, IsBody, framed, IsFramed, FollowsHead, IsNext, Sent, Frames}
use Rattle.http_session.proofs.HeadReads.{front_taken}
use Rattle.http_session.proofs.TrailerLaws.{turn_only}

-- a head within the limit stands in the first bytes
head_in_window : (bytes : List ℕ) (h : RequestHead) (rest : List ℕ) → ReadsRequest bytes h rest → length (print_request h) ≤ head_limit → ReadsRequest (take head_limit bytes) h (take (head_limit - length (print_request h)) rest)
head_in_window bytes h rest reads le = (reads.0, ap (take head_limit) reads.1 ∙ front_taken head_limit (print_request h) rest le)

not_bad : (bytes : List ℕ) (h : RequestHead) (rest : List ℕ) → ReadsRequest bytes h rest → ¬ (IsBad (take head_limit bytes))
not_bad bytes h rest reads (front, more, whole, out, never) =
    never (more ++ drop head_limit bytes) h rest
    (subst (λ (x : List ℕ). ReadsRequest x h rest) (sym (take-append-drop head_limit bytes) ∙ ap (λ (x : List ℕ). x ++ drop head_limit bytes) whole ∙ append_assoc front more (drop head_limit bytes)) reads)

no_other_end : (bytes : List ℕ) (h : RequestHead) (rest : List ℕ) (e : Ending) → ReadsRequest bytes h rest → length (print_request h) ≤ head_limit → ¬ (EndsWithoutHead bytes e)
no_other_end bytes h rest ending.BadHead reads le x = not_bad bytes h rest reads x
no_other_end bytes h rest ending.TooLarge reads le x = x.0.0 h _ (head_in_window bytes h rest reads le)
no_other_end bytes h rest ending.Cut reads le x = x.0.0 h rest reads
no_other_end bytes h rest ending.End reads le x = x.0.0 h rest reads
no_other_end bytes h rest ending.NoLength reads le x = x
no_other_end bytes h rest ending.Coding reads le x = x

pub head_only : (bytes : List ℕ) (h : RequestHead) (rest : List ℕ) (found : HeadFound) → ReadsRequest bytes h rest → length (print_request h) ≤ head_limit → IsHead bytes found → head h rest ≡ found
head_only bytes h rest (head k other) reads le is = let same = request_unique bytes h k rest other reads is.0 in ap₂ head same.0 same.1
head_only bytes h rest (no_head e) reads le is = absurd (no_other_end bytes h rest e reads le is)

-- the frames of bytes that begin with a head
pub frames_of_head : (bytes : List ℕ) (h : RequestHead) (rest : List ℕ) (frame : Frame) → ReadsRequest bytes h rest → length (print_request h) ≤ head_limit → IsNext bytes frame → IsFramed h (judged h) rest frame
frames_of_head bytes h rest frame reads le (found, is, follows) = subst (λ f. FollowsHead f frame) (sym (head_only bytes h rest found reads le is)) follows

-- ---- one chunk line, one body

line_unique : (bytes : List ℕ) (a b : Line) → IsLine bytes a → IsLine bytes b → a ≡ b
line_unique bytes (line n r) (line m q) (l, x, e) (k, y, f) = let same = chunk_line_unique bytes l k r q x y in ap₂ line (e ∙ ap chunk_size same.0 ∙ sym f) same.1
line_unique bytes (line n r) no_line (l, x, e) never = absurd (never [] l r (subst (λ (b : List ℕ). ReadsChunkLine b l r) (sym (append-nil bytes)) x))
line_unique bytes (line n r) part_line (l, x, e) p = absurd (p.0 l r x)
line_unique bytes no_line (line m q) never (k, y, f) = absurd (never [] k q (subst (λ (b : List ℕ). ReadsChunkLine b k q) (sym (append-nil bytes)) y))
line_unique bytes no_line no_line x y = refl
line_unique bytes no_line part_line never p = absurd (p.1 never)
line_unique bytes part_line (line m q) p (k, y, f) = absurd (p.0 k q y)
line_unique bytes part_line no_line p never = absurd (p.1 never)
line_unique bytes part_line part_line x y = refl

chunks_unique : (n m : ℕ) (found bytes : List ℕ) (s t : Stop) → ReadsChunks n found bytes s → ReadsChunks m found bytes t → s ≡ t
chunks_unique zero zero found bytes s t (l, is, e) (k, also, f) =
    let same : stops s ≡ stops t = sym (turn_only found l _ e) ∙ ap (turn_of found) (line_unique bytes l k is also) ∙ turn_only found k _ f in
    cc
chunks_unique zero (suc m) found bytes s t (l, is, e) (k, also, more, rest, f, h) =
    let same : stops s ≡ goes more rest = sym (turn_only found l _ e) ∙ ap (turn_of found) (line_unique bytes l k is also) ∙ turn_only found k _ f in
    absurd cc
chunks_unique (suc n) zero found bytes s t (l, is, more, rest, e, h) (k, also, f) =
    let same : goes more rest ≡ stops t = sym (turn_only found l _ e) ∙ ap (turn_of found) (line_unique bytes l k is also) ∙ turn_only found k _ f in
    absurd cc
chunks_unique (suc n) (suc m) found bytes s t (l, is, more, rest, e, h) (k, also, more', rest', f, h') =
    let same : goes more rest ≡ goes more' rest' = sym (turn_only found l _ e) ∙ ap (turn_of found) (line_unique bytes l k is also) ∙ turn_only found k _ f in
    let a : more' ≡ more = cc in
    let b : rest' ≡ rest = cc in
    chunks_unique n m more rest s t h (subst (λ (x : List ℕ). ReadsChunks m x rest t) a (subst (λ (x : List ℕ). ReadsChunks m more' x t) b h'))

body_unique : (body : Body) (bytes : List ℕ) (a b : BodyFound) → IsBody body bytes a → IsBody body bytes b → a ≡ b
body_unique (way.Sized n) bytes a b x y = x ∙ sym y
body_unique way.Chunked bytes a b (n, s, x, e) (m, t, y, f) = e ∙ ap (chunked_body bytes) (chunks_unique n m [] (take sent_limit bytes) s t x y) ∙ sym f

-- ---- one frame

short_bad : (bytes : List ℕ) → length bytes < head_limit → IsBad (take head_limit bytes) → IsBad bytes
short_bad bytes lt bad = subst IsBad (take_all head_limit bytes (omega arith)) bad

end_unique : (bytes : List ℕ) (a b : Ending) → EndsWithoutHead bytes a → EndsWithoutHead bytes b → a ≡ b
end_unique bytes ending.BadHead ending.BadHead x y = refl
end_unique bytes ending.BadHead ending.TooLarge x y = absurd (y.0.1 x)
end_unique bytes ending.BadHead ending.Cut x y = absurd (y.0.1 (short_bad bytes y.1 x))
end_unique bytes ending.BadHead ending.End x y = absurd (y.0.1 (short_bad bytes y.1 x))
end_unique bytes ending.BadHead ending.NoLength x y = absurd y
end_unique bytes ending.BadHead ending.Coding x y = absurd y
end_unique bytes ending.TooLarge ending.BadHead x y = absurd (x.0.1 y)
end_unique bytes ending.TooLarge ending.TooLarge x y = refl
end_unique bytes ending.TooLarge ending.Cut x y = absurd (omega (arith, x.1, y.1))
end_unique bytes ending.TooLarge ending.End x y = absurd (omega (arith, x.1, y.1))
end_unique bytes ending.TooLarge ending.NoLength x y = absurd y
end_unique bytes ending.TooLarge ending.Coding x y = absurd y
end_unique bytes ending.Cut ending.BadHead x y = absurd (x.0.1 (short_bad bytes x.1 y))
end_unique bytes ending.Cut ending.TooLarge x y = absurd (omega (arith, x.1, y.1))
end_unique bytes ending.Cut ending.Cut x y = refl
end_unique bytes ending.Cut ending.End x y = let e = sym x.2 ∙ y.2 in absurd cc
end_unique bytes ending.Cut ending.NoLength x y = absurd y
end_unique bytes ending.Cut ending.Coding x y = absurd y
end_unique bytes ending.End ending.BadHead x y = absurd (x.0.1 (short_bad bytes x.1 y))
end_unique bytes ending.End ending.TooLarge x y = absurd (omega (arith, x.1, y.1))
end_unique bytes ending.End ending.Cut x y = let e = sym x.2 ∙ y.2 in absurd cc
end_unique bytes ending.End ending.End x y = refl
end_unique bytes ending.End ending.NoLength x y = absurd y
end_unique bytes ending.End ending.Coding x y = absurd y
end_unique bytes ending.NoLength b x y = absurd x
end_unique bytes ending.Coding b x y = absurd x

head_unique : (bytes : List ℕ) (a b : HeadFound) → IsHead bytes a → IsHead bytes b → a ≡ b
head_unique bytes (head h rest) b x y = head_only bytes h rest b x.0 x.1 y
head_unique bytes (no_head e) (head k rest) x y = sym (head_only bytes k rest (no_head e) y.0 y.1 x)
head_unique bytes (no_head e) (no_head f) x y = ap no_head (end_unique bytes e f x y)

framed_unique : (h : RequestHead) (r : Result Plan Ending) (rest : List ℕ) (a b : Frame) → IsFramed h r rest a → IsFramed h r rest b → a ≡ b
framed_unique h (Err e) rest a b x y = x ∙ sym y
framed_unique h (Ok plan) rest a b (found, is, e) (other, also, f) = e ∙ ap (framed h.method h.target plan) (body_unique plan.body rest found other is also) ∙ sym f

follows_unique : (found : HeadFound) (a b : Frame) → FollowsHead found a → FollowsHead found b → a ≡ b
follows_unique (head h rest) a b x y = framed_unique h (judged h) rest a b x y
follows_unique (no_head e) a b x y = x ∙ sym y

pub next_unique : (bytes : List ℕ) (a b : Frame) → IsNext bytes a → IsNext bytes b → a ≡ b
next_unique bytes a b (found, is, x) (other, also, y) =
    follows_unique found a b x (subst (λ k. FollowsHead k b) (sym (head_unique bytes found other is also)) y)

abbrev sent : Message → Bool → Sent
sent a b = record { message = a; due = b }

pub frames_unique : (bytes : List ℕ) (ms ns : List Sent) (e f : Ending) (d g : Bool) → Frames bytes ms e d → Frames bytes ns f g → (ms ≡ ns) × (e ≡ f) × (d ≡ g)
frames_unique bytes [] [] e f d g x y = let same = next_unique bytes (ended e d) (ended f g) x y in (refl, cc, cc)
frames_unique bytes [] (t ∷ ns) e f d g x (rest, y, z) = let same = next_unique bytes (ended e d) (message t.message t.due rest) x y in absurd cc
frames_unique bytes (s ∷ ms) [] e f d g (rest, x, z) y = let same = next_unique bytes (message s.message s.due rest) (ended f g) x y in absurd cc
frames_unique bytes (s ∷ ms) (t ∷ ns) e f d g (rest, x, more) (rest', y, more') =
    let same = next_unique bytes (message s.message s.due rest) (message t.message t.due rest') x y in
    let m : s.message ≡ t.message = cc in
    let due : s.due ≡ t.due = cc in
    let left : rest' ≡ rest = cc in
    let tail = frames_unique rest ms ns e f d g more (subst (λ (r : List ℕ). Frames r ns f g) left more') in
    (ap₂ ◌∷◌ (ap₂ (λ (a : Message) (b : Bool). sent a b) m due) tail.0, tail.1, tail.2)

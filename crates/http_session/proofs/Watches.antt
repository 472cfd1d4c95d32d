-- A head ends where the watch says that one may.
use Rattle.std.proofs.Common.{◌≡◌, ℕ, ◌≤◌, Bool, true, false, ◌==◌, List, [], ◌∷◌, ◌++◌, length, inl, inr, refl, sym, ap, subst, ◌∙◌, arith, append_assoc, append-nil}
use Rattle.std.specs.Prelude.{if◌then◌else◌}
use Rattle.std.specs.List.{fold, flat_map}
use Rattle.std.proofs.lemmas.List.Sums.{fold-append}
use Rattle.std.proofs.lemmas.List.{length-append, take-append-le}
use Rattle.httparse.specs.Grammar.{LineEnd, crlf, lf, print_end, print_blank, print_version, Field, print_field, RequestHead, print_request, ReadsRequest, HasNoRequest}
use Rattle.httparse.specs.Ascii.{space, colon}
use Rattle.http_session.specs.declared.watch.Lines.{Lines}
use Rattle.http_session.specs.declared.watch.Watch.{Watch}
use Rattle.http_session.specs.Watching.{no_lines, with_byte, may_end, lines_of, HasNoEnd, HasSeen, HasJudged}
use Rattle.http_session.proofs.Bad.{Longer, two_fronts}

-- ---- the lines of a head

by_byte : (s : Lines) (b : ℕ) → s.has_begun ≡ true → (with_byte s b).has_begun ≡ true
by_byte s b e = by (b == 10) (b == 13)
  where
    by : (t u : Bool) → (if t then record { has_begun = s.has_begun; has_line = s.has_begun; is_empty = true } else (if u then s else record { has_begun = true; has_line = s.has_line; is_empty = false })).has_begun ≡ true
    by true u = e
    by false true = e
    by false false = refl

begun_stays : (s : Lines) (xs : List ℕ) → s.has_begun ≡ true → (fold with_byte s xs).has_begun ≡ true
begun_stays s [] e = e
begun_stays s (b ∷ xs) e = begun_stays (with_byte s b) xs (by_byte s b e)

abbrev lines_from : Lines → List ℕ → Lines
lines_from s xs = fold with_byte s xs

empty_behind : (s : Lines) (e : LineEnd) → (lines_from s (print_end e)).is_empty ≡ true
empty_behind s crlf = refl
empty_behind s lf = refl

-- some bytes and then the end of a line
empty_behind_both : (s : Lines) (xs : List ℕ) (e : LineEnd) → (lines_from s (xs ++ print_end e)).is_empty ≡ true
empty_behind_both s xs e = ap (λ t. t.is_empty) (fold-append with_byte s xs (print_end e)) ∙ empty_behind (lines_from s xs) e

empty_fields : (s : Lines) (fields : List Field) → s.is_empty ≡ true → (lines_from s (flat_map print_field fields)).is_empty ≡ true
empty_fields s [] e = e
empty_fields s (f ∷ fields) e =
    ap (λ t. t.is_empty) (fold-append with_byte s (print_field f) (flat_map print_field fields))
    ∙ empty_fields (lines_from s (print_field f)) fields (empty_behind_both s (f.name ++ colon ∷ f.raw) f.end)

-- a head up to the empty line that ends it
abbrev start_line : RequestHead → List ℕ
start_line h = print_blank h.blank ++ h.method ++ space ∷ h.target ++ space ∷ print_version h.minor

abbrev body_of : RequestHead → List ℕ
body_of h = start_line h ++ print_end h.line_end ++ flat_map print_field h.fields

begun_line : (s : Lines) (a target version : List ℕ) → (lines_from s (a ++ 32 ∷ target ++ 32 ∷ version)).has_begun ≡ true
begun_line s a target version =
    ap (λ t. t.has_begun) (fold-append with_byte s (a ++ 32 ∷ target) (32 ∷ version)) ∙ begun_stays (with_byte (lines_from s (a ++ 32 ∷ target)) 32) version refl

begun_body : (h : RequestHead) → (lines_of (body_of h)).has_begun ≡ true
begun_body h =
    let start = begun_line no_lines (print_blank h.blank ++ h.method) h.target (print_version h.minor) in
    ap (λ t. t.has_begun) (fold-append with_byte no_lines (start_line h ++ print_end h.line_end) (flat_map print_field h.fields))
    ∙ begun_stays _ (flat_map print_field h.fields) (ap (λ t. t.has_begun) (fold-append with_byte no_lines (start_line h) (print_end h.line_end)) ∙ begun_stays _ (print_end h.line_end) start)

empty_body : (h : RequestHead) → (lines_of (body_of h)).is_empty ≡ true
empty_body h =
    ap (λ t. t.is_empty) (fold-append with_byte no_lines (start_line h ++ print_end h.line_end) (flat_map print_field h.fields))
    ∙ empty_fields _ h.fields (empty_behind_both no_lines (start_line h) h.line_end)

-- ---- where a head ends

pub record EndsAt (bytes : List ℕ) : Type 0 where
  pub front : List ℕ
  pub whole : bytes ≡ front ++ 10 ∷ []
  pub may : may_end (lines_of front) 10 ≡ true

may_now : (s : Lines) → s.has_begun ≡ true → s.is_empty ≡ true → may_end s 10 ≡ true
may_now s begun empty = rw (begun, empty) refl

ends_by : (xs : List ℕ) (last : LineEnd) → (lines_of xs).has_begun ≡ true → (lines_of xs).is_empty ≡ true → EndsAt (xs ++ print_end last)
ends_by xs lf begun empty = record { front = xs; whole = refl; may = may_now (lines_of xs) begun empty }
ends_by xs crlf begun empty = record {
  front = xs ++ 13 ∷ [];
  whole = sym (append_assoc xs (13 ∷ []) (10 ∷ []));
  may = ap (λ s. may_end s 10) (fold-append with_byte no_lines xs (13 ∷ [])) ∙ may_now (lines_of xs) begun empty;
}

printed : (h : RequestHead) → print_request h ≡ body_of h ++ print_end h.last
unfolding print_request
printed h = sym (append_assoc (start_line h ++ print_end h.line_end) (flat_map print_field h.fields) (print_end h.last))

pub head_ends : (h : RequestHead) → EndsAt (print_request h)
head_ends h = subst EndsAt (sym (printed h)) (ends_by (body_of h) h.last (begun_body h) (empty_body h))

-- ---- no head yet

pub nothing_yet : HasNoRequest []
nothing_yet h rest reads =
    let e = head_ends h in
    let l = ap length (reads.1 ∙ ap (λ (t : List ℕ). t ++ rest) e.whole) in
    let m = length-append (e.front ++ 10 ∷ []) rest in
    let n = length-append e.front (10 ∷ []) in
    absurd (omega (arith, l, m, n))

-- a head that ends behind the bytes that were judged would have been seen
ends_behind : (judged x more : List ℕ) (h : RequestHead) (start : ℕ) → start ≤ length judged → HasNoRequest judged → ReadsRequest (judged ++ more) h x → HasNoEnd start (judged ++ more) → ⊥
ends_behind judged x more h start within none reads no_end =
    elim (two_fronts (print_request h) x judged more (sym reads.1)) [
      | inl l ↦ at_end l (head_ends h)
      | inr l ↦ none h l.x (reads.0, l.front)
    ]
  where
    at_end : Longer (print_request h) x judged more → EndsAt (print_request h) → ⊥
    at_end l e = by l.x l.front
      where
        by : (y : List ℕ) → print_request h ≡ judged ++ y → ⊥
        by [] is = none h [] (reads.0, sym (append-nil judged) ∙ sym is ∙ sym (append-nil (print_request h)))
        by (b ∷ y) is =
            let long = ap length is ∙ length-append judged (b ∷ y) in
            let short = ap length e.whole ∙ length-append e.front (10 ∷ []) in
            let no = no_end e.front 10 x (reads.1 ∙ ap (λ (t : List ℕ). t ++ x) e.whole ∙ append_assoc e.front (10 ∷ []) x) (omega (arith, long, short, within)) in
            absurd (cc)

pub none_yet : (watch : Watch) (bytes : List ℕ) → HasJudged watch bytes → HasNoEnd watch.seen bytes → HasNoRequest bytes
none_yet watch bytes j no_end h rest reads =
    ends_behind j.judged rest j.rest h watch.seen j.within j.none (reads.0, sym j.whole ∙ reads.1) (λ front b r is le. no_end front b r (j.whole ∙ is) le)

-- ---- what was judged

pub judged_none : (watch : Watch) (bytes : List ℕ) → watch.seen ≡ 0 → watch.lines ≡ no_lines → HasJudged watch bytes
judged_none watch bytes seen lines = record { judged = []; rest = bytes; whole = refl; none = nothing_yet; within = omega (arith, seen); lines = rw seen lines }

pub seen_judged : (watch : Watch) (bytes : List ℕ) → HasJudged watch bytes → HasSeen watch bytes
seen_judged watch bytes j = record {
  within = let l = ap length j.whole ∙ length-append j.judged j.rest in omega (arith, l, j.within);
  lines = j.lines;
}

pub judged_all : (watch : Watch) (bytes : List ℕ) → HasSeen watch bytes → HasNoRequest bytes → HasJudged watch bytes
judged_all watch bytes s none = record { judged = bytes; rest = []; whole = sym (append-nil bytes); none = none; within = s.within; lines = s.lines }

pub judged_more : (watch : Watch) (bytes more : List ℕ) → HasJudged watch bytes → HasJudged watch (bytes ++ more)
judged_more watch bytes more j = record {
  judged = j.judged;
  rest = j.rest ++ more;
  whole = ap (λ (t : List ℕ). t ++ more) j.whole ∙ append_assoc j.judged j.rest more;
  none = j.none;
  within = j.within;
  lines = j.lines ∙ ap lines_of (sym (take-append-le watch.seen bytes more (seen_judged watch bytes j).within));
}

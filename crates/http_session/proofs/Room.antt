-- 16,384 bytes hold at most 5,461 fields.
use Rattle.std.proofs.Common.{◌≡◌, ℕ, zero, suc, ◌*◌, ◌≤◌, List, [], ◌∷◌, ◌++◌, length, length-append, ap, arith, All, suc-le-suc, zero-le}
use Rattle.std.specs.List.{flat_map}
use Rattle.httparse.specs.Grammar.{LineEnd, crlf, lf, print_end, Field, print_field, IsField, print_section, RequestHead, print_request, NeverHasRequest, print_blank, print_version}
use Rattle.std.specs.Prelude.{Result, Ok, Err}
use Rattle.httparse.specs.Outcome.{OnInvalid, OnTooManyHeaders}
use Rattle.httparse.specs.declared.Error.{Error}
use Rattle.httparse.specs.Spans.{RequestExceeds}

end_long : (e : LineEnd) → 1 ≤ length (print_end e)
end_long crlf = omega arith
end_long lf = omega arith

-- a field has three bytes at least
field_long : (f : Field) → IsField f → 3 ≤ length (print_field f)
field_long f is =
    let e = end_long f.end in
    let n = is.name.0 in
    let a = length-append (f.name ++ 58 ∷ f.raw) (print_end f.end) in
    let b = length-append f.name (58 ∷ f.raw) in
    let whole : 3 ≤ length (f.name ++ 58 ∷ f.raw ++ print_end f.end) = omega arith in
    whole

fields_long : (fs : List Field) → All IsField fs → 3 * length fs ≤ length (flat_map print_field fs)
fields_long [] all = omega arith
fields_long (f ∷ fs) all =
    let here = field_long f (all zero f (suc-le-suc zero-le)) in
    let more = fields_long fs (λ k d lt. all (suc k) d (suc-le-suc lt)) in
    rw (length-append (print_field f) _) (omega arith)

-- a head is longer than three bytes for each field
pub head_long : (h : RequestHead) → All IsField h.fields → 3 * length h.fields ≤ length (print_request h)
unfolding print_request
head_long h all =
    let more = fields_long h.fields all in
    let a = length-append (print_blank h.blank ++ h.method ++ 32 ∷ h.target ++ 32 ∷ print_version h.minor ++ print_end h.line_end) (print_section h.fields h.last) in
    let b = length-append (flat_map print_field h.fields) (print_end h.last) in
    rw (a, b) (omega arith)

-- so many fields do not fit
pub never_exceeds : (room : ℕ) (bytes : List ℕ) → room ≡ 5500 → length bytes ≤ 16384 → RequestExceeds room bytes → ⊥
never_exceeds room bytes wide few (front, rest, whole, h, reads, many) =
    let long = head_long h reads.0.fields in
    let a = length-append front rest in
    let b = length-append front (print_end lf) in
    let c = ap length reads.1 in
    let d = length-append (print_request h) [] in
    let e = ap length whole in
    omega arith

-- so on an error no bytes can follow
pub never : {A : Type 0} (r : Result A Error) (room : ℕ) (bytes : List ℕ) (e : Error) → r ≡ Err e → room ≡ 5500 → length bytes ≤ 16384 → OnInvalid r (NeverHasRequest bytes) → OnTooManyHeaders r (RequestExceeds room bytes) → NeverHasRequest bytes
never (Ok x) room bytes e is wide few invalid many = cc
never (Err e) room bytes _ is wide few invalid many = invalid (λ same. never_exceeds room bytes wide few (many (ap Err same)))

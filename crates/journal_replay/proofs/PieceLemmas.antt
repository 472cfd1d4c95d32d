-- The pieces of a run of bytes: how many they are, that they are bytes, and one piece more behind the others.
use Rattle.std.proofs.Common.{◌≡◌, ℕ, ◌+◌, ◌<◌, ◌≤◌, List, [], ◌∷◌, ◌++◌, length, take, drop, All, refl, sym, ap, ◌∙◌, arith}
use Rattle.std.specs.Prelude.{sum}
use Rattle.std.proofs.Math.Seq.{take-length}
use Rattle.std.proofs.lemmas.List.{length-drop, take-append-le, drop-append-le}
use Rattle.std.proofs.lemmas.List.Elements.{All-nil, All-cons, All-take, All-drop}
use Rattle.std.proofs.lemmas.List.Sums.{sum_by-cons}
use Rattle.journal_format.specs.Numbers.{AreBytes}
use Rattle.journal_replay.specs.Pieces.{pieces}

pub one_piece_more : (lengths bytes body : List ℕ) → sum lengths ≡ length bytes → pieces (lengths ++ length body ∷ []) (bytes ++ body) ≡ pieces lengths bytes ++ body ∷ []
one_piece_more [] [] body is = ap (λ b. b ∷ []) (take-length body)
one_piece_more [] (b ∷ bytes) body is = absurd (omega (arith, is))
one_piece_more (n ∷ lengths) bytes body is =
    let all : n + sum lengths ≡ length bytes = sym (sum_by-cons (λ x. x) n lengths) ∙ is in
    let within : n ≤ length bytes = omega (arith, all) in
    let rest : sum lengths ≡ length (drop n bytes) = omega (arith, all, length-drop n bytes) in
    rw (take-append-le n bytes body within, drop-append-le n bytes body within, one_piece_more lengths (drop n bytes) body rest) refl

-- there are as many pieces as lengths
pub pieces_count : (lengths bytes : List ℕ) → length (pieces lengths bytes) ≡ length lengths
pieces_count [] bytes = refl
pieces_count (n ∷ lengths) bytes = let rest = pieces_count lengths (drop n bytes) in grind (arith, rest)

-- a piece of bytes is bytes
pub pieces_bytes : (lengths bytes : List ℕ) → AreBytes bytes → All AreBytes (pieces lengths bytes)
pieces_bytes [] bytes are = All-nil AreBytes
pieces_bytes (n ∷ lengths) bytes are =
    All-cons AreBytes (take n bytes) (pieces lengths (drop n bytes)) (All-take (λ b. b < 256) n bytes are) (pieces_bytes lengths (drop n bytes) (All-drop (λ b. b < 256) n bytes are))

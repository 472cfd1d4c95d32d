-- One turn of a loop that reads, and what tells of a text.
use Rattle.std.proofs.Common.{◌≡◌, Bool, true, false, ℕ, suc, ◌+◌, ◌-◌, ◌<◌, ◌≤◌, List, [], ◌∷◌, ◌++◌, Ok, refl, arith}
use Rattle.std.specs.Str.{IsUtf8, is_utf8}
use Rattle.std.proofs.lemmas.Str.{is_utf8-from_IsUtf8, IsUtf8-from_is_utf8}
use Rattle.wfs_ends.specs.Read.{◌>>=◌}
use Rattle.journal_format.specs.Numbers.{Reads}
use Rattle.journal_format.specs.Reading.{times}

pub times_turn : {A : Type 0} (read : List ℕ → Reads A) (n i : ℕ) (found : List A) (bytes : List ℕ) → i < n → times read (n - i) found bytes ≡ (read bytes >>= λ x. times read (n - (i + 1)) (found ++ x.0 ∷ []) x.1)
unfolding times
times_turn read n i found bytes lt =
    let k : n - i ≡ suc (n - (i + 1)) = omega arith in
    rw k refl

pub times_end : {A : Type 0} (read : List ℕ → Reads A) (n i : ℕ) (found : List A) (bytes : List ℕ) → n ≤ i → times read (n - i) found bytes ≡ Ok (found, bytes)
unfolding times
times_end read n i found bytes le =
    let k : n - i ≡ 0 = omega arith in
    rw k refl

pub is_utf8_yes : (bs : List ℕ) → IsUtf8 bs → is_utf8 bs ≡ true
is_utf8_yes = is_utf8-from_IsUtf8

false_unless : (b : Bool) → (b ≡ true → ⊥) → b ≡ false
false_unless true h = absurd (h refl)
false_unless false h = refl

pub is_utf8_no : (bs : List ℕ) → ¬ (IsUtf8 bs) → is_utf8 bs ≡ false
is_utf8_no bs is = false_unless (is_utf8 bs) (λ e. is (IsUtf8-from_is_utf8 bs e))

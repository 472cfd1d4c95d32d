-- The bytes of a number tell it, and the number tells the bytes.
use Rattle.std.proofs.Common.{◌≡◌, ℕ, zero, suc, ◌+◌, ◌*◌, ◌/◌, ◌%◌, ◌^◌, ◌<◌, ◌≤◌, true, false, List, [], ◌∷◌, ◌++◌, length, take, drop, get_or, Ok, Err, refl, sym, ap, ◌∙◌, subst, arith, inl, inr}
use Rattle.std.specs.Prelude.{nat_lt, if◌then◌else◌, Bool}
use Rattle.std.specs.Int.{byte_at, bytes_high_first}
use Rattle.std.proofs.Math.Nat.{div-one, mod-eq_of_lt, mul-add-div_right, mul-add-mod_self_right, one-le-pow, pow-succ', mul_assoc}
use Rattle.std.proofs.lemmas.Bool.{cases_lt}
use Rattle.std.proofs.lemmas.Nat.{div-mul-add}
use Rattle.std.proofs.lemmas.List.{length-append, take-append-drop, drop_at, get_or_past}
use Rattle.std.proofs.lemmas.List.Elements.{All-tail, All-head}
use Rattle.byteorder.specs.Endian.{big_number}
use Rattle.byteorder.specs.Numbers.{big_from-cons, big_from-lt, big_number-reads_back}
use Rattle.journal_format.specs.Numbers.{AreBytes, be, number_at}
use Rattle.journal_format.specs.declared.fault.RecordFault.{RecordFault}
use Rattle.journal_format.specs.declared.fault.RecordFault.TheVariants.{Cut}
use Rattle.wfs_ends.proofs.Turns.{ok_is}
use Rattle.journal_format.proofs.Words.{IsRead, IsExact}
use Rattle.journal_format.proofs.Writes.{length_be}

pow_pos256 : (n : ℕ) → 0 < 256 ^ n
pow_pos256 n = let h = one-le-pow n 256 (omega arith) in omega arith

byte_at-pow : (k x : ℕ) → byte_at k x ≡ x / 256 ^ k % 256
byte_at-pow zero x = ap (λ (y : ℕ). y % 256) (sym (div-one x))
byte_at-pow (suc k) x = refl

-- what stands above n bytes has no say in them
low_alone : (n c y : ℕ) → bytes_high_first n (c * 256 ^ n + y) ≡ bytes_high_first n y
low_alone zero c y = refl
low_alone (suc n) c y =
    let split : c * 256 ^ suc n ≡ c * 256 * 256 ^ n = ap (λ (p : ℕ). c * p) (pow-succ' 256 n) ∙ sym (mul_assoc c 256 (256 ^ n)) in
    let top : (c * 256 * 256 ^ n + y) / 256 ^ n ≡ c * 256 + y / 256 ^ n = mul-add-div_right (pow_pos256 n) (c * 256) y in
    let byte : byte_at n (c * 256 * 256 ^ n + y) ≡ byte_at n y = byte_at-pow n (c * 256 * 256 ^ n + y) ∙ ap (λ (x : ℕ). x % 256) top ∙ mul-add-mod_self_right c 256 (y / 256 ^ n) ∙ sym (byte_at-pow n y) in
    let rest : bytes_high_first n (c * 256 * 256 ^ n + y) ≡ bytes_high_first n y = low_alone n (c * 256) y in
    rw (split, byte, rest) refl

small : (bytes : List ℕ) → AreBytes bytes → (i : ℕ) → get_or bytes i 0 < 256
small bytes are i = elim (cases_lt i (length bytes)) [
  | inl within ↦ are i 0 within
  | inr past ↦ rw (get_or_past bytes i 0 past) (omega arith)
]

-- the bytes of the number in n bytes are those
bytes_again : (n : ℕ) (bytes : List ℕ) → n ≤ length bytes → AreBytes bytes → bytes_high_first n (big_number n bytes) ≡ take n bytes
bytes_again zero bytes le are = refl
bytes_again (suc n) [] le are = absurd (omega arith)
bytes_again (suc n) (b ∷ bytes) le are =
    let less : b < 256 = All-head (λ x. x < 256) b bytes are in
    let rest : AreBytes bytes = All-tail (λ x. x < 256) b bytes are in
    let low : big_number n bytes < 256 ^ n = big_from-lt 0 n bytes (small bytes rest) in
    let top : (b * 256 ^ n + big_number n bytes) / 256 ^ n ≡ b = div-mul-add b (256 ^ n) (big_number n bytes) low in
    let byte : byte_at n (b * 256 ^ n + big_number n bytes) ≡ b = byte_at-pow n (b * 256 ^ n + big_number n bytes) ∙ ap (λ (x : ℕ). x % 256) top ∙ mod-eq_of_lt less in
    rw (big_from-cons 0 n b bytes, byte, low_alone n b (big_number n bytes), bytes_again n bytes (omega arith) rest) refl

pub not_less : (m n : ℕ) → n ≤ m → nat_lt m n ≡ false
not_less m n le = grind arith

-- what was written reads back
pub number_again : (n x : ℕ) (rest : List ℕ) → x < 256 ^ n → number_at n (be n x ++ rest) ≡ Ok (x, rest)
unfolding number_at be
number_again n x rest lt =
    let long = not_less (length (be n x ++ rest)) n (omega (arith, length-append (be n x) rest, length_be n x)) in
    rw (long, big_number-reads_back n x rest lt, drop_at (be n x) rest n (length_be n x)) refl

read_long : (n : ℕ) (bytes : List ℕ) → n ≤ length bytes → AreBytes bytes → IsRead (be n) (λ x. x < 256 ^ n) bytes (big_number n bytes, drop n bytes)
unfolding be
read_long n bytes le are = record {
  whole = sym (ap (λ (l : List ℕ). l ++ drop n bytes) (bytes_again n bytes le are) ∙ take-append-drop n bytes);
  such = big_from-lt 0 n bytes (small bytes are);
}

read_by : (n : ℕ) (bytes : List ℕ) (x : ℕ × List ℕ) (b : Bool) → nat_lt (length bytes) n ≡ b → AreBytes bytes → (if b then Err Cut else Ok (big_number n bytes, drop n bytes)) ≡ Ok x → IsRead (be n) (λ x. x < 256 ^ n) bytes x
read_by n bytes x true short are e = absurd cc
read_by n bytes x false long are e =
    let le : n ≤ length bytes = grind arith in
    subst (IsRead (be n) (λ x. x < 256 ^ n) bytes) (ok_is RecordFault _ _ e) (read_long n bytes le are)

-- what is read was written so
pub number_exact : (n : ℕ) → IsExact (number_at n) (be n) (λ x. x < 256 ^ n)
unfolding number_at
number_exact n = record { told = λ bytes x are e. read_by n bytes x (nat_lt (length bytes) n) refl are e }

-- The number that the digits in front write, one digit after the other.
use Rattle.std.proofs.Common.{◌≡◌, ℕ, ◌+◌, ◌-◌, ◌*◌, ◌<◌, true, List, length, get_or, take, drop, sym, ap, ◌∙◌, arith}
use Rattle.std.specs.Char.{is_ascii_digit, digit_value}
use Rattle.std.specs.Str.Parse.{digits_value}
use Rattle.std.proofs.lemmas.List.Sums.{prefix_len-drop_yes}
use Rattle.std.proofs.lemmas.Int.Digits.{digits_value_more}
use Rattle.gml_docs.specs.Numbers.{digit_count, near_natural}
use Rattle.gml_docs.proofs.Near.{near_more}

value_is : (c : ℕ) → is_ascii_digit c ≡ true → digit_value c ≡ c - 48
value_is c e = grind (arith, e)

pub one_more : (text : List ℕ) (i n : ℕ) → i < length text → is_ascii_digit (get_or text i 0) ≡ true → n ≡ near_natural (digits_value 10 (take i text))
    → near_natural (n * 10 + (get_or text i 0 - 48)) ≡ near_natural (digits_value 10 (take (i + 1) text))
one_more text i n lt digit e =
    ap (λ m. near_natural (m * 10 + (get_or text i 0 - 48))) e
    ∙ near_more (digits_value 10 (take i text)) (get_or text i 0 - 48)
    ∙ ap near_natural (sym (digits_value_more 10 text i lt ∙ ap (λ d. digits_value 10 (take i text) * 10 + d) (value_is _ digit)))

pub one_digit : (text : List ℕ) (i total : ℕ) → i < length text → is_ascii_digit (get_or text i 0) ≡ true → digit_count (drop i text) + i ≡ total
    → digit_count (drop (i + 1) text) + (i + 1) ≡ total
one_digit text i total lt digit so_far = omega (arith, prefix_len-drop_yes is_ascii_digit text i 0 lt digit, so_far)

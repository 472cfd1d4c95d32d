-- White space at the end of a text, seen from a place in it.
use Rattle.std.proofs.Common.{◌≡◌, ℕ, ◌+◌, ◌-◌, ◌<◌, ◌≤◌, true, false, List, length, get_or, take, refl}
use Rattle.std.proofs.lemmas.List.Sums.{suffix_len-take_yes, suffix_len-take_no}
use Rattle.std.specs.List.{suffix_len}
use Rattle.feature_values.specs.Reads.{is_space}

pub ends_in_space : (text : List ℕ) (n : ℕ) → 0 < n → n ≤ length text → is_space (get_or text (n - 1) 0) ≡ true → suffix_len is_space (take n text) ≡ 1 + suffix_len is_space (take (n - 1) text)
ends_in_space text n some le e = suffix_len-take_yes is_space text n 0 some le e

pub ends_in_none : (text : List ℕ) (n : ℕ) → 0 < n → n ≤ length text → is_space (get_or text (n - 1) 0) ≡ false → suffix_len is_space (take n text) ≡ 0
ends_in_none text n some le e = suffix_len-take_no is_space text n 0 some le e

pub ends_at_once : (text : List ℕ) (n : ℕ) → n ≡ 0 → suffix_len is_space (take n text) ≡ 0
ends_at_once text n e = rw e refl

-- A text without a dash is no identifier.
use Rattle.std.proofs.Common.{◌≡◌, ℕ, ◌+◌, Bool, true, false, List, length, None, refl, arith}
use Rattle.std.specs.Prelude.{if◌then◌else◌}
use Rattle.std.proofs.lemmas.List.{drop_all}
use Rattle.std.specs.List.{position_or_len, after_first, before_first}
use Rattle.feature_values.specs.Ids.{number_of}
use Rattle.lock_table.specs.Ids.{is_dash, is_lock, numbers_of, id_of}

nothing_behind : (text : List ℕ) → position_or_len is_dash text ≡ length text → number_of (after_first is_dash text) ≡ None
unfolding number_of
nothing_behind text e = rw (drop_all (position_or_len is_dash text + 1) text (omega (arith, e))) refl

pub no_dash : (text : List ℕ) → position_or_len is_dash text ≡ length text → numbers_of text ≡ None
unfolding numbers_of
no_dash text e = rw (nothing_behind text e) refl

no_numbers_behind : (text : List ℕ) → position_or_len is_dash text ≡ length text → numbers_of (after_first is_dash text) ≡ None
unfolding numbers_of number_of
no_numbers_behind text e = rw (drop_all (position_or_len is_dash text + 1) text (omega (arith, e))) refl

same_both : {A : Type 0} (b : Bool) (x : A) → (if b then x else x) ≡ x
same_both true x = refl
same_both false x = refl

pub no_first_dash : (text : List ℕ) → position_or_len is_dash text ≡ length text → id_of text ≡ None
unfolding id_of
no_first_dash text e = rw (no_numbers_behind text e) (same_both (is_lock (before_first is_dash text)) None)

-- A text without a dot is no identifier.
use Rattle.std.proofs.Common.{◌≡◌, ℕ, ◌+◌, List, length, None, refl, arith}
use Rattle.std.proofs.lemmas.List.{drop_all}
use Rattle.std.specs.List.{position_or_len, after_first}
use Rattle.feature_values.specs.declared.schema.Schema.{Schema}
use Rattle.feature_values.specs.Ids.{is_dot, number_of, rid_of}

nothing_behind : (text : List ℕ) → position_or_len is_dot text ≡ length text → number_of (after_first is_dot text) ≡ None
unfolding number_of
nothing_behind text e = rw (drop_all (position_or_len is_dot text + 1) text (omega (arith, e))) refl

pub no_dot : (schema : Schema) (text : List ℕ) → position_or_len is_dot text ≡ length text → rid_of schema text ≡ None
unfolding rid_of
no_dot schema text e = rw (nothing_behind text e) refl

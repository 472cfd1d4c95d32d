-- A list cut at its commas: its first part, where there is no comma, and a name in its last parts.
use Rattle.std.proofs.Common.{◌≡◌, Bool, true, ℕ, ◌<◌, List, [], ◌∷◌, length, refl, ap, ◌∙◌, inl, inr, arith}
use Rattle.std.proofs.lemmas.Bool.{cases_Bool}
use Rattle.std.proofs.lemmas.List.Splits.{slice_split_first, length-slice_split, join_with_byte-slice_split}
use Rattle.std.specs.List.{position_or_len, before_first, after_first, slice_split, onto_first, join_with_byte}
use Rattle.feature_values.specs.declared.schema.Schema.{Schema}
use Rattle.wfs_model.specs.Terms.{is_listed}
use Rattle.kvp_queries.specs.Lists.{is_comma}
use Rattle.kvp_queries.specs.Selection.{is_system}

pub first_part : (p : ℕ → Bool) (text : List ℕ) → position_or_len p text < length text → slice_split p text ≡ before_first p text ∷ slice_split p (after_first p text)
first_part p text lt = slice_split_first p text 0 lt

pub one_part : (p : ℕ → Bool) (text : List ℕ) → position_or_len p text ≡ length text → slice_split p text ≡ text ∷ []
one_part p [] e = refl
one_part p (x ∷ xs) e =
    elim (cases_Bool (p x)) [
      | inl found ↦ absurd (omega (arith, rw found at e))
      | inr other ↦ rw other (ap (onto_first x) (one_part p xs (omega (arith, rw other at e))))
    ]

-- ---- the name of a reference system

pub no_system : (schema : Schema) → is_system schema [] ≡ true
unfolding is_system
no_system schema = refl

named_so : (schema : Schema) (parts : List (List ℕ)) → 0 < length parts → is_system schema parts ≡ is_listed schema.srs (join_with_byte 44 parts)
unfolding is_system
named_so schema [] some = absurd (omega (arith, some))
named_so schema (part ∷ parts) some = refl

pub system_named : (schema : Schema) (name : List ℕ) → is_system schema (slice_split is_comma name) ≡ is_listed schema.srs name
system_named schema name = named_so schema (slice_split is_comma name) (omega (arith, length-slice_split is_comma name)) ∙ ap (is_listed schema.srs) (join_with_byte-slice_split 44 name)

-- The names of a schema that keeps the rules are texts that a document may hold.
use Rattle.std.proofs.Common.{◌≡◌, ℕ, Bool, true, false, ◌&&◌, ◌||◌, List, [], ◌∷◌, Option, Some, None, refl, sym, subst, inl, inr, arith}
use Rattle.std.specs.Prelude.{codes, decimal, slice_get, All, IfSome}
use Rattle.std.specs.List.{list_all, list_any}
use Rattle.std.specs.Str.{is_utf8, chars}
use Rattle.std.proofs.lemmas.Bool.Decides.{nat_tests}
use Rattle.std.proofs.lemmas.List.Elements.{All-head}
use Rattle.std.proofs.lemmas.Option.{slice_get_cases}
use Rattle.wfs_ends.specs.Ends.{joined}
use Rattle.doc_tree.specs.Characters.{is_allowed}
use Rattle.doc_tree.specs.Tree.{prefixed}
use Rattle.doc_read.specs.declared.lex.Class.TheVariants.{NamePart}
use Rattle.doc_read.specs.Chars.{holds}
use Rattle.doc_read.specs.Grammar.{IsName}
use Rattle.doc_read.proofs.Fronts.{both}
use Rattle.doc_laws.proofs.Facts.{Meant, meant_then}
use Rattle.doc_laws.proofs.Sizes.{no_text, text_meant, visible_meant}
use Rattle.feature_values.specs.Ids.{is_colon}
use Rattle.feature_values.specs.declared.schema.Property.{Property}
use Rattle.feature_values.specs.declared.schema.FeatureType.{FeatureType}
use Rattle.feature_values.specs.declared.schema.Schema.{Schema}
use Rattle.feature_schema.specs.Texts.{is_line_character, is_line, is_name, is_prefix}
use Rattle.feature_schema.specs.Rules.{IsLine, IsProperty, IsType, KeepsRules}
use Rattle.fes_filter.specs.Check.{type_in}
use Rattle.fes_docs.specs.Written.{name_if, property_name, type_name, first_name}
use Rattle.fes_docs.specs.RoundTrip.{CanBeWritten}
use Rattle.filter_laws.proofs.Texts.{schema_name, name_meant, decimal_meant}

-- ---- lines

line_allowed : (c : ℕ) → is_line_character c ≡ true → is_allowed c ≡ true
unfolding is_line_character
line_allowed c h = (both (is_allowed c) _ h).0

all_allowed : (cs : List ℕ) → list_all is_line_character cs ≡ true → list_all is_allowed cs ≡ true
all_allowed [] h = refl
all_allowed (c ∷ cs) h =
    let k = both (is_line_character c) (list_all is_line_character cs) h in
    subst (λ (b : Bool). (b && list_all is_allowed cs) ≡ true) (sym (line_allowed c k.0)) (all_allowed cs k.1)

pub line_meant : (text : List ℕ) → IsLine text → Meant text
unfolding is_line
line_meant text h =
    let a = both (is_utf8 text) _ h in
    let b = both _ (list_all is_line_character (chars text)) a.1 in
    text_meant text (rw a.0 (all_allowed (chars text) b.1))

-- ---- what stands at a place

pub at_place : {A : Type 0} (P : A → Type 0) (xs : List A) (i : ℕ) → All P xs → IfSome (slice_get xs i) P
at_place P xs i all = elim ((slice_get_cases xs i).1) [
  | inl found ↦ subst (λ o. IfSome o P) (sym found.2) (subst P found.3 (all i found.0 found.1))
  | inr past ↦ subst (λ o. IfSome o P) (sym past.1) tt
]

module _ (schema : Schema) (keeps : KeepsRules schema) where
  pub prefix_name : IsName schema.prefix
  unfolding is_prefix
  prefix_name = schema_name schema.prefix (both (is_name schema.prefix) _ keeps.prefix).0

  behind_prefix : (name : List ℕ) → Meant name → Meant (prefixed schema.prefix name)
  unfolding prefixed joined
  behind_prefix name meant = meant_then _ _ (name_meant schema.prefix prefix_name) (meant_then _ _ (visible_meant (codes ":") refl) (meant_then _ _ meant no_text))

  named : (property : Option Property) → IfSome property IsProperty → Meant (name_if property)
  named None is = no_text
  named (Some property) is = name_meant property.name (schema_name property.name is.name)

  property_meant : (of_type : Option FeatureType) (property : ℕ) → IfSome of_type IsType → Meant (property_name of_type property)
  property_meant None property is = no_text
  property_meant (Some of_type) property is = named (slice_get of_type.properties property) (at_place IsProperty of_type.properties property is.properties)

  type_meant : (of_type : Option FeatureType) → IfSome of_type IsType → Meant (type_name of_type)
  type_meant None is = no_text
  type_meant (Some of_type) is = name_meant of_type.name (schema_name of_type.name is.name)

  pub type_is : (kind : Option ℕ) → IfSome (type_in schema kind) IsType
  type_is None = tt
  type_is (Some k) = at_place IsType schema.types k keeps.types

  -- the name of a property, and of a type, behind the prefix
  pub property_named : (kind : Option ℕ) (property : ℕ) → Meant (prefixed schema.prefix (property_name (type_in schema kind) property))
  property_named kind property = behind_prefix _ (property_meant (type_in schema kind) property (type_is kind))

  pub type_named : (kind : Option ℕ) → Meant (prefixed schema.prefix (type_name (type_in schema kind)))
  type_named kind = behind_prefix _ (type_meant (type_in schema kind) (type_is kind))

  -- the identifier of a feature
  pub id_meant : (kind number : ℕ) → Meant (joined (type_name (slice_get schema.types kind) ∷ codes "." ∷ decimal number ∷ []))
  unfolding joined
  id_meant kind number =
      meant_then _ _ (type_meant (slice_get schema.types kind) (at_place IsType schema.types kind keeps.types))
      (meant_then _ _ (visible_meant (codes ".") refl) (meant_then _ _ (decimal_meant number) no_text))

  first_meant : (srs : List (List ℕ)) → All IsLine srs → Meant (first_name srs)
  first_meant [] all = no_text
  first_meant (name ∷ srs) all = line_meant name (All-head IsLine name srs all)

  pub srs_meant : Meant (first_name schema.srs)
  srs_meant = first_meant schema.srs keeps.srs

  no_colon_part : (c : ℕ) → holds NamePart c ≡ true → is_colon c ≡ false
  no_colon_part c h = grind (arith, nat_tests, h)

  pub no_colons : (cs : List ℕ) → list_all (holds NamePart) cs ≡ true → list_any is_colon cs ≡ false
  no_colons [] h = refl
  no_colons (c ∷ cs) h =
      let k = both (holds NamePart c) (list_all (holds NamePart) cs) h in
      subst (λ (b : Bool). (b || list_any is_colon cs) ≡ false) (sym (no_colon_part c k.0)) (no_colons cs k.1)

  pub can_be_written : CanBeWritten schema
  can_be_written = record { prefix = no_colons schema.prefix prefix_name.each; srs = omega (arith, keeps.some_srs) }

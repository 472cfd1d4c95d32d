-- The prefixes of a stored text are such that a document can declare them.
use Rattle.std.proofs.Common.{◌≡◌, ℕ, ◌<◌, Bool, true, false, not, List, [], ◌∷◌, length, refl, sym, ap, ◌∙◌, arith}
use Rattle.std.specs.Prelude.{codes, nat_eq, nat_le}
use Rattle.std.specs.List.{list_all, starts_with}
use Rattle.std.specs.Str.{bytes_eq, is_utf8, chars}
use Rattle.std.proofs.lemmas.Str.{chars-encodes}
use Rattle.doc_tree.specs.Characters.{is_allowed}
use Rattle.doc_read.specs.Scope.{has_twins}
use Rattle.doc_read.specs.Grammar.{IsName}
use Rattle.doc_read.proofs.Fronts.{both, false_unless}
use Rattle.doc_read.proofs.Again.{same_bytes}
use Rattle.doc_laws.specs.RoundTrip.{IsPair, ArePrefixes, is_covered}
use Rattle.doc_laws.proofs.Encoding.{are_scalars}
use Rattle.doc_laws.proofs.Facts.{bytes_same, Meant}
use Rattle.doc_laws.proofs.Sizes.{meant_text, visible_meant}
use Rattle.doc_laws.proofs.Prefixed.{neither, clash}
use Rattle.gml_docs.specs.Elements.{gml_space}
use Rattle.gml_docs.specs.Written.{gml_name}
use Rattle.feature_values.specs.declared.schema.Schema.{Schema}
use Rattle.feature_schema.specs.Texts.{is_line_character, is_line, is_name, is_taken, is_prefix}
use Rattle.feature_schema.specs.Rules.{IsLine, KeepsRules}
use Rattle.fes_docs.specs.Names.{fes_space}
use Rattle.fes_docs.proofs.Parts.{fes}
use Rattle.filter_laws.proofs.Schemas.{line_meant, prefix_name}
use Rattle.request_parameters.specs.Elements.{wfs_space}
use Rattle.query_docs.specs.Texts.{query_prefixes}

not_true : (b : Bool) → not b ≡ true → b ≡ false
not_true true h = absurd cc
not_true false h = refl

-- a prefix that passes a test at which these bytes fail is another one
other_by : (test : List ℕ → Bool) (name bytes : List ℕ) → test name ≡ false → test bytes ≡ true → bytes_eq name bytes ≡ false
other_by test name bytes fails passes = false_unless (bytes_eq name bytes) (λ e. clash (test bytes) passes (ap test (sym (bytes_same name bytes e)) ∙ fails))

turned : (a b : List ℕ) → bytes_eq a b ≡ false → bytes_eq b a ≡ false
turned a b h = false_unless (bytes_eq b a) (λ e. clash (bytes_eq a a) (same_bytes a) (ap (bytes_eq a) (sym (bytes_same b a e)) ∙ h))

some_line : (text : List ℕ) → IsLine text → 0 < length text
unfolding is_line
some_line [] h =
    let a = both (is_utf8 []) _ h in
    let b = both _ (list_all is_line_character (chars [])) a.1 in
    let c = both (nat_le 1 (length (chars []))) _ b.0 in
    let none : nat_le 1 (length (chars [])) ≡ false = ap (λ (cs : List ℕ). nat_le 1 (length cs)) (chars-encodes [] refl) in
    absurd (clash (nat_le 1 (length (chars []))) c.0 none)
some_line (c ∷ cs) h = omega arith

pair : (name space : List ℕ) → IsName name → bytes_eq name (codes "xml") ≡ false → bytes_eq name (codes "xmlns") ≡ false → 0 < length space → Meant space → IsPair (name, space)
pair name space is no_xml no_xmlns some meant = record {
  name = is;
  no_xml = no_xml;
  no_xmlns = no_xmlns;
  some = some;
  text = (meant.characters, (are_scalars meant.characters meant.allowed, sym meant.is));
  allowed = (both (is_utf8 space) (list_all is_allowed (chars space)) (meant_text space meant)).1;
}

module _ (schema : Schema) (keeps : KeepsRules schema) where
  -- the prefix of the schema is none of these
  record IsFree : Type 0 where
    wfs : bytes_eq schema.prefix (codes "wfs") ≡ false
    fes_too : bytes_eq schema.prefix (codes "fes") ≡ false
    gml : bytes_eq schema.prefix (codes "gml") ≡ false
    xml : bytes_eq schema.prefix (codes "xml") ≡ false
    xmlns : bytes_eq schema.prefix (codes "xmlns") ≡ false

  free : IsFree
  unfolding is_prefix is_taken
  free =
      let a = both (is_name schema.prefix) _ keeps.prefix in
      let b = both _ (not (starts_with nat_eq schema.prefix (codes "xml"))) a.1 in
      let w = neither (bytes_eq schema.prefix (codes "wfs")) _ (not_true _ b.0) in
      let f = neither (bytes_eq schema.prefix (codes "fes")) _ w.1 in
      let g = neither (bytes_eq schema.prefix (codes "gml")) _ f.1 in
      let begins = not_true (starts_with nat_eq schema.prefix (codes "xml")) b.1 in
      record {
        wfs = w.0;
        fes_too = f.0;
        gml = g.0;
        xml = other_by (λ t. starts_with nat_eq t (codes "xml")) schema.prefix (codes "xml") begins refl;
        xmlns = other_by (λ t. starts_with nat_eq t (codes "xml")) schema.prefix (codes "xmlns") begins refl;
      }

  pub are_prefixes : ArePrefixes (query_prefixes schema)
  unfolding has_twins
  are_prefixes = record {
    pairs = (
      pair (codes "wfs") wfs_space (record { first = refl; each = refl }) refl refl (omega arith) (visible_meant wfs_space refl),
      (
        pair (codes "fes") fes_space (record { first = refl; each = refl }) refl refl (omega arith) (visible_meant fes_space refl),
        (
          pair (codes "gml") gml_space (record { first = refl; each = refl }) refl refl (omega arith) (visible_meant gml_space refl),
          (pair schema.prefix schema.space (prefix_name schema keeps) free.xml free.xmlns (some_line schema.space keeps.space) (line_meant schema.space keeps.space), tt),
        ),
      ),
    );
    different = rw (turned schema.prefix (codes "wfs") free.wfs, turned schema.prefix (codes "fes") free.fes_too, turned schema.prefix (codes "gml") free.gml) refl;
  }

pub wfs_covered : (schema : Schema) (local : List ℕ) → is_covered (query_prefixes schema) (record { space = wfs_space; local = local }) ≡ true
wfs_covered schema local = refl

pub fes_covered : (schema : Schema) → is_covered (query_prefixes schema) (fes []) ≡ true
fes_covered schema = refl

pub gml_covered : (schema : Schema) → is_covered (query_prefixes schema) (gml_name []) ≡ true
unfolding gml_name
gml_covered schema = refl

-- Patterns read back as they were written.
use Rattle.std.proofs.Common.{◌≡◌, ℕ, Bool, true, false, ◌||◌, List, [], ◌∷◌, ◌++◌, fold, Option, Some, None, Ok, refl, sym, ap, ◌∙◌, append_assoc, arith}
use Rattle.std.specs.Prelude.{codes, encode_utf8, encode_utf8_all, ◌==◌, if◌then◌else◌, All}
use Rattle.std.specs.List.{list_any, flat_map}
use Rattle.std.specs.Char.{IsScalar}
use Rattle.std.specs.Str.{chars}
use Rattle.std.proofs.Math.Utf8.{scalars}
use Rattle.std.proofs.lemmas.List.{append-nil}
use Rattle.std.proofs.lemmas.List.Elements.{All-cons, All-head, All-tail}
use Rattle.std.proofs.lemmas.Str.{chars-encodes, encodes-append}
use Rattle.wfs_ends.specs.Read.{◌>>=◌}
use Rattle.wfs_ends.proofs.Turns.{bind_ok, ok_is}
use Rattle.doc_tree.specs.declared.tree.Element.{Element, out-Element}
use Rattle.gml_docs.specs.Written.{plain_name}
use Rattle.feature_values.specs.Ids.{is_colon}
use Rattle.feature_values.specs.declared.schema.ValueKind.{ValueKind}
use Rattle.feature_values.specs.declared.schema.FeatureType.{FeatureType}
use Rattle.feature_values.specs.declared.schema.Schema.{Schema}
use Rattle.fes_filter.specs.Check.{type_in, is_words}
use Rattle.fes_filter.specs.declared.pattern.LikePart.{LikePart}
use Rattle.fes_filter.specs.declared.pattern.LikePart.TheVariants.{Exactly, One, Many}
use Rattle.fes_filter.specs.declared.filter.Filter.{Filter}
use Rattle.fes_filter.specs.declared.filter.Filter.TheVariants.{Like}
use Rattle.fes_docs.specs.declared.like.Marks.{Marks}
use Rattle.fes_docs.specs.declared.fault.FilterDocFault.{FilterDocFault}
use Rattle.doc_tree.specs.Attributes.{value_at}
use Rattle.doc_tree.specs.Others.{is_other, first_other}
use Rattle.fes_docs.specs.Names.{text_of, refused, named, no_more, first_in, plain}
use Rattle.fes_docs.specs.Sides.{property_at, suited, match_case, case_of}
use Rattle.fes_docs.specs.Like.{one_of, mark_in, mark_of, marks_of, only_marks, next_part, pattern_of, pattern_behind, like_of}
use Rattle.fes_docs.specs.Written.{attribute, reference, leaf, part_text, mark_attributes, like_tree}
use Rattle.fes_docs.specs.RoundTrip.{part_characters}
use Rattle.fes_docs.proofs.Built.{no_more_at_end, has_children, has_value, has_others, leaf_named, leaf_text, leaf_plain}
use Rattle.fes_docs.proofs.Named.{reference_again}
use Rattle.fes_docs.proofs.Beside.{suited_is, suits, reference_stands}

-- ---- the pattern

-- the characters that are written
abbrev marks : Marks
marks = record { many = 42; one = 46; escape = 33 }

abbrev is_mark : ℕ → Bool
is_mark c = (c == 42) || (c == 46) || (c == 33)

abbrev spelled : LikePart → List ℕ
spelled Many = 42 ∷ []
spelled One = 46 ∷ []
spelled (Exactly c) = if is_mark c then 33 ∷ c ∷ [] else c ∷ []

bytes_if : (b : Bool) (c : ℕ) → encode_utf8_all (if b then 33 ∷ c ∷ [] else c ∷ []) ≡ (if b then codes "!" ++ encode_utf8 c else encode_utf8 c)
unfolding lib.Utf8.encode
bytes_if true c = ap (λ t. 33 ∷ t) (append-nil (encode_utf8 c))
bytes_if false c = append-nil (encode_utf8 c)

part_bytes : (part : LikePart) → encode_utf8_all (spelled part) ≡ part_text part
unfolding part_text lib.Utf8.encode
part_bytes Many = refl
part_bytes One = refl
part_bytes (Exactly c) = bytes_if (is_mark c) c

pattern_bytes : (parts : List LikePart) → encode_utf8_all (flat_map spelled parts) ≡ flat_map part_text parts
pattern_bytes [] = refl
pattern_bytes (part ∷ parts) = encodes-append (spelled part) (flat_map spelled parts) ∙ ap (λ t. t ++ encode_utf8_all (flat_map spelled parts)) (part_bytes part) ∙ ap (λ t. part_text part ++ t) (pattern_bytes parts)

scalars_then : (xs ys : List ℕ) → scalars xs ≡ true → scalars ys ≡ true → scalars (xs ++ ys) ≡ true
scalars_then [] ys h k = k
scalars_then (x ∷ xs) ys h k = grind (arith, h, scalars_then xs ys)

scalar_if : (b : Bool) (c : ℕ) → IsScalar c → scalars (if b then 33 ∷ c ∷ [] else c ∷ []) ≡ true
scalar_if true c h = rw h refl
scalar_if false c h = rw h refl

part_scalars : (part : LikePart) → All IsScalar (part_characters part) → scalars (spelled part) ≡ true
part_scalars Many h = refl
part_scalars One h = refl
part_scalars (Exactly c) h = scalar_if (is_mark c) c (All-head IsScalar c [] h)

pub all_first : {X : Type 0} (P : X → Type 0) (xs ys : List X) → All P (xs ++ ys) → All P xs × All P ys
all_first P [] ys h = (λ k d lt. absurd (omega arith), h)
all_first P (x ∷ xs) ys h =
    let rest = all_first P xs ys (All-tail P x (xs ++ ys) h) in
    (All-cons P x xs (All-head P x (xs ++ ys) h) rest.0, rest.1)

pattern_scalars : (parts : List LikePart) → All IsScalar (flat_map part_characters parts) → scalars (flat_map spelled parts) ≡ true
pattern_scalars [] h = refl
pattern_scalars (part ∷ parts) h =
    let k = all_first IsScalar (part_characters part) (flat_map part_characters parts) h in
    scalars_then (spelled part) (flat_map spelled parts) (part_scalars part k.0) (pattern_scalars parts k.1)

abbrev Found : Type 0
Found = List LikePart × Bool

exactly_read : (b : Bool) (c : ℕ) (acc : List LikePart) (rest : List ℕ) → is_mark c ≡ b → fold (next_part marks) (acc, false) ((if b then 33 ∷ c ∷ [] else c ∷ []) ++ rest) ≡ fold (next_part marks) (acc ++ Exactly c ∷ [], false) rest
exactly_read true c acc rest e = refl
exactly_read false c acc rest e =
    let many : (c == 42) ≡ false = grind (arith, e) in
    let one : (c == 46) ≡ false = grind (arith, e) in
    let escape : (c == 33) ≡ false = grind (arith, e) in
    rw (many, one, escape) refl

part_read : (part : LikePart) (acc : List LikePart) (rest : List ℕ) → fold (next_part marks) (acc, false) (spelled part ++ rest) ≡ fold (next_part marks) (acc ++ part ∷ [], false) rest
part_read Many acc rest = refl
part_read One acc rest = refl
part_read (Exactly c) acc rest = exactly_read (is_mark c) c acc rest refl

pattern_read : (parts acc : List LikePart) → fold (next_part marks) (acc, false) (flat_map spelled parts) ≡ (acc ++ parts, false)
pattern_read [] acc = ap (λ (p : List LikePart). (p, false)) (sym (append-nil acc))
pattern_read (part ∷ parts) acc = part_read part acc (flat_map spelled parts) ∙ pattern_read parts (acc ++ part ∷ []) ∙ ap (λ (p : List LikePart). (p, false)) (append_assoc acc (part ∷ []) parts)

pattern_again : (parts : List LikePart) → All IsScalar (flat_map part_characters parts) → pattern_of marks (flat_map part_text parts) ≡ Ok parts
unfolding pattern_of
pattern_again parts h =
    let cs : chars (flat_map part_text parts) ≡ flat_map spelled parts = ap chars (sym (pattern_bytes parts)) ∙ chars-encodes (flat_map spelled parts) (pattern_scalars parts h) in
    rw (cs, pattern_read parts []) refl

-- ---- the three characters

one_again : (c : ℕ) → IsScalar c → one_of (chars (encode_utf8_all (c ∷ []))) ≡ Ok c
one_again c h = ap one_of (chars-encodes (c ∷ []) (rw h refl))

module _ (schema : Schema) (kind : Option ℕ) (no_colon : list_any is_colon schema.prefix ≡ false) (i : ℕ) (parts : List LikePart) where
  abbrev children : List Element
  children = reference schema kind i ∷ leaf (codes "Literal") (flat_map part_text parts) ∷ []

  abbrev tree : Element
  tree = like_tree schema kind i parts

  tree_children : (out-Element tree).children ≡ children
  unfolding like_tree
  tree_children = has_children (codes "PropertyIsLike") mark_attributes children []

  mark_is : (local : List ℕ) (c : ℕ) → value_at [] local mark_attributes ≡ Some (encode_utf8_all (c ∷ [])) → IsScalar c → mark_of local tree ≡ Ok c
  unfolding mark_of like_tree
  mark_is local c at h = ap (mark_in tree) (has_value (codes "PropertyIsLike") mark_attributes children [] local ∙ at) ∙ one_again c h

  many_at : value_at [] (codes "wildCard") mark_attributes ≡ Some (codes "*")
  unfolding attribute plain_name
  many_at = refl

  one_at : value_at [] (codes "singleChar") mark_attributes ≡ Some (codes ".")
  unfolding attribute plain_name
  one_at = refl

  escape_at : value_at [] (codes "escapeChar") mark_attributes ≡ Some (codes "!")
  unfolding attribute plain_name
  escape_at = refl

  marks_again : marks_of tree ≡ Ok marks
  unfolding marks_of lib.Utf8.encode
  marks_again = rw (mark_is (codes "wildCard") 42 many_at refl, mark_is (codes "singleChar") 46 one_at refl, mark_is (codes "escapeChar") 33 escape_at refl) refl

  no_case : value_at [] match_case mark_attributes ≡ None
  unfolding attribute plain_name
  no_case = refl

  case_again : case_of tree ≡ Ok tt
  unfolding case_of like_tree
  case_again = rw (has_value (codes "PropertyIsLike") mark_attributes children [] match_case, no_case) refl

  no_other : first_other (match_case ∷ codes "wildCard" ∷ codes "singleChar" ∷ codes "escapeChar" ∷ []) mark_attributes ≡ None
  unfolding attribute plain_name is_other
  no_other = refl

  only_again : only_marks tree ≡ Ok tt
  unfolding only_marks like_tree
  only_again = has_others (codes "PropertyIsLike") mark_attributes children [] (match_case ∷ codes "wildCard" ∷ codes "singleChar" ∷ codes "escapeChar" ∷ []) ∙ ap refused no_other

  literal_named : named (codes "Literal") (leaf (codes "Literal") (flat_map part_text parts)) ≡ Ok tt
  unfolding named
  literal_named = rw (leaf_named (codes "Literal") (flat_map part_text parts) (codes "Literal")) refl

  behind_again : (whole : Element) → All IsScalar (flat_map part_characters parts) → pattern_behind marks i whole (leaf (codes "Literal") (flat_map part_text parts) ∷ []) ≡ Ok (Like i parts)
  unfolding pattern_behind first_in
  behind_again whole h = rw (literal_named, leaf_plain (codes "Literal") (flat_map part_text parts), leaf_text (codes "Literal") (flat_map part_text parts), pattern_again parts h, no_more_at_end) refl

  like_written : (k : ValueKind) (e : Element) → property_at (type_in schema kind) e ≡ Ok (i, k) → is_words k ≡ true → All IsScalar (flat_map part_characters parts) → like_of (type_in schema kind) tree ≡ Ok (Like i parts)
  unfolding like_of first_in
  like_written k e at words h = rw (
    case_again,
    marks_again,
    only_again,
    tree_children,
    reference_stands None schema kind no_colon i,
    reference_again schema kind no_colon e (i, k) at,
    suits (is_words k) (reference schema kind i) words,
  ) (behind_again tree h)

-- ---- the operator

pattern_is : (ms : Marks) (whole : Element) (i : ℕ) (es : List Element) (f : Filter) → pattern_behind ms i whole es ≡ Ok f → (parts : List LikePart) × (f ≡ Like i parts)
unfolding pattern_behind
pattern_is ms whole i es f h =
    let a = bind_ok (first_in whole es) (λ a. named (codes "Literal") a.0 >>= λ _. plain a.0 >>= λ _. pattern_of ms (text_of a.0) >>= λ ps. no_more a.1 >>= λ _. Ok (Like i ps)) f h in
    let is = bind_ok (named (codes "Literal") a.0.0) (λ _. plain a.0.0 >>= λ _. pattern_of ms (text_of a.0.0) >>= λ ps. no_more a.0.1 >>= λ _. Ok (Like i ps)) f a.2 in
    let alone = bind_ok (plain a.0.0) (λ _. pattern_of ms (text_of a.0.0) >>= λ ps. no_more a.0.1 >>= λ _. Ok (Like i ps)) f is.2 in
    let ps = bind_ok (pattern_of ms (text_of a.0.0)) (λ ps. no_more a.0.1 >>= λ _. Ok (Like i ps)) f alone.2 in
    let end = bind_ok (no_more a.0.1) (λ _. Ok (Like i ps.0)) f ps.2 in
    (ps.0, sym (ok_is FilterDocFault (Like i ps.0) f end.2))

pub record IsLike (schema : Schema) (kind : Option ℕ) (f : Filter) : Type 0 where
  pub property : ℕ
  pub of_kind : ValueKind
  pub named_by : Element
  pub found : property_at (type_in schema kind) named_by ≡ Ok (property, of_kind)
  pub words : is_words of_kind ≡ true
  pub parts : List LikePart
  pub is : f ≡ Like property parts

module _ (schema : Schema) (kind : Option ℕ) where
  abbrev of_type : Option FeatureType
  of_type = type_in schema kind

  pub like_is : (e : Element) (f : Filter) → like_of of_type e ≡ Ok f → IsLike schema kind f
  unfolding like_of
  like_is e f h =
      let kept = bind_ok (case_of e) (λ _. marks_of e >>= λ ms. only_marks e >>= λ _. first_in e (out-Element e).children >>= λ a. named (codes "ValueReference") a.0 >>= λ _. property_at of_type a.0 >>= λ p. suited (is_words p.1) a.0 >>= λ _. pattern_behind ms p.0 e a.1) f h in
      let ms = bind_ok (marks_of e) (λ ms. only_marks e >>= λ _. first_in e (out-Element e).children >>= λ a. named (codes "ValueReference") a.0 >>= λ _. property_at of_type a.0 >>= λ p. suited (is_words p.1) a.0 >>= λ _. pattern_behind ms p.0 e a.1) f kept.2 in
      let only = bind_ok (only_marks e) (λ _. first_in e (out-Element e).children >>= λ a. named (codes "ValueReference") a.0 >>= λ _. property_at of_type a.0 >>= λ p. suited (is_words p.1) a.0 >>= λ _. pattern_behind ms.0 p.0 e a.1) f ms.2 in
      let a = bind_ok (first_in e (out-Element e).children) (λ a. named (codes "ValueReference") a.0 >>= λ _. property_at of_type a.0 >>= λ p. suited (is_words p.1) a.0 >>= λ _. pattern_behind ms.0 p.0 e a.1) f only.2 in
      let is = bind_ok (named (codes "ValueReference") a.0.0) (λ _. property_at of_type a.0.0 >>= λ p. suited (is_words p.1) a.0.0 >>= λ _. pattern_behind ms.0 p.0 e a.0.1) f a.2 in
      let p = bind_ok (property_at of_type a.0.0) (λ p. suited (is_words p.1) a.0.0 >>= λ _. pattern_behind ms.0 p.0 e a.0.1) f is.2 in
      let suit = bind_ok (suited (is_words p.0.1) a.0.0) (λ _. pattern_behind ms.0 p.0.0 e a.0.1) f p.2 in
      let parts = pattern_is ms.0 e p.0.0 a.0.1 f suit.2 in
      record { property = p.0.0; of_kind = p.0.1; named_by = a.0.0; found = p.1; words = suited_is (is_words p.0.1) a.0.0 suit.0 suit.1; parts = parts.0; is = parts.1 }

  pub like_again : list_any is_colon schema.prefix ≡ false → (e : Element) (f : Filter) → like_of of_type e ≡ Ok f
      → (i : ℕ) × (parts : List LikePart) × (f ≡ Like i parts) × (All IsScalar (flat_map part_characters parts) → like_of of_type (like_tree schema kind i parts) ≡ Ok f)
  like_again no_colon e f h =
      let l = like_is e f h in
      (l.property, l.parts, l.is, λ scalars. like_written schema kind no_colon l.property l.parts l.of_kind l.named_by l.found l.words scalars ∙ ap Ok (sym l.is))

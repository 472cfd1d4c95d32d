-- The identifiers of a filter read back as they were written.
use Rattle.std.proofs.Common.{◌≡◌, ℕ, suc, ◌<◌, ◌≤◌, ◌^◌, Bool, true, false, List, [], ◌∷◌, ◌++◌, length, get_or, map, Option, Some, None, Ok, ltb, refl, sym, ap, subst, ◌∙◌, append_assoc, arith}
use Rattle.std.specs.Prelude.{codes, slice_get, option_map, ◌==◌, if◌then◌else◌}
use Rattle.std.specs.List.{position_or_len, before_first, after_first}
use Rattle.std.specs.Fmt.{decimal}
use Rattle.std.proofs.lemmas.List.{append-nil}
use Rattle.std.proofs.lemmas.List.Sums.{split_at_first, passes_at_first, prefix_len-le-length}
use Rattle.wfs_ends.specs.Ends.{joined}
use Rattle.wfs_ends.specs.Read.{◌>>=◌, each}
use Rattle.wfs_ends.proofs.Turns.{bind_ok, ok_is}
use Rattle.doc_tree.specs.declared.tree.Attribute.{Attribute}
use Rattle.doc_tree.specs.declared.tree.Element.{Element, out-Element}
use Rattle.gml_docs.specs.Written.{plain_name}
use Rattle.feature_values.specs.Ids.{is_dot, type_named, number_of, rid_of}
use Rattle.feature_values.specs.Reads.{numeral_below}
use Rattle.feature_values.specs.declared.feature.Rid.{Rid}
use Rattle.feature_values.specs.declared.schema.Schema.{Schema}
use Rattle.feature_values.proofs.Dots.{no_dot}
use Rattle.fes_filter.specs.declared.ids.IdRef.{IdRef}
use Rattle.fes_docs.specs.declared.fault.FilterDocFault.{FilterDocFault}
use Rattle.doc_tree.specs.Attributes.{value_at}
use Rattle.doc_tree.specs.Others.{is_other, first_other}
use Rattle.fes_docs.specs.Names.{is_fes, value_of, no_others, named, no_more}
use Rattle.fes_docs.specs.Uses.{name_in, place_of}
use Rattle.fes_docs.specs.Ids.{known_or_nobody, id_as, id_in, id_at, next_id}
use Rattle.fes_docs.specs.Written.{attribute, type_name, id_text, id_tree}
use Rattle.fes_docs.proofs.Built.{no_more_at_end, has_children, has_value, has_others, is_named}
use Rattle.fes_docs.proofs.Named.{and_then_some, map_some, first_named}
use Rattle.fes_docs.proofs.Places.{no_use, place_again}
use Rattle.fes_docs.proofs.Values.{numeral_text}

-- ---- the identifier of a feature is written as it was read

type_is : (schema : Schema) (name : List ℕ) (i : ℕ) → type_named schema name ≡ Some i → type_name (slice_get schema.types i) ≡ name
unfolding type_named
type_is schema name i e =
    let one = first_named (λ t. t.name) name i schema.types e in
    ap type_name one.1 ∙ one.2

number_text : (text : List ℕ) (n : ℕ) → number_of text ≡ Some n → decimal n ≡ text
unfolding number_of
number_text text n e = by (get_or text 0 0 == 48) refl e
  where
    by : (b : Bool) → (get_or text 0 0 == 48) ≡ b → (if b then None else numeral_below (2 ^ 64) text) ≡ Some n → decimal n ≡ text
    by true is h = absurd cc
    by false is h = numeral_text text n is h

cut : (text : List ℕ) → position_or_len is_dot text < length text → text ≡ before_first is_dot text ++ 46 ∷ after_first is_dot text
cut text lt =
    let at : is_dot (get_or text (position_or_len is_dot text) 0) ≡ true = passes_at_first is_dot text 0 lt in
    let byte : get_or text (position_or_len is_dot text) 0 ≡ 46 = grind (arith, at) in
    split_at_first is_dot text 0 lt ∙ ap (λ b. before_first is_dot text ++ b ∷ after_first is_dot text) byte

has_dot : (schema : Schema) (text : List ℕ) (id : Rid) → rid_of schema text ≡ Some id → position_or_len is_dot text < length text
has_dot schema text id e = by (ltb (position_or_len is_dot text) (length text)) refl
  where
    le : position_or_len is_dot text ≤ length text
    le = prefix_len-le-length _ text

    by : (b : Bool) → ltb (position_or_len is_dot text) (length text) ≡ b → position_or_len is_dot text < length text
    by true is = grind (arith, is)
    by false is =
        let all : position_or_len is_dot text ≡ length text = grind (arith, is, le) in
        absurd (let bad = sym (no_dot schema text all) ∙ e in cc)

rid_text : (schema : Schema) (text : List ℕ) (id : Rid) → rid_of schema text ≡ Some id → joined (type_name (slice_get schema.types id.kind) ∷ codes "." ∷ decimal id.number ∷ []) ≡ text
unfolding rid_of joined
rid_text schema text id e =
    let dot = has_dot schema text id e in
    let number = and_then_some (λ n. option_map (λ k. record { kind = k; number = n }) (type_named schema (before_first is_dot text))) (number_of (after_first is_dot text)) id e in
    let kind = map_some (λ k. record { kind = k; number = number.0 }) (type_named schema (before_first is_dot text)) id number.2 in
    let kind_is : kind.0 ≡ id.kind = ap (λ (i : Rid). i.kind) kind.2 in
    let number_is : number.0 ≡ id.number = ap (λ (i : Rid). i.number) kind.2 in
    let name : type_name (slice_get schema.types id.kind) ≡ before_first is_dot text = type_is schema (before_first is_dot text) id.kind (kind.1 ∙ ap Some kind_is) in
    let digits : decimal id.number ≡ after_first is_dot text = number_text (after_first is_dot text) id.number (number.1 ∙ ap Some number_is) in
    rw (name, digits, append-nil (after_first is_dot text)) (sym (cut text dot))

-- ---- what stands in a rid

nobody_in : (schema : Schema) → rid_of schema [] ≡ None
nobody_in schema = no_dot schema [] refl

no_name : name_in [] ≡ None
unfolding name_in
no_name = refl

abbrev IdAgain : Option (List (List ℕ)) → Schema → IdRef → Type 0
IdAgain parameters schema id = (place : Option ℕ) × (place_of parameters (id_text parameters schema id) ≡ Ok place) × (id_as schema place (id_text parameters schema id) ≡ id)

known_again : (parameters : Option (List (List ℕ))) (schema : Schema) (text : List ℕ) (r : Option Rid) → place_of parameters text ≡ Ok None → rid_of schema text ≡ r → IdAgain parameters schema (known_or_nobody r)
known_again parameters schema text None at e = (None, no_use parameters [] no_name, ap known_or_nobody (nobody_in schema))
known_again parameters schema text (Some id) at e =
    let is = rid_text schema text id e in
    (None, ap (place_of parameters) is ∙ at, ap (λ t. known_or_nobody (rid_of schema t)) is ∙ ap known_or_nobody e)

text_again : (parameters : Option (List (List ℕ))) (schema : Schema) (text : List ℕ) (place : Option ℕ) → place_of parameters text ≡ Ok place → IdAgain parameters schema (id_as schema place text)
text_again parameters schema text None at = known_again parameters schema text (rid_of schema text) at refl
text_again parameters schema text (Some place) at = (Some place, place_again parameters text place at, refl)

-- ---- a ResourceId

module _ (parameters : Option (List (List ℕ))) (schema : Schema) where
  id_in_is : (e : Element) (r : Option (List ℕ)) (id : IdRef) → id_in parameters schema e r ≡ Ok id → IdAgain parameters schema id
  id_in_is e None id h = absurd cc
  id_in_is e (Some text) id h =
      let place = bind_ok (place_of parameters text) (λ p. Ok (id_as schema p text)) id h in
      subst (IdAgain parameters schema) (ok_is FilterDocFault (id_as schema place.0 text) id place.2) (text_again parameters schema text place.0 place.1)

  module _ (id : IdRef) (again : IdAgain parameters schema id) where
    abbrev attributes : List Attribute
    attributes = attribute (codes "rid") (id_text parameters schema id) ∷ []

    rid_value : value_at [] (codes "rid") attributes ≡ Some (id_text parameters schema id)
    unfolding attribute plain_name
    rid_value = refl

    rid_alone : first_other (codes "rid" ∷ []) attributes ≡ None
    unfolding attribute plain_name is_other
    rid_alone = refl

    tree_again : id_at parameters schema (id_tree parameters schema id) ≡ Ok id
    unfolding id_at id_tree
    tree_again = rw (
      has_value (codes "ResourceId") attributes [] [] (codes "rid"),
      rid_value,
      again.1,
      again.2,
      has_others (codes "ResourceId") attributes [] [] (codes "rid" ∷ []),
      rid_alone,
      has_children (codes "ResourceId") attributes [] [],
      no_more_at_end,
    ) refl

  pub id_again : (e : Element) (id : IdRef) → id_at parameters schema e ≡ Ok id → id_at parameters schema (id_tree parameters schema id) ≡ Ok id
  unfolding id_at
  id_again e id h =
      let read = bind_ok (id_in parameters schema e (value_of (codes "rid") e)) (λ i. no_others (codes "rid" ∷ []) e >>= λ _. no_more (out-Element e).children >>= λ _. Ok i) id h in
      let none = bind_ok (no_others (codes "rid" ∷ []) e) (λ _. no_more (out-Element e).children >>= λ _. Ok read.0) id read.2 in
      let end = bind_ok (no_more (out-Element e).children) (λ _. Ok read.0) id none.2 in
      tree_again id (id_in_is e (value_of (codes "rid") e) id (read.1 ∙ end.2))

  pub id_named : (id : IdRef) → is_fes (codes "ResourceId") (id_tree parameters schema id) ≡ true
  unfolding id_tree
  id_named id = is_named (codes "ResourceId") _ [] [] (codes "ResourceId")

  stands : (id : IdRef) → named (codes "ResourceId") (id_tree parameters schema id) ≡ Ok tt
  unfolding named
  stands id = rw (id_named id) refl

  -- ---- several

  next_again : (acc more : List IdRef) (e : Element) → next_id parameters schema acc e ≡ Ok more
      → (id : IdRef) × (more ≡ acc ++ id ∷ []) × (next_id parameters schema acc (id_tree parameters schema id) ≡ Ok more)
  unfolding next_id
  next_again acc more e h =
      let is = bind_ok (named (codes "ResourceId") e) (λ _. id_at parameters schema e >>= λ id. Ok (acc ++ id ∷ [])) more h in
      let id = bind_ok (id_at parameters schema e) (λ id. Ok (acc ++ id ∷ [])) more is.2 in
      let more_is : more ≡ acc ++ id.0 ∷ [] = sym (ok_is FilterDocFault (acc ++ id.0 ∷ []) more id.2) in
      (id.0, more_is, rw (stands id.0, id_again e id.0 id.1) (ap Ok (sym more_is)))

  pub ids_again : (es : List Element) (acc all : List IdRef) → each (next_id parameters schema) acc es ≡ Ok all
      → (ids : List IdRef) × (all ≡ acc ++ ids) × (length ids ≡ length es) × (each (next_id parameters schema) acc (map (id_tree parameters schema) ids) ≡ Ok all)
  unfolding each
  ids_again [] acc all h = ([], sym (ok_is FilterDocFault acc all h) ∙ sym (append-nil acc), refl, h)
  ids_again (e ∷ es) acc all h =
      let more = bind_ok (next_id parameters schema acc e) (λ m. each (next_id parameters schema) m es) all h in
      let first = next_again acc more.0 e more.1 in
      let rest = ids_again es more.0 all more.2 in
      (first.0 ∷ rest.0, rest.1 ∙ ap (λ xs. xs ++ rest.0) first.1 ∙ append_assoc acc (first.0 ∷ []) rest.0, ap suc rest.2, rw (first.2) rest.3)

-- SortBy stands in a canonical text, no larger than what it was read from, and reads back.
use Rattle.std.proofs.Common.{◌≡◌, ℕ, suc, pred, ◌+◌, ◌<◌, ◌≤◌, Bool, true, false, not, List, [], ◌∷◌, ◌++◌, length, map, Option, Some, None, Ok, Err, refl, sym, ap, subst, ◌∙◌, append_assoc, arith}
use Rattle.std.specs.Prelude.{codes, if◌then◌else◌, ◌==◌}
use Rattle.std.specs.List.{list_any}
use Rattle.std.proofs.lemmas.List.{append-nil, length-map}
use Rattle.wfs_ends.specs.Read.{each, unless}
use Rattle.wfs_ends.proofs.Turns.{bind_ok, ok_is}
use Rattle.doc_tree.specs.declared.tree.Element.{Element}
use Rattle.doc_tree.specs.Tree.{prefixed}
use Rattle.doc_laws.proofs.Sizes.{Fits, FitAll, parts, split, visible_meant}
use Rattle.doc_laws.proofs.Canonical.{Canon, CanonContent}
use Rattle.doc_laws.proofs.Nodes.{nothing, beside}
use Rattle.feature_values.specs.Ids.{is_colon}
use Rattle.feature_values.specs.declared.schema.ValueKind.{ValueKind}
use Rattle.feature_values.specs.declared.schema.FeatureType.{FeatureType}
use Rattle.feature_values.specs.declared.schema.Schema.{Schema}
use Rattle.feature_schema.specs.Rules.{KeepsRules}
use Rattle.fes_filter.specs.Check.{type_in, property_in, is_shape}
use Rattle.fes_filter.specs.declared.query.SortKey.{SortKey}
use Rattle.fes_docs.specs.Names.{is_fes}
use Rattle.fes_docs.specs.Written.{leaf, parent, reference, property_name}
use Rattle.fes_docs.proofs.Built.{has_children, has_text, has_attributes, leaf_named, parent_named}
use Rattle.fes_docs.proofs.Named.{property_again, is_reference}
use Rattle.filter_laws.proofs.Literals.{AreTexts}
use Rattle.filter_laws.proofs.Schemas.{can_be_written}
use Rattle.filter_laws.proofs.Predicates.{group_stands, reference_stands, leaf_stands}
use Rattle.wfs_model.specs.declared.fault.AskFault.{AskFault}
use Rattle.request_parameters.specs.Elements.{no_others, misplaced, no_children, text_in}
use Rattle.query_docs.specs.Elements.{children_of, text_alone}
use Rattle.query_docs.specs.Sorting.{key_of, sortable, sorted_by, order_word, order_of, key_with, key_in, sort_key, next_key, keys_of}
use Rattle.query_docs.specs.Texts.{order_trees, key_tree, query_prefixes}
use Rattle.query_docs.proofs.Sound.{unless_ok}
use Rattle.query_docs.proofs.Prefixes.{are_prefixes, fes_covered, gml_covered}

-- ---- elements as they are judged

pub unless_not : (b : Bool) (fault : AskFault) → b ≡ false → unless b fault ≡ Ok tt
unfolding unless
unless_not b fault h = rw h refl

none_there : (es : List Element) (u : Unit {0}) → no_children es ≡ Ok u → es ≡ []
none_there [] u h = refl
none_there (e ∷ es) u h = absurd cc

-- elements of FES, as those that read queries see them
pub parent_alone : (local : List ℕ) (kids : List Element) → no_others [] (parent local kids) ≡ Ok tt
unfolding no_others parent
parent_alone local kids = rw (has_attributes local [] kids []) refl

pub leaf_read : (local text : List ℕ) → text_alone (leaf local text) ≡ Ok text
unfolding text_alone text_in no_others leaf
leaf_read local text = rw (has_attributes local [] [] text, has_children local [] [] text, has_text local [] [] text) refl

pub parent_kids : (local : List ℕ) (kids : List Element) → children_of (parent local kids) ≡ kids
unfolding parent
parent_kids local kids = has_children local [] kids []

module _ (schema : Schema) (keeps : KeepsRules schema) (listed : List (List ℕ)) (texts : AreTexts listed) (kind : Option ℕ) where
  abbrev of_type : Option FeatureType
  of_type = type_in schema kind

  abbrev Stands : ℕ → ℕ → Element → Type 0
  Stands d n e = Canon (query_prefixes schema) false d e n

  abbrev StandAll : ℕ → ℕ → List Element → Type 0
  StandAll d n es = CanonContent (query_prefixes schema) false d es n

  no_colon : list_any is_colon schema.prefix ≡ false
  no_colon = (can_be_written schema keeps).prefix

  -- ---- the property

  flat : (q : ℕ × ValueKind) (b : Bool) (fault : AskFault) (i : ℕ) → is_shape q.1 ≡ b → (if b then Err fault else Ok q.0) ≡ Ok i → (is_shape q.1 ≡ false) × (q.0 ≡ i)
  flat q true fault i is h = absurd cc
  flat q false fault i is h = (is, ok_is AskFault q.0 i h)

  reference_text : (i : ℕ) → text_alone (reference schema kind i) ≡ Ok (prefixed schema.prefix (property_name of_type i))
  unfolding reference
  reference_text i = leaf_read (codes "ValueReference") _

  found_again : (q : ℕ × ValueKind) (named : List ℕ) → text_alone (reference schema kind q.0) ≡ Ok named → property_in of_type named ≡ Some q → is_shape q.1 ≡ false → sorted_by of_type (reference schema kind q.0) ≡ Ok q.0
  unfolding sorted_by
  found_again q named text found flat = rw (text, found, flat) refl

  sortable_again : (name : List ℕ) (found : Option (ℕ × ValueKind)) (i : ℕ) → property_in of_type name ≡ found → sortable name found ≡ Ok i → sorted_by of_type (reference schema kind i) ≡ Ok i
  sortable_again name None i is h = absurd cc
  sortable_again name (Some q) i is h =
      let k = flat q (is_shape q.1) _ i refl h in
      let named = prefixed schema.prefix (property_name of_type q.0) in
      let found : property_in of_type named ≡ Some q = property_again of_type schema.prefix name q.0 q.1 no_colon is in
      let text : text_alone (reference schema kind q.0) ≡ Ok named = reference_text q.0 in
      subst (λ (j : ℕ). sorted_by of_type (reference schema kind j) ≡ Ok j) k.1 (found_again q named text found k.0)

  property_read : (e : Element) (i : ℕ) → sorted_by of_type e ≡ Ok i → sorted_by of_type (reference schema kind i) ≡ Ok i
  unfolding sorted_by
  property_read e i h =
      let name = bind_ok (text_alone e) _ i h in
      sortable_again name.0 (property_in of_type name.0) i refl name.2

  -- ---- a key

  with_order : (i : ℕ) (descending : Bool) → key_with i (order_trees descending) ≡ Ok (key_of i descending)
  unfolding key_with order_of order_word unless
  with_order i true = rw (leaf_named (codes "SortOrder") (codes "DESC") (codes "SortOrder"), leaf_read (codes "SortOrder") (codes "DESC")) refl
  with_order i false = refl

  orders_stand : (d n : ℕ) (i : ℕ) (es : List Element) (key : SortKey) → key_with i es ≡ Ok key → FitAll d n es → StandAll d n (order_trees key.descending) × (key.property ≡ i)
  unfolding key_with
  orders_stand d n i [] key h fit =
      subst (λ (k : SortKey). StandAll d n (order_trees k.descending) × (k.property ≡ i)) (ok_is AskFault (key_of i false) key h) (nothing (query_prefixes schema) false d n, refl)
  orders_stand d n i (e ∷ es) key h fit =
      let named = bind_ok (unless (not (is_fes (codes "SortOrder") e)) (misplaced e)) _ key h in
      let order = bind_ok (order_of e) _ key named.2 in
      let end = bind_ok (no_children es) _ key order.2 in
      let s = split d n e es fit in
      subst (λ (k : SortKey). StandAll d n (order_trees k.descending) × (k.property ≡ i)) (ok_is AskFault (key_of i order.0) key end.2) (either s.here s.there s.deep s.some s.total order.0, refl)
    where
      either : (here there : ℕ) → 0 < d → 0 < here → here + there ≤ n → (b : Bool) → StandAll d n (order_trees b)
      either here there deep some total true =
          beside (query_prefixes schema) false d here there n _ [] total
          (leaf_stands (query_prefixes schema) (are_prefixes schema keeps) (fes_covered schema) (gml_covered schema) listed texts schema keeps kind d here (codes "SortOrder") (codes "DESC") (record { first = refl; each = refl }) (visible_meant (codes "DESC") refl) deep some)
          (nothing (query_prefixes schema) false d there)
      either here there deep some total false = nothing (query_prefixes schema) false d n

  record KeyAgain (d n : ℕ) (key : SortKey) : Type 0 where
    stands : Stands d n (key_tree schema kind key)
    reads : sort_key of_type (key_tree schema kind key) ≡ Ok key

  key_reads : (key : SortKey) → sorted_by of_type (reference schema kind key.property) ≡ Ok key.property → sort_key of_type (key_tree schema kind key) ≡ Ok key
  unfolding sort_key key_in key_tree unless
  key_reads key h =
      let kids = reference schema kind key.property ∷ order_trees key.descending in
      rw (
        parent_named (codes "SortProperty") kids (codes "SortProperty"),
        parent_alone (codes "SortProperty") kids,
        parent_kids (codes "SortProperty") kids,
        is_reference schema kind no_colon key.property (codes "ValueReference"),
        h,
      ) (with_order key.property key.descending)

  in_key : (d n : ℕ) (whole : Element) (es : List Element) (key : SortKey) → key_in of_type whole es ≡ Ok key → FitAll d n es
      → StandAll d n (reference schema kind key.property ∷ order_trees key.descending) × (sorted_by of_type (reference schema kind key.property) ≡ Ok key.property)
  unfolding key_in
  in_key d n whole [] key h fit = absurd cc
  in_key d n whole (e ∷ es) key h fit =
      let named = bind_ok (unless (not (is_fes (codes "ValueReference") e)) (misplaced e)) _ key h in
      let i = bind_ok (sorted_by of_type e) _ key named.2 in
      let s = split d n e es fit in
      let orders = orders_stand d s.there i.0 es key i.2 s.rest in
      let stands = reference_stands (query_prefixes schema) (are_prefixes schema keeps) (fes_covered schema) (gml_covered schema) listed texts schema keeps kind d s.here key.property s.deep s.some in
      (beside (query_prefixes schema) false d s.here s.there n _ _ s.total stands orders.0, subst (λ (j : ℕ). sorted_by of_type (reference schema kind j) ≡ Ok j) (sym orders.1) (property_read e i.0 i.1))

  key_stands : (d n : ℕ) (key : SortKey) → 0 < d → 0 < n → StandAll (pred d) (pred n) (reference schema kind key.property ∷ order_trees key.descending) → Stands d n (key_tree schema kind key)
  unfolding key_tree
  key_stands d n key deep some all =
      group_stands (query_prefixes schema) (are_prefixes schema keeps) (fes_covered schema) (gml_covered schema) listed texts schema keeps kind false d n (codes "SortProperty") _ (record { first = refl; each = refl }) deep some all

  key_again : (d n : ℕ) (e : Element) (key : SortKey) → sort_key of_type e ≡ Ok key → Fits d n e → KeyAgain d n key
  unfolding sort_key
  key_again d n e key h fit =
      let named = bind_ok (unless (not (is_fes (codes "SortProperty") e)) (misplaced e)) _ key h in
      let none = bind_ok (no_others [] e) _ key named.2 in
      let p = parts d n e fit in
      let inside = in_key (pred d) (pred n) e (children_of e) key none.2 p.kids in
      record { stands = key_stands d n key p.deep p.many inside.0; reads = key_reads key inside.1 }

  -- ---- all keys

  record Keys (d n : ℕ) (acc all : List SortKey) (count : ℕ) : Type 0 where
    more : List SortKey
    is : all ≡ acc ++ more
    as_many : length more ≡ count
    stand : StandAll d n (map (key_tree schema kind) more)
    reads : each (next_key of_type) acc (map (key_tree schema kind) more) ≡ Ok all

  keys_again : (d n : ℕ) (es : List Element) (acc all : List SortKey) → each (next_key of_type) acc es ≡ Ok all → FitAll d n es → Keys d n acc all (length es)
  unfolding each next_key
  keys_again d n [] acc all h fit = record { more = []; is = sym (ok_is AskFault acc all h) ∙ sym (append-nil acc); as_many = refl; stand = nothing (query_prefixes schema) false d n; reads = h }
  keys_again d n (e ∷ es) acc all h fit =
      let x = bind_ok (next_key of_type acc e) (λ more. each (next_key of_type) more es) all h in
      let key = bind_ok (sort_key of_type e) (λ key. Ok (acc ++ key ∷ [])) x.0 x.1 in
      let s = split d n e es fit in
      let one = key_again d s.here e key.0 key.1 s.one in
      let rest = keys_again d s.there es x.0 all x.2 s.rest in
      let x_is : acc ++ key.0 ∷ [] ≡ x.0 = ok_is AskFault (acc ++ key.0 ∷ []) x.0 key.2 in
      record {
        more = key.0 ∷ rest.more;
        is = rest.is ∙ ap (λ xs. xs ++ rest.more) (sym x_is) ∙ append_assoc acc (key.0 ∷ []) rest.more;
        as_many = ap suc rest.as_many;
        stand = beside (query_prefixes schema) false d s.here s.there n _ _ s.total one.stands rest.stand;
        reads = rw (one.reads, x_is) rest.reads;
      }

  abbrev sort_tree : List SortKey → Element
  sort_tree keys = parent (codes "SortBy") (map (key_tree schema kind) keys)

  -- a SortBy, and what is read of it again
  pub record SortAgain (d n : ℕ) (keys : List SortKey) : Type 0 where
    pub some : 0 < length keys
    pub stands : Stands d n (sort_tree keys)
    pub reads : keys_of of_type (sort_tree keys) ≡ Ok keys

  some_there : (n : ℕ) → (n == 0) ≡ false → 0 < n
  some_there n h = grind (arith, h)

  none_empty : (n : ℕ) → 0 < n → (n == 0) ≡ false
  none_empty n h = grind (arith, h)

  pub sort_again : (d n : ℕ) (e : Element) (keys : List SortKey) → keys_of of_type e ≡ Ok keys → Fits d n e → SortAgain d n keys
  unfolding keys_of
  sort_again d n e keys h fit =
      let none = bind_ok (no_others [] e) _ keys h in
      let all = bind_ok (each (next_key of_type) [] (children_of e)) _ keys none.2 in
      let some = bind_ok (unless (length (children_of e) == 0) (misplaced e)) _ keys all.2 in
      let same : all.0 ≡ keys = ok_is AskFault all.0 keys some.2 in
      let p = parts d n e fit in
      let k = keys_again (pred d) (pred n) (children_of e) [] keys (all.1 ∙ ap Ok same) p.kids in
      let full : 0 < length (children_of e) = some_there (length (children_of e)) (unless_ok _ _ some.0 some.1) in
      let filled : 0 < length k.more = omega (arith, k.as_many, full) in
      let trees = map (key_tree schema kind) k.more in
      let as_long : length trees ≡ length k.more = rw length-map refl in
      let back : keys_of of_type (sort_tree k.more) ≡ Ok keys = rw (parent_alone (codes "SortBy") trees, parent_kids (codes "SortBy") trees, k.reads, unless_not (length trees == 0) (misplaced (sort_tree k.more)) (none_empty (length trees) (omega (arith, filled, as_long)))) refl in
      subst (SortAgain d n) (sym k.is) (record {
        some = filled;
        stands = group_stands (query_prefixes schema) (are_prefixes schema keeps) (fes_covered schema) (gml_covered schema) listed texts schema keeps kind false d n (codes "SortBy") trees (record { first = refl; each = refl }) p.deep p.many k.stand;
        reads = back ∙ ap Ok k.is;
      })

-- What the readers see of an element that was written.
use Rattle.std.proofs.Common.{◌≡◌, ℕ, List, [], ◌∷◌, Ok, refl, ap}
use Rattle.std.specs.Str.{bytes_eq}
use Rattle.doc_tree.specs.declared.tree.QName.{QName}
use Rattle.doc_tree.specs.declared.tree.Attribute.{Attribute}
use Rattle.doc_tree.specs.declared.tree.Element.{Element, out-Element}
use Rattle.doc_tree.specs.declared.tree.Element.TheOpen.{Element-F}
use Rattle.doc_tree.specs.declared.tree.Element.TheViews.{out-roll-Element}
use Rattle.doc_tree.specs.Attributes.{is_name, value_at}
use Rattle.doc_tree.specs.Others.{first_other}
use Rattle.fes_docs.specs.Names.{fes_space, is_fes, text_of, value_of, refused, no_others, no_more, plain}
use Rattle.fes_docs.specs.Sides.{match_case, case_of, only_case}
use Rattle.fes_docs.specs.Written.{element, leaf, parent}

module _ (local : List ℕ) (attributes : List Attribute) (children : List Element) (text : List ℕ) where
  abbrev e : Element
  e = element local attributes children text

  pub has_name : (out-Element e).name ≡ record { space = fes_space; local = local }
  unfolding element
  has_name = ap (λ (o : Element-F Element). o.name) (out-roll-Element _)

  pub has_children : (out-Element e).children ≡ children
  unfolding element
  has_children = ap (λ (o : Element-F Element). o.children) (out-roll-Element _)

  pub has_text : (out-Element e).text ≡ text
  unfolding element
  has_text = ap (λ (o : Element-F Element). o.text) (out-roll-Element _)

  pub has_attributes : (out-Element e).attributes ≡ attributes
  unfolding element
  has_attributes = ap (λ (o : Element-F Element). o.attributes) (out-roll-Element _)

  pub is_named : (want : List ℕ) → is_fes want e ≡ bytes_eq local want
  unfolding is_fes
  is_named want = ap (λ (n : QName). is_name fes_space want n) has_name

  pub has_value : (want : List ℕ) → value_of want e ≡ value_at [] want attributes
  unfolding value_of
  has_value want = ap (value_at [] want) has_attributes

  pub has_others : (listed : List (List ℕ)) → no_others listed e ≡ refused (first_other listed attributes)
  unfolding no_others
  has_others listed = ap (λ (all : List Attribute). refused (first_other listed all)) has_attributes

pub no_more_at_end : no_more [] ≡ Ok tt
unfolding no_more
no_more_at_end = refl

-- an element of text alone
module _ (local text : List ℕ) where
  pub leaf_named : (want : List ℕ) → is_fes want (leaf local text) ≡ bytes_eq local want
  unfolding leaf
  leaf_named want = is_named local [] [] text want

  pub leaf_text : text_of (leaf local text) ≡ text
  unfolding leaf
  leaf_text = has_text local [] [] text

  pub leaf_plain : plain (leaf local text) ≡ Ok tt
  unfolding plain leaf
  leaf_plain = rw (has_others local [] [] text [], has_children local [] [] text) no_more_at_end

-- an element of children alone
module _ (local : List ℕ) (children : List Element) where
  pub parent_name : (out-Element (parent local children)).name ≡ record { space = fes_space; local = local }
  unfolding parent
  parent_name = has_name local [] children []

  pub parent_children : (out-Element (parent local children)).children ≡ children
  unfolding parent
  parent_children = has_children local [] children []

  pub parent_others : no_others [] (parent local children) ≡ Ok tt
  unfolding parent
  parent_others = has_others local [] children [] []

  pub parent_case : only_case (parent local children) ≡ Ok tt
  unfolding only_case case_of parent
  parent_case = rw (has_value local [] children [] match_case, has_others local [] children [] (match_case ∷ [])) refl

  pub parent_named : (want : List ℕ) → is_fes want (parent local children) ≡ bytes_eq local want
  unfolding parent
  parent_named want = is_named local [] children [] want

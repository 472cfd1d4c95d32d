-- When the canonical text of a tree is read back as that tree.
use Rattle.std.specs.Prelude.{◌≡◌, ℕ, Bool, true, false, ◌<◌, ◌==◌, if◌then◌else◌, ◌&&◌, length, map, List, [], ◌∷◌, codes}
use Rattle.std.specs.List.{list_all}
use Rattle.std.specs.Str.{IsUtf8, chars, bytes_eq}
use Rattle.doc_tree.specs.declared.tree.QName.{QName}
use Rattle.doc_tree.specs.declared.tree.Element.{Element}
use Rattle.doc_tree.specs.declared.tree.Element.TheFolds.{fold-Element}
use Rattle.doc_tree.specs.declared.tree.Prefixes.{Prefixes}
use Rattle.doc_tree.specs.Tree.{prefix_of}
use Rattle.doc_tree.specs.Characters.{is_allowed}
use Rattle.doc_read.specs.Scope.{has_twins, is_none}
use Rattle.doc_read.specs.Grammar.{IsName}

-- A prefix that a document may declare, with its space. The prefixes xml and xmlns are kept for XML itself
-- (Namespaces in XML 1.0, section 3), and a prefix can't stand for nothing (section 2.2).
pub record IsPair (pair : List ℕ × List ℕ) : Type 0 where
  pub name : IsName pair.0
  pub no_xml : bytes_eq pair.0 (codes "xml") ≡ false
  pub no_xmlns : bytes_eq pair.0 (codes "xmlns") ≡ false
  pub some : 0 < length pair.1
  pub text : IsUtf8 pair.1
  pub allowed : list_all is_allowed (chars pair.1) ≡ true

abbrev pub ArePairs : List (List ℕ × List ℕ) → Type 0
ArePairs [] = Unit {0}
ArePairs (pair ∷ pairs) = IsPair pair × ArePairs pairs

-- prefixes that one tag can declare: no prefix comes twice
pub record ArePrefixes (names : Prefixes) : Type 0 where
  pub pairs : ArePairs names.pairs
  pub different : has_twins bytes_eq (map (λ pair. pair.0) names.pairs) ≡ false

-- the name is in no space, or a prefix stands for its space
abbrev pub is_covered : Prefixes → QName → Bool
is_covered names name = if length name.space == 0 then true else (if is_none (prefix_of names.pairs name.space) then false else true)

-- the same of all names in a tree. In a fold the children of e are their answers.
unfoldable pub covers : Prefixes → Element → Bool
covers names = fold-Element Bool (λ e. is_covered names e.name && list_all (λ a. is_covered names a.name) e.attributes && list_all (λ c. c) e.children)

abbrev pub Covers : Prefixes → Element → Type 0
Covers names e = covers names e ≡ true

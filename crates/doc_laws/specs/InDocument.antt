-- How large a tree is, and what texts it holds: what can be said of each tree that some text spells, and of each element in it.
use Rattle.std.specs.Prelude.{◌≡◌, ℕ, suc, max, ◌≤◌, Bool, true, ◌&&◌, List, [], ◌∷◌, sum}
use Rattle.std.specs.List.{list_all}
use Rattle.std.specs.Str.{is_utf8, chars}
use Rattle.doc_tree.specs.declared.tree.Element.{Element}
use Rattle.doc_tree.specs.declared.tree.Element.TheFolds.{fold-Element}
use Rattle.doc_tree.specs.Characters.{is_allowed}
use Rattle.doc_read.specs.Document.{max_depth}
use Rattle.doc_read.specs.Element.{max_elements}

abbrev pub greatest : List ℕ → ℕ
greatest [] = 0
greatest (n ∷ ns) = max n (greatest ns)

-- how many levels of elements there are, with that of the element itself. In a fold the children of e are their answers.
unfoldable pub levels : Element → ℕ
levels = fold-Element ℕ (λ e. suc (greatest e.children))

-- how many elements there are, with the element itself
unfoldable pub elements : Element → ℕ
elements = fold-Element ℕ (λ e. suc (sum e.children))

-- a text of characters that a document may hold
abbrev pub is_text : List ℕ → Bool
is_text text = is_utf8 text && list_all is_allowed (chars text)

-- all texts in an element are such ones: its own, those of its attributes, and those in its children
unfoldable pub holds_texts : Element → Bool
holds_texts = fold-Element Bool (λ e. is_text e.text && list_all (λ a. is_text a.value) e.attributes && list_all (λ c. c) e.children)

-- an element as it may stand in a document, by its texts and by its size
pub record IsInDocument (e : Element) : Type 0 where
  pub texts : holds_texts e ≡ true
  pub deep : levels e ≤ max_depth
  pub many : elements e ≤ max_elements

-- What holds of each element of whose children it holds, holds of all elements.
use Rattle.std.proofs.Common.{List, [], ◌∷◌, map, sym, ap, subst}
use Rattle.doc_tree.specs.declared.tree.Element.{Element, out-Element}
use Rattle.doc_tree.specs.declared.tree.Element.TheOpen.{Element-F}
use Rattle.doc_tree.specs.declared.tree.Element.TheViews.{roll-Element, out-roll-Element}
use Rattle.doc_tree.specs.declared.tree.Element.TheFolds.{ind-Element}

module _ (Holds : Element → Type 0) where
  abbrev pub HoldAll : List Element → Type 0
  HoldAll [] = Unit {0}
  HoldAll (e ∷ es) = Holds e × HoldAll es

  hold_all : (es : List ((e : Element) × Holds e)) → HoldAll (map (λ e. e.0) es)
  hold_all [] = tt
  hold_all (e ∷ es) = (e.1, hold_all es)

  pub by_children : ((e : Element) → HoldAll (out-Element e).children → Holds e) → (e : Element) → Holds e
  by_children step = ind-Element Holds (λ x y is.
      let children : HoldAll x.children = subst (λ z. HoldAll z.children) is (hold_all y.children) in
      step (roll-Element x) (subst HoldAll (sym (ap (λ (o : Element-F Element). o.children) (out-roll-Element x))) children))

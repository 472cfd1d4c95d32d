-- How an element is read where an operator is expected, by how its children are.
use Rattle.std.proofs.Common.{◌≡◌, ℕ, List, [], ◌∷◌, map, Option, refl, sym, ap, subst, ◌∙◌}
use Rattle.doc_tree.specs.declared.tree.Element.{Element, out-Element}
use Rattle.doc_tree.specs.declared.tree.Element.TheViews.{roll-Element}
use Rattle.doc_tree.specs.declared.tree.Element.TheFolds.{fold-Element, fold-roll-Element, fold_out-Element, ind-Element}
use Rattle.feature_values.specs.declared.schema.Schema.{Schema}
use Rattle.fes_docs.specs.Filters.{Reading, operator_by, with_reading, operator_of}

module _ (parameters : Option (List (List ℕ))) (schema : Schema) (kind : Option ℕ) where
  abbrev Read : Type 0
  Read = Element × Reading

  abbrev read : Element → Read
  read = fold-Element Read (with_reading parameters schema kind)

  -- an element is given on as it is
  abbrev IsSame : Element → Type 0
  IsSame e = (read e).0 ≡ e

  same_children : (es : List ((e : Element) × IsSame e)) → map (λ c. c.0) (map read (map (λ e. e.0) es)) ≡ map (λ e. e.0) es
  same_children [] = refl
  same_children (e ∷ es) = ap (λ x. x ∷ map (λ c. c.0) (map read (map (λ e. e.0) es))) e.1 ∙ ap (λ xs. e.0 ∷ xs) (same_children es)

  same : (e : Element) → IsSame e
  same = ind-Element IsSame (λ x y is.
      ap (λ (r : Read). r.0) (fold-roll-Element Read (with_reading parameters schema kind) x)
      ∙ ap (λ (cs : List Element). roll-Element (record { name = x.name; attributes = x.attributes; children = cs; text = x.text }))
      (subst (λ z. map (λ c. c.0) (map read z.children) ≡ z.children) is (same_children y.children)))

  readings : (es : List Element) → map (λ c. c.1) (map read es) ≡ map (operator_of parameters schema kind) es
  unfolding operator_of
  readings [] = refl
  readings (e ∷ es) = ap (λ rs. (read e).1 ∷ rs) (readings es)

  pub operator_is : (e : Element) (left : ℕ) → operator_of parameters schema kind e left ≡ operator_by parameters schema kind e (map (operator_of parameters schema kind) (out-Element e).children) left
  unfolding operator_of
  operator_is e left =
      let opened = fold_out-Element Read (with_reading parameters schema kind) e in
      let cs = (out-Element e).children in
      ap (λ (r : Read). r.1 left) opened
      ∙ ap (λ (w : Element). operator_by parameters schema kind w (map (λ c. c.1) (map read cs)) left) (sym (ap (λ (r : Read). r.0) opened) ∙ same e)
      ∙ ap (λ (rs : List Reading). operator_by parameters schema kind e rs left) (readings cs)

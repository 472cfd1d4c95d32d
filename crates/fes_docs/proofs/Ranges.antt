-- Ranges and nulls read back as they were written.
use Rattle.std.proofs.Common.{◌≡◌, ℕ, true, false, List, [], ◌∷◌, Option, Ok, refl, sym, ap, subst, ◌∙◌}
use Rattle.std.specs.Prelude.{codes}
use Rattle.std.specs.List.{list_any}
use Rattle.std.specs.Str.{bytes_eq}
use Rattle.wfs_ends.specs.Read.{◌>>=◌}
use Rattle.wfs_ends.proofs.Turns.{bind_ok, ok_is}
use Rattle.doc_tree.specs.declared.tree.Element.{Element, out-Element}
use Rattle.feature_values.specs.Ids.{is_colon}
use Rattle.feature_values.specs.declared.schema.ValueKind.{ValueKind}
use Rattle.feature_values.specs.declared.schema.FeatureType.{FeatureType}
use Rattle.feature_values.specs.declared.schema.Schema.{Schema}
use Rattle.fes_filter.specs.Check.{type_in}
use Rattle.fes_filter.specs.declared.expr.Expr.{Expr}
use Rattle.fes_filter.specs.declared.expr.By.TheVariants.{Less}
use Rattle.fes_filter.specs.declared.filter.Filter.{Filter}
use Rattle.fes_filter.specs.declared.filter.Filter.TheVariants.{Between, IsNull}
use Rattle.fes_docs.specs.declared.fault.FilterDocFault.{FilterDocFault}
use Rattle.fes_docs.specs.Names.{text_of, named, no_more, first_in, no_others}
use Rattle.fes_docs.specs.Sides.{property_at, comparable_at, beside, bound_at, bounds_of, only_case, between_of, null_of}
use Rattle.fes_docs.specs.Written.{parent, reference, side, bound_tree, between_tree, null_tree}
use Rattle.fes_docs.proofs.Built.{no_more_at_end, parent_children, parent_others, parent_case, parent_named}
use Rattle.fes_docs.proofs.Named.{reference_again}
use Rattle.fes_docs.proofs.Beside.{reference_stands, comparable_again, beside_again}

module _ (parameters : Option (List (List ℕ))) (schema : Schema) (kind : Option ℕ) (no_colon : list_any is_colon schema.prefix ≡ false) where
  abbrev of_type : Option FeatureType
  of_type = type_in schema kind

  abbrev written : Expr → Element
  written = side parameters schema kind

  abbrev property : ℕ → Element
  property = reference schema kind

  abbrev bound : List ℕ → Expr → Element
  bound local x = bound_tree local parameters schema kind x

  -- ---- bounds

  module _ (local : List ℕ) (same : bytes_eq local local ≡ true) (k : ValueKind) (name other : List ℕ) where
    bound_again : (e : Element) (x : Expr) → bound_at local parameters of_type k name e ≡ Ok x → bound_at local parameters of_type k other (bound local x) ≡ Ok x
    unfolding bound_at bound_tree named first_in
    bound_again e x h =
        let is = bind_ok (named local e) (λ _. no_others [] e >>= λ _. first_in e (out-Element e).children >>= λ f. beside parameters of_type k name f.0 >>= λ y. no_more f.1 >>= λ _. Ok y) x h in
        let none = bind_ok (no_others [] e) (λ _. first_in e (out-Element e).children >>= λ f. beside parameters of_type k name f.0 >>= λ y. no_more f.1 >>= λ _. Ok y) x is.2 in
        let f = bind_ok (first_in e (out-Element e).children) (λ f. beside parameters of_type k name f.0 >>= λ y. no_more f.1 >>= λ _. Ok y) x none.2 in
        let read = bind_ok (beside parameters of_type k name f.0.0) (λ y. no_more f.0.1 >>= λ _. Ok y) x f.2 in
        let end = bind_ok (no_more f.0.1) (λ _. Ok read.0) x read.2 in
        let found : beside parameters of_type k name f.0.0 ≡ Ok x = read.1 ∙ end.2 in
        let children = written x ∷ [] in
        rw (
          parent_named local children local,
          same,
          parent_others local children,
          parent_children local children,
          beside_again parameters schema kind no_colon k name other f.0.0 x found,
          no_more_at_end,
        ) refl

  -- ---- ranges

  abbrev Bounds : Type 0
  Bounds = Expr × Expr

  bounds_again : (whole whole' : Element) (k : ValueKind) (name other : List ℕ) (es : List Element) (b : Bounds) → bounds_of parameters of_type k name whole es ≡ Ok b
      → bounds_of parameters of_type k other whole' (bound (codes "LowerBoundary") b.0 ∷ bound (codes "UpperBoundary") b.1 ∷ []) ≡ Ok b
  unfolding bounds_of first_in
  bounds_again whole whole' k name other es b h =
      let l = bind_ok (first_in whole es) (λ l. bound_at (codes "LowerBoundary") parameters of_type k name l.0 >>= λ x. first_in whole l.1 >>= λ u. bound_at (codes "UpperBoundary") parameters of_type k name u.0 >>= λ y. no_more u.1 >>= λ _. Ok (x, y)) b h in
      let low = bind_ok (bound_at (codes "LowerBoundary") parameters of_type k name l.0.0) (λ x. first_in whole l.0.1 >>= λ u. bound_at (codes "UpperBoundary") parameters of_type k name u.0 >>= λ y. no_more u.1 >>= λ _. Ok (x, y)) b l.2 in
      let u = bind_ok (first_in whole l.0.1) (λ u. bound_at (codes "UpperBoundary") parameters of_type k name u.0 >>= λ y. no_more u.1 >>= λ _. Ok (low.0, y)) b low.2 in
      let high = bind_ok (bound_at (codes "UpperBoundary") parameters of_type k name u.0.0) (λ y. no_more u.0.1 >>= λ _. Ok (low.0, y)) b u.2 in
      let end = bind_ok (no_more u.0.1) (λ _. Ok (low.0, high.0)) b high.2 in
      subst (λ (b : Bounds). bounds_of parameters of_type k other whole' (bound (codes "LowerBoundary") b.0 ∷ bound (codes "UpperBoundary") b.1 ∷ []) ≡ Ok b) (ok_is FilterDocFault (low.0, high.0) b end.2) (rw (
        bound_again (codes "LowerBoundary") refl k name other l.0.0 low.0 low.1,
        bound_again (codes "UpperBoundary") refl k name other u.0.0 high.0 high.1,
        no_more_at_end,
      ) refl)

  pub between_again : (e : Element) (f : Filter) → between_of parameters of_type e ≡ Ok f
      → (i : ℕ) × (low : Expr) × (high : Expr) × (f ≡ Between i low high) × (between_of parameters of_type (between_tree parameters schema kind i low high) ≡ Ok f)
  unfolding between_of between_tree first_in
  between_again e f h =
      let none = bind_ok (only_case e) (λ _. first_in e (out-Element e).children >>= λ a. named (codes "ValueReference") a.0 >>= λ _. comparable_at of_type Less a.0 >>= λ p. bounds_of parameters of_type p.1 (text_of a.0) e a.1 >>= λ b. Ok (Between p.0 b.0 b.1)) f h in
      let a = bind_ok (first_in e (out-Element e).children) (λ a. named (codes "ValueReference") a.0 >>= λ _. comparable_at of_type Less a.0 >>= λ p. bounds_of parameters of_type p.1 (text_of a.0) e a.1 >>= λ b. Ok (Between p.0 b.0 b.1)) f none.2 in
      let is = bind_ok (named (codes "ValueReference") a.0.0) (λ _. comparable_at of_type Less a.0.0 >>= λ p. bounds_of parameters of_type p.1 (text_of a.0.0) e a.0.1 >>= λ b. Ok (Between p.0 b.0 b.1)) f a.2 in
      let p = bind_ok (comparable_at of_type Less a.0.0) (λ p. bounds_of parameters of_type p.1 (text_of a.0.0) e a.0.1 >>= λ b. Ok (Between p.0 b.0 b.1)) f is.2 in
      let b = bind_ok (bounds_of parameters of_type p.0.1 (text_of a.0.0) e a.0.1) (λ b. Ok (Between p.0.0 b.0 b.1)) f p.2 in
      let f_is : f ≡ Between p.0.0 b.0.0 b.0.1 = sym (ok_is FilterDocFault (Between p.0.0 b.0.0 b.0.1) f b.2) in
      let children = property p.0.0 ∷ bound (codes "LowerBoundary") b.0.0 ∷ bound (codes "UpperBoundary") b.0.1 ∷ [] in (
        p.0.0,
        b.0.0,
        b.0.1,
        f_is,
        rw (
          parent_case (codes "PropertyIsBetween") children,
          parent_children (codes "PropertyIsBetween") children,
          reference_stands parameters schema kind no_colon p.0.0,
          comparable_again parameters schema kind no_colon Less a.0.0 p.0 p.1,
          bounds_again e (parent (codes "PropertyIsBetween") children) p.0.1 (text_of a.0.0) (text_of (property p.0.0)) a.0.1 b.0 b.1,
        ) (ap Ok (sym f_is)),
      )

  -- ---- nulls

  pub null_again : (e : Element) (f : Filter) → null_of of_type e ≡ Ok f → (i : ℕ) × (f ≡ IsNull i) × (null_of of_type (null_tree schema kind i) ≡ Ok f)
  unfolding null_of null_tree first_in
  null_again e f h =
      let none = bind_ok (only_case e) (λ _. first_in e (out-Element e).children >>= λ a. named (codes "ValueReference") a.0 >>= λ _. property_at of_type a.0 >>= λ p. no_more a.1 >>= λ _. Ok (IsNull p.0)) f h in
      let a = bind_ok (first_in e (out-Element e).children) (λ a. named (codes "ValueReference") a.0 >>= λ _. property_at of_type a.0 >>= λ p. no_more a.1 >>= λ _. Ok (IsNull p.0)) f none.2 in
      let is = bind_ok (named (codes "ValueReference") a.0.0) (λ _. property_at of_type a.0.0 >>= λ p. no_more a.0.1 >>= λ _. Ok (IsNull p.0)) f a.2 in
      let p = bind_ok (property_at of_type a.0.0) (λ p. no_more a.0.1 >>= λ _. Ok (IsNull p.0)) f is.2 in
      let end = bind_ok (no_more a.0.1) (λ _. Ok (IsNull p.0.0)) f p.2 in
      let f_is : f ≡ IsNull p.0.0 = sym (ok_is FilterDocFault (IsNull p.0.0) f end.2) in
      let children = property p.0.0 ∷ [] in (
        p.0.0,
        f_is,
        rw (
          parent_case (codes "PropertyIsNull") children,
          parent_children (codes "PropertyIsNull") children,
          reference_stands parameters schema kind no_colon p.0.0,
          reference_again schema kind no_colon a.0.0 p.0 p.1,
          no_more_at_end,
        ) (ap Ok (sym f_is)),
      )

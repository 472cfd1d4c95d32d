-- The sides of a comparison, and the bounds of a range, read back as they were written.
use Rattle.std.proofs.Common.{◌≡◌, ◌⊎◌, inl, inr, ℕ, Bool, true, false, List, Option, Result, Ok, Err, refl, sym, ap, ◌∙◌}
use Rattle.std.specs.Prelude.{codes, if◌then◌else◌}
use Rattle.std.specs.List.{list_any}
use Rattle.wfs_ends.specs.Read.{◌>>=◌}
use Rattle.wfs_ends.proofs.Turns.{bind_ok, ok_is}
use Rattle.doc_tree.specs.declared.tree.Element.{Element}
use Rattle.feature_values.specs.Ids.{is_colon}
use Rattle.feature_values.specs.declared.schema.ValueKind.{ValueKind}
use Rattle.feature_values.specs.declared.schema.FeatureType.{FeatureType}
use Rattle.feature_values.specs.declared.schema.Schema.{Schema}
use Rattle.fes_filter.specs.Check.{type_in, is_same, is_comparable}
use Rattle.fes_filter.specs.declared.expr.Expr.{Expr}
use Rattle.fes_filter.specs.declared.expr.Expr.TheVariants.{Property, Literal, Parameter}
use Rattle.fes_filter.specs.declared.expr.By.{By}
use Rattle.fes_docs.specs.declared.fault.FilterDocFault.{FilterDocFault}
use Rattle.fes_docs.specs.Names.{is_fes, text_of, named, plain}
use Rattle.fes_docs.specs.Uses.{place_of}
use Rattle.fes_docs.specs.Sides.{property_at, suited, comparable_at, literal_as, literal_at, beside}
use Rattle.fes_docs.specs.Written.{leaf, reference, side}
use Rattle.fes_docs.proofs.Built.{leaf_named, leaf_text, leaf_plain}
use Rattle.fes_docs.proofs.Named.{reference_again, is_reference}
use Rattle.fes_docs.proofs.Places.{literal_text, IsLiteral, literal_again}

-- what stands where one of two names is allowed
pub one_of_two : {A : Type 0} (b c : Bool) (first second : Result A FilterDocFault) (fault : FilterDocFault) (x : A)
    → (if b then first else (if c then second else Err fault)) ≡ Ok x → (first ≡ Ok x) ⊎ (second ≡ Ok x)
one_of_two true c first second fault x e = inl e
one_of_two false true first second fault x e = inr e
one_of_two false false first second fault x e = absurd cc

pub suited_is : (holds : Bool) (e : Element) (u : Unit {0}) → suited holds e ≡ Ok u → holds ≡ true
unfolding suited
suited_is true e u h = refl
suited_is false e u h = absurd cc

pub suits : (holds : Bool) (e : Element) → holds ≡ true → suited holds e ≡ Ok tt
unfolding suited
suits holds e h = rw h refl

module _ (parameters : Option (List (List ℕ))) (schema : Schema) (kind : Option ℕ) (no_colon : list_any is_colon schema.prefix ≡ false) where
  abbrev of_type : Option FeatureType
  of_type = type_in schema kind

  abbrev written : Expr → Element
  written = side parameters schema kind

  abbrev property : ℕ → Element
  property = reference schema kind

  pub named_reference : (i : ℕ) → is_fes (codes "ValueReference") (property i) ≡ true
  named_reference i = is_reference schema kind no_colon i (codes "ValueReference")

  pub reference_stands : (i : ℕ) → named (codes "ValueReference") (property i) ≡ Ok tt
  unfolding named
  reference_stands i = rw (named_reference i) refl

  pub comparable_again : (by : By) (e : Element) (p : ℕ × ValueKind) → comparable_at of_type by e ≡ Ok p → comparable_at of_type by (property p.0) ≡ Ok p
  unfolding comparable_at
  comparable_again by e p h =
      let found = bind_ok (property_at of_type e) (λ q. suited (is_comparable by q.1) e >>= λ _. Ok q) p h in
      let suit = bind_ok (suited (is_comparable by found.0.1) e) (λ _. Ok found.0) p found.2 in
      let same : found.0 ≡ p = ok_is FilterDocFault found.0 p suit.2 in
      let holds : is_comparable by p.1 ≡ true = ap (λ (q : ℕ × ValueKind). is_comparable by q.1) (sym same) ∙ suited_is _ e suit.0 suit.1 in
      rw (reference_again schema kind no_colon e p (found.1 ∙ ap Ok same), suits (is_comparable by p.1) (property p.0) holds) refl

  -- ---- a literal

  literal_side : (x : Expr) → IsLiteral x → written x ≡ leaf (codes "Literal") (literal_text parameters x)
  literal_side (Property i) h = absurd h
  literal_side (Literal v) h = refl
  literal_side (Parameter place) h = refl

  pub record IsWritten (k : ValueKind) (x : Expr) : Type 0 where
    pub no_reference : is_fes (codes "ValueReference") (written x) ≡ false
    pub literal : is_fes (codes "Literal") (written x) ≡ true
    pub place : Option ℕ
    pub at : literal_at parameters (written x) ≡ Ok place
    pub value : (name : List ℕ) → literal_as k name place (text_of (written x)) ≡ Ok x

  pub literal_written : (k : ValueKind) (name : List ℕ) (e : Element) (place : Option ℕ) (x : Expr) → literal_at parameters e ≡ Ok place → literal_as k name place (text_of e) ≡ Ok x → IsWritten k x
  unfolding literal_at
  literal_written k name e place x at is =
      let read = bind_ok (plain e) (λ _. place_of parameters (text_of e)) place at in
      let again = literal_again parameters k name (text_of e) place x read.2 is in
      let is : written x ≡ leaf (codes "Literal") (literal_text parameters x) = literal_side x again.written in
      let text : text_of (written x) ≡ literal_text parameters x = ap text_of is ∙ leaf_text (codes "Literal") (literal_text parameters x) in
      record {
        no_reference = ap (is_fes (codes "ValueReference")) is ∙ leaf_named (codes "Literal") (literal_text parameters x) (codes "ValueReference");
        literal = ap (is_fes (codes "Literal")) is ∙ leaf_named (codes "Literal") (literal_text parameters x) (codes "Literal");
        place = place;
        at = rw (ap plain is ∙ leaf_plain (codes "Literal") (literal_text parameters x), text) again.place_is;
        value = λ other. rw text (again.value_is other);
      }

  -- ---- beside a property

  pub beside_again : (k : ValueKind) (name other : List ℕ) (e : Element) (x : Expr) → beside parameters of_type k name e ≡ Ok x → beside parameters of_type k other (written x) ≡ Ok x
  unfolding beside
  beside_again k name other e x h = by (one_of_two (is_fes (codes "ValueReference") e) (is_fes (codes "Literal") e) _ _ _ x h)
    where
      by_reference : (property_at of_type e >>= λ p. suited (is_same k p.1) e >>= λ _. Ok (Property p.0)) ≡ Ok x → beside parameters of_type k other (written x) ≡ Ok x
      by_reference h =
          let found = bind_ok (property_at of_type e) (λ p. suited (is_same k p.1) e >>= λ _. Ok (Property p.0)) x h in
          let p = found.0 in
          let suit = bind_ok (suited (is_same k p.1) e) (λ _. Ok (Property p.0)) x found.2 in
          let x_is : x ≡ Property p.0 = sym (ok_is FilterDocFault (Property p.0) x suit.2) in
          let holds : is_same k p.1 ≡ true = suited_is _ e suit.0 suit.1 in
          rw x_is
          (rw (named_reference p.0, reference_again schema kind no_colon e p found.1, suits (is_same k p.1) (property p.0) holds) refl)

      by_literal : (literal_at parameters e >>= λ place. literal_as k name place (text_of e)) ≡ Ok x → beside parameters of_type k other (written x) ≡ Ok x
      by_literal h =
          let at = bind_ok (literal_at parameters e) (λ place. literal_as k name place (text_of e)) x h in
          let w = literal_written k name e at.0 x at.1 at.2 in
          rw (w.no_reference, w.literal, w.at) (w.value other)

      by : ((property_at of_type e >>= λ p. suited (is_same k p.1) e >>= λ _. Ok (Property p.0)) ≡ Ok x) ⊎ ((literal_at parameters e >>= λ place. literal_as k name place (text_of e)) ≡ Ok x)
          → beside parameters of_type k other (written x) ≡ Ok x
      by (inl h) = by_reference h
      by (inr h) = by_literal h

-- Comparisons read back as they were written.
use Rattle.std.proofs.Common.{◌≡◌, ◌⊎◌, inl, inr, ℕ, Bool, true, false, List, [], ◌∷◌, Option, Some, None, Ok, Err, refl, sym, ap, subst, ◌∙◌}
use Rattle.std.specs.Prelude.{◌&&◌, codes, if◌then◌else◌}
use Rattle.std.specs.List.{list_any}
use Rattle.std.specs.Str.{bytes_eq}
use Rattle.wfs_ends.specs.Read.{◌>>=◌}
use Rattle.wfs_ends.proofs.Turns.{bind_ok, ok_is}
use Rattle.doc_tree.specs.declared.tree.Element.{Element, out-Element}
use Rattle.gml_docs.specs.Written.{plain_name}
use Rattle.feature_values.specs.Ids.{is_colon}
use Rattle.feature_values.specs.declared.schema.ValueKind.{ValueKind}
use Rattle.feature_values.specs.declared.schema.FeatureType.{FeatureType}
use Rattle.feature_values.specs.declared.schema.Schema.{Schema}
use Rattle.fes_filter.specs.Check.{type_in, is_equality}
use Rattle.fes_filter.specs.declared.expr.Expr.{Expr}
use Rattle.fes_filter.specs.declared.expr.Expr.TheVariants.{Property}
use Rattle.fes_filter.specs.declared.expr.By.{By}
use Rattle.fes_filter.specs.declared.filter.Filter.{Filter}
use Rattle.fes_filter.specs.declared.filter.Filter.TheVariants.{Compare}
use Rattle.fes_docs.specs.declared.fault.FilterDocFault.{FilterDocFault}
use Rattle.doc_tree.specs.Attributes.{value_at}
use Rattle.doc_tree.specs.Others.{is_other, first_other}
use Rattle.fes_docs.specs.Names.{is_fes, text_of, value_of, refused, named, no_more, first_in, no_others}
use Rattle.fes_docs.specs.Sides.{Sides, comparable_at, literal_as, literal_at, beside, right_of, left_of, sides_from, sides_of, match_case, case_by, fold_of, action_of, only_matches, folded, compare_of}
use Rattle.fes_docs.specs.Written.{reference, side, comparison_name, case_attributes, attribute, compare_tree}
use Rattle.fes_docs.proofs.Built.{no_more_at_end, has_children, has_value, has_others}
use Rattle.fes_docs.proofs.Beside.{one_of_two, named_reference, reference_stands, comparable_again, literal_written, beside_again}

-- ---- matchCase

may_if : (b c may : Bool) (fault : FilterDocFault) → (if b then Ok false else (if may && c then Ok true else Err fault)) ≡ Ok true → may ≡ true
may_if true c may fault e = absurd cc
may_if false c true fault e = refl
may_if false c false fault e = absurd cc

pub may_fold : (may : Bool) (r : Option (List ℕ)) → case_by may r ≡ Ok true → may ≡ true
may_fold may None e = absurd cc
may_fold may (Some value) e = may_if (bytes_eq value (codes "true")) (bytes_eq value (codes "false")) may _ e

case_again : (may fold : Bool) (r : Option (List ℕ)) → case_by may r ≡ Ok fold → case_by may (value_at [] match_case (case_attributes fold)) ≡ Ok fold
unfolding attribute plain_name
case_again may true r e = rw (may_fold may r e) refl
case_again may false r e = refl

no_action : (fold : Bool) → value_at [] (codes "matchAction") (case_attributes fold) ≡ None
unfolding attribute plain_name
no_action true = refl
no_action false = refl

no_other : (fold : Bool) → first_other (match_case ∷ codes "matchAction" ∷ []) (case_attributes fold) ≡ None
unfolding attribute plain_name is_other
no_other true = refl
no_other false = refl

module _ (parameters : Option (List (List ℕ))) (schema : Schema) (kind : Option ℕ) (no_colon : list_any is_colon schema.prefix ≡ false) where
  abbrev of_type : Option FeatureType
  of_type = type_in schema kind

  abbrev written : Expr → Element
  written = side parameters schema kind

  abbrev property : ℕ → Element
  property = reference schema kind

  -- ---- sides

  abbrev SidesAgain : By → Sides → Type 0
  SidesAgain by s = (whole : Element) → sides_from parameters of_type by whole (written s.0) (written s.1 ∷ []) ≡ Ok s

  right_again : (by : By) (whole e : Element) (es : List Element) (p : ℕ × ValueKind) (s : Sides) → comparable_at of_type by e ≡ Ok p → right_of parameters of_type whole e p es ≡ Ok s → SidesAgain by s
  unfolding right_of sides_from first_in
  right_again by whole e es p s h g =
      let f = bind_ok (first_in whole es) (λ f. beside parameters of_type p.1 (text_of e) f.0 >>= λ r. no_more f.1 >>= λ _. Ok (Property p.0, r, p.1)) s g in
      let right = bind_ok (beside parameters of_type p.1 (text_of e) f.0.0) (λ r. no_more f.0.1 >>= λ _. Ok (Property p.0, r, p.1)) s f.2 in
      let end = bind_ok (no_more f.0.1) (λ _. Ok (Property p.0, right.0, p.1)) s right.2 in
      subst (SidesAgain by) (ok_is FilterDocFault (Property p.0, right.0, p.1) s end.2) (λ whole.
      rw (
        named_reference parameters schema kind no_colon p.0,
        comparable_again parameters schema kind no_colon by e p h,
        beside_again parameters schema kind no_colon p.1 (text_of e) (text_of (property p.0)) f.0.0 right.0 right.1,
        no_more_at_end,
      ) refl)

  left_again : (by : By) (whole e : Element) (es : List Element) (place : Option ℕ) (s : Sides) → literal_at parameters e ≡ Ok place → left_of of_type by whole e place es ≡ Ok s → SidesAgain by s
  unfolding left_of sides_from first_in
  left_again by whole e es place s h g =
      let f = bind_ok (first_in whole es) (λ f. named (codes "ValueReference") f.0 >>= λ _. comparable_at of_type by f.0 >>= λ p. literal_as p.1 (text_of f.0) place (text_of e) >>= λ l. no_more f.1 >>= λ _. Ok (l, Property p.0, p.1)) s g in
      let name = bind_ok (named (codes "ValueReference") f.0.0) (λ _. comparable_at of_type by f.0.0 >>= λ p. literal_as p.1 (text_of f.0.0) place (text_of e) >>= λ l. no_more f.0.1 >>= λ _. Ok (l, Property p.0, p.1)) s f.2 in
      let p = bind_ok (comparable_at of_type by f.0.0) (λ p. literal_as p.1 (text_of f.0.0) place (text_of e) >>= λ l. no_more f.0.1 >>= λ _. Ok (l, Property p.0, p.1)) s name.2 in
      let left = bind_ok (literal_as p.0.1 (text_of f.0.0) place (text_of e)) (λ l. no_more f.0.1 >>= λ _. Ok (l, Property p.0.0, p.0.1)) s p.2 in
      let end = bind_ok (no_more f.0.1) (λ _. Ok (left.0, Property p.0.0, p.0.1)) s left.2 in
      let w = literal_written parameters schema kind no_colon p.0.1 (text_of f.0.0) e place left.0 h left.1 in
      subst (SidesAgain by) (ok_is FilterDocFault (left.0, Property p.0.0, p.0.1) s end.2) (λ whole.
      rw (
        w.no_reference,
        w.literal,
        w.at,
        reference_stands parameters schema kind no_colon p.0.0,
        comparable_again parameters schema kind no_colon by f.0.0 p.0 p.1,
        w.value (text_of (property p.0.0)),
        no_more_at_end,
      ) refl)

  first_again : (by : By) (whole e : Element) (rest : List Element) (s : Sides)
      → ((comparable_at of_type by e >>= λ p. right_of parameters of_type whole e p rest) ≡ Ok s) ⊎ ((literal_at parameters e >>= λ place. left_of of_type by whole e place rest) ≡ Ok s) → SidesAgain by s
  first_again by whole e rest s (inl h) =
      let p = bind_ok (comparable_at of_type by e) (λ p. right_of parameters of_type whole e p rest) s h in
      right_again by whole e rest p.0 s p.1 p.2
  first_again by whole e rest s (inr h) =
      let place = bind_ok (literal_at parameters e) (λ place. left_of of_type by whole e place rest) s h in
      left_again by whole e rest place.0 s place.1 place.2

  from_again : (by : By) (whole e : Element) (rest : List Element) (s : Sides) → sides_from parameters of_type by whole e rest ≡ Ok s → SidesAgain by s
  unfolding sides_from
  from_again by whole e rest s h = first_again by whole e rest s (one_of_two (is_fes (codes "ValueReference") e) (is_fes (codes "Literal") e) _ _ _ s h)

  sides_again : (by : By) (e whole : Element) (s : Sides) → (out-Element whole).children ≡ written s.0 ∷ written s.1 ∷ [] → sides_of parameters of_type by e ≡ Ok s → sides_of parameters of_type by whole ≡ Ok s
  unfolding sides_of first_in
  sides_again by e whole s is h =
      let f = bind_ok (first_in e (out-Element e).children) (λ f. sides_from parameters of_type by e f.0 f.1) s h in
      rw is (from_again by e f.0.0 f.0.1 s f.2 whole)

  -- ---- the whole

  module _ (by : By) (x y : Expr) (fold : Bool) where
    abbrev tree : Element
    tree = compare_tree parameters schema kind by x y fold

    tree_children : (out-Element tree).children ≡ written x ∷ written y ∷ []
    unfolding compare_tree
    tree_children = has_children (comparison_name by) (case_attributes fold) (written x ∷ written y ∷ []) []

    tree_value : (want : List ℕ) → value_of want tree ≡ value_at [] want (case_attributes fold)
    unfolding compare_tree
    tree_value want = has_value (comparison_name by) (case_attributes fold) (written x ∷ written y ∷ []) [] want

    tree_others : (listed : List (List ℕ)) → no_others listed tree ≡ refused (first_other listed (case_attributes fold))
    unfolding compare_tree
    tree_others listed = has_others (comparison_name by) (case_attributes fold) (written x ∷ written y ∷ []) [] listed

    action_again : action_of tree ≡ Ok tt
    unfolding action_of
    action_again = rw (tree_value (codes "matchAction"), no_action fold) refl

    only_again : only_matches tree ≡ Ok tt
    unfolding only_matches
    only_again = tree_others (match_case ∷ codes "matchAction" ∷ []) ∙ ap refused (no_other fold)

    fold_again : (e : Element) → fold_of by e ≡ Ok fold → fold_of by tree ≡ Ok fold
    unfolding fold_of
    fold_again e h = ap (case_by (is_equality by)) (tree_value match_case) ∙ case_again (is_equality by) fold (value_of match_case e) h

  pub compare_again : (by : By) (e : Element) (f : Filter) → compare_of parameters of_type by e ≡ Ok f
      → (x : Expr) × (y : Expr) × (fold : Bool) × (f ≡ Compare by x y fold) × (compare_of parameters of_type by (compare_tree parameters schema kind by x y fold) ≡ Ok f)
  unfolding compare_of
  compare_again by e f h =
      let fold = bind_ok (fold_of by e) (λ fold. action_of e >>= λ _. only_matches e >>= λ _. sides_of parameters of_type by e >>= λ s. folded fold s.2 >>= λ _. Ok (Compare by s.0 s.1 fold)) f h in
      let action = bind_ok (action_of e) (λ _. only_matches e >>= λ _. sides_of parameters of_type by e >>= λ s. folded fold.0 s.2 >>= λ _. Ok (Compare by s.0 s.1 fold.0)) f fold.2 in
      let only = bind_ok (only_matches e) (λ _. sides_of parameters of_type by e >>= λ s. folded fold.0 s.2 >>= λ _. Ok (Compare by s.0 s.1 fold.0)) f action.2 in
      let s = bind_ok (sides_of parameters of_type by e) (λ s. folded fold.0 s.2 >>= λ _. Ok (Compare by s.0 s.1 fold.0)) f only.2 in
      let end = bind_ok (folded fold.0 s.0.2) (λ _. Ok (Compare by s.0.0 s.0.1 fold.0)) f s.2 in
      let f_is : f ≡ Compare by s.0.0 s.0.1 fold.0 = sym (ok_is FilterDocFault (Compare by s.0.0 s.0.1 fold.0) f end.2) in
      let whole = tree by s.0.0 s.0.1 fold.0 in (
        s.0.0,
        s.0.1,
        fold.0,
        f_is,
        rw (
          fold_again by s.0.0 s.0.1 fold.0 e fold.1,
          action_again by s.0.0 s.0.1 fold.0,
          only_again by s.0.0 s.0.1 fold.0,
          sides_again by e whole s.0 (tree_children by s.0.0 s.0.1 fold.0) s.1,
          end.1,
        ) (ap Ok (sym f_is)),
      )

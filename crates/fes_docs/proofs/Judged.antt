-- Nothing is wrong with a filter that was read: with none of its operators, and the reader counts them as they are judged.
use Rattle.std.proofs.Common.{◌≡◌, ℕ, ◌-◌, Bool, true, false, List, [], ◌∷◌, length, map, Option, Result, Ok, Err, refl, sym, ap, subst, ◌∙◌, arith}
use Rattle.std.specs.Prelude.{codes, if◌then◌else◌, ◌==◌, nat_lt}
use Rattle.std.specs.List.{flat_map}
use Rattle.wfs_ends.specs.Read.{◌>>=◌, each}
use Rattle.wfs_ends.proofs.Turns.{bind_ok, if_ok, ok_is}
use Rattle.doc_tree.specs.declared.tree.Element.{Element, out-Element}
use Rattle.feature_values.specs.declared.schema.FeatureType.{FeatureType}
use Rattle.feature_values.specs.declared.schema.Schema.{Schema}
use Rattle.fes_filter.specs.Check.{Verdict, type_in, verdicts_step, verdicts, most_operators, check_of}
use Rattle.fes_filter.specs.Check.{counted as judged}
use Rattle.fes_filter.specs.declared.filter.Filter.{Filter}
use Rattle.fes_filter.specs.declared.filter.Filter.TheVariants.{Both, Either, Not, Ids, rolls-Both, rolls-Either, rolls-Not}
use Rattle.fes_filter.specs.declared.filter.Filter.TheOpen.{Filter-F}
use Rattle.fes_filter.specs.declared.filter.Filter.TheFolds.{fold-roll-Filter}
use Rattle.fes_filter.specs.declared.fault.FilterFault.{FilterFault}
use Rattle.fes_filter.specs.declared.fault.FilterFault.TheVariants.{TooLarge}
use Rattle.fes_filter.proofs.Verdicts.{part_turn, one_verdict, first_verdict, behind_first}
use Rattle.fes_docs.specs.declared.fault.FilterDocFault.{FilterDocFault}
use Rattle.fes_docs.specs.declared.fault.FilterDocFault.TheVariants.{Shape}
use Rattle.fes_docs.specs.declared.operator.Predicate.{Predicate}
use Rattle.fes_docs.specs.declared.operator.Operator.{Operator}
use Rattle.fes_docs.specs.Names.{is_fes, local_of, no_others, no_more, first_in}
use Rattle.fes_docs.specs.Operators.{operator_in}
use Rattle.fes_docs.specs.Ids.{next_id}
use Rattle.fes_docs.specs.Filters.{Reading, counted, predicate_of, next_operator, several, one, operation, operator_by, operator_of, ids_in, content_from, content_of, filter_of}
use Rattle.fes_docs.specs.Allowed.{ReadIsAllowed}
use Rattle.fes_docs.proofs.Children.{HoldAll, by_children}
use Rattle.fes_docs.proofs.Readings.{operator_is}
use Rattle.fes_docs.proofs.Parts.{enough, through, all_through}
use Rattle.fes_docs.proofs.Fine.{ids_fine, predicate_fine}

-- ---- one operator more

one_fewer : (b : Bool) (fault : FilterDocFault) (other : FilterFault) (x y : ℕ) → (if b then Err fault else Ok x) ≡ Ok y → (if b then Err other else Ok x) ≡ Ok y
one_fewer true fault other x y e = absurd cc
one_fewer false fault other x y e = ap Ok (ok_is FilterDocFault x y e)

-- one with which nothing is wrong is judged as it is counted
itself : (n k : ℕ) → counted n ≡ Ok k → judged n (Ok tt) ≡ Ok k
unfolding counted judged
itself n k h = one_fewer (n == 0) _ TooLarge (n - 1) k h

module _ (parameters : Option (List (List ℕ))) (schema : Schema) (kind : Option ℕ) where
  abbrev of_type : Option FeatureType
  of_type = type_in schema kind

  abbrev read : Element → Reading
  read = operator_of parameters schema kind

  abbrev inner : Element → List Reading
  inner e = map read (out-Element e).children

  -- nothing is wrong with the operators of a filter, and as many may stand behind them
  abbrev Leaves : Filter → ℕ → ℕ → Type 0
  Leaves f n m = each judged n (verdicts of_type f) ≡ Ok m

  -- the same of all filters that an element reads as
  abbrev Fine : Element → Type 0
  Fine e = (n m : ℕ) (f : Filter) → read e n ≡ Ok (f, m) → Leaves f n m

  abbrev AllFine : List Element → Type 0
  AllFine = HoldAll Fine

  -- ---- operators of operators

  abbrev LeaveAll : List Filter × ℕ → ℕ → Type 0
  LeaveAll found n = each judged n (flat_map (verdicts of_type) found.0) ≡ Ok found.1

  through_fine : (es : List Element) → AllFine es → (n : ℕ) (found : List Filter × ℕ) → through (map read es) n ≡ Ok found → LeaveAll found n
  unfolding each
  through_fine [] all n found h = subst (λ (x : List Filter × ℕ). LeaveAll x n) (ok_is FilterDocFault ([], n) found h) refl
  through_fine (e ∷ es) all n found h =
      let x = bind_ok (read e n) _ found h in
      let y = bind_ok (through (map read es) x.0.1) _ found x.2 in
      subst (λ (z : List Filter × ℕ). LeaveAll z n) (ok_is FilterDocFault (x.0.0 ∷ y.0.0, y.0.1) found y.2)
      (part_turn judged (verdicts of_type) n (x.0.0 ∷ y.0.0) 0 x.0.0 (omega arith) refl ∙ rw (all.0 n x.0.1 x.0.0 x.1) (through_fine es all.1 x.0.1 y.0 y.1))

  several_fine : (name : List ℕ) (es : List Element) → AllFine es → (k : ℕ) (found : List Filter × ℕ) → several name (map read es) k ≡ Ok found → LeaveAll found k
  unfolding several
  several_fine name es all k found h =
      let some = bind_ok (each next_operator ([], k) (map read es)) _ found h in
      through_fine es all k found (sym (all_through (map read es) k) ∙ some.1 ∙ ap Ok (enough (nat_lt (length some.0.0) 2) (Shape name) some.0 found some.2).1)

  -- one of And and Or, with its parts
  module _ (build : List Filter → Filter) (is : (fs : List Filter) → verdicts of_type (build fs) ≡ Ok tt ∷ flat_map (λ part. part) (map (verdicts of_type) fs)) where
    abbrev group : Element → ℕ → Result (Filter × ℕ) FilterDocFault
    group e k = no_others [] e >>= λ _. several (local_of e) (inner e) k >>= λ found. Ok (build found.0, found.1)

    group_fine : (e : Element) → AllFine (out-Element e).children → (n k m : ℕ) (f : Filter) → counted n ≡ Ok k → group e k ≡ Ok (f, m) → Leaves f n m
    group_fine e all n k m f count h =
        let none = bind_ok (no_others [] e) _ (f, m) h in
        let found = bind_ok (several (local_of e) (inner e) k) _ (f, m) none.2 in
        subst (λ (x : Filter × ℕ). Leaves x.0 n x.1) (ok_is FilterDocFault (build found.0.0, found.0.1) (f, m) found.2)
        (ap (each judged n) (is found.0.0) ∙ behind_first judged (verdicts of_type) n k (Ok tt) found.0.0 (itself n k count) ∙ several_fine (local_of e) (out-Element e).children all k found.0 found.1)

  both_is : (fs : List Filter) → verdicts of_type (Both fs) ≡ Ok tt ∷ flat_map (λ part. part) (map (verdicts of_type) fs)
  both_is fs = ap (verdicts of_type) (sym (rolls-Both fs)) ∙ fold-roll-Filter (List Verdict) (verdicts_step of_type) (Filter-F.Both fs)

  either_is : (fs : List Filter) → verdicts of_type (Either fs) ≡ Ok tt ∷ flat_map (λ part. part) (map (verdicts of_type) fs)
  either_is fs = ap (verdicts of_type) (sym (rolls-Either fs)) ∙ fold-roll-Filter (List Verdict) (verdicts_step of_type) (Filter-F.Either fs)

  not_is : (f : Filter) → verdicts of_type (Not f) ≡ Ok tt ∷ verdicts of_type f
  not_is f = ap (verdicts of_type) (sym (rolls-Not f)) ∙ fold-roll-Filter (List Verdict) (verdicts_step of_type) (Filter-F.Not f)

  one_fine : (name : List ℕ) (es : List Element) (k : ℕ) (found : Filter × ℕ) → AllFine es → one name es (map read es) k ≡ Ok found → Leaves found.0 k found.1
  one_fine name [] k found all h = absurd cc
  one_fine name (e ∷ es) k found all h =
      let x = bind_ok (read e k) _ found h in
      let end = bind_ok (no_more es) _ found x.2 in
      all.0 k found.1 found.0 (x.1 ∙ end.2)

  not_fine : (e : Element) → AllFine (out-Element e).children → (n k m : ℕ) (f : Filter) → counted n ≡ Ok k → operation parameters schema kind e (inner e) Operator.Not k ≡ Ok (f, m) → Leaves f n m
  unfolding operation
  not_fine e all n k m f count h =
      let none = bind_ok (no_others [] e) _ (f, m) h in
      let found = bind_ok (one (local_of e) (out-Element e).children (inner e) k) _ (f, m) none.2 in
      let part = one_fine (local_of e) (out-Element e).children k found.0 all found.1 in
      subst (λ (x : Filter × ℕ). Leaves x.0 n x.1) (ok_is FilterDocFault (Not found.0.0, found.0.1) (f, m) found.2)
      (ap (each judged n) (not_is found.0.0) ∙ first_verdict judged n (Ok tt) (verdicts of_type found.0.0) ∙ rw (itself n k count) part)

  -- ---- all operators

  alone_fine : (p : Predicate) (e : Element) (n k m : ℕ) (f : Filter) → counted n ≡ Ok k → operation parameters schema kind e (inner e) (Operator.Predicate p) k ≡ Ok (f, m) → Leaves f n m
  unfolding operation
  alone_fine p e n k m f count h =
      let x = bind_ok (predicate_of parameters schema kind e p) _ (f, m) h in
      subst (λ (y : Filter × ℕ). Leaves y.0 n y.1) (ok_is FilterDocFault (x.0, k) (f, m) x.2)
      (ap (each judged n) (predicate_fine parameters schema kind p e x.0 x.1) ∙ one_verdict judged n (Ok tt) ∙ itself n k count)

  operation_fine : (operator : Operator) (e : Element) → AllFine (out-Element e).children → (n k m : ℕ) (f : Filter) → counted n ≡ Ok k → operation parameters schema kind e (inner e) operator k ≡ Ok (f, m) → Leaves f n m
  unfolding operation
  operation_fine Operator.And e all n k m f count h = group_fine Both both_is e all n k m f count h
  operation_fine Operator.Or e all n k m f count h = group_fine Either either_is e all n k m f count h
  operation_fine Operator.Not e all n k m f count h = not_fine e all n k m f count h
  operation_fine (Operator.Predicate p) e all n k m f count h = alone_fine p e n k m f count h

  step_fine : (e : Element) → AllFine (out-Element e).children → Fine e
  unfolding operator_by
  step_fine e all n m f h =
      let operator = bind_ok (operator_in (out-Element e).name) _ (f, m) (sym (operator_is parameters schema kind e n) ∙ h) in
      let k = bind_ok (counted n) _ (f, m) operator.2 in
      operation_fine operator.0 e all n k.0 m f k.1 k.2

  fine : (e : Element) → Fine e
  fine = by_children Fine step_fine

  -- ---- the whole

  abbrev IsAllowed : Filter → Type 0
  IsAllowed f = check_of schema kind f ≡ Ok tt

  allowed_by : (f : Filter) (m : ℕ) → Leaves f most_operators m → IsAllowed f
  unfolding check_of
  allowed_by f m h = rw h refl

  ids_allowed : (es : List Element) (f : Filter) → ids_in parameters schema es ≡ Ok f → IsAllowed f
  unfolding judged
  ids_allowed es f h =
      let ids = bind_ok (each (next_id parameters schema) [] es) _ f h in
      subst IsAllowed (ok_is FilterDocFault (Ids ids.0) f ids.2)
      (allowed_by (Ids ids.0) (most_operators - 1) (ap (each judged most_operators) (ids_fine parameters schema kind ids.0) ∙ one_verdict judged most_operators (Ok tt)))

  operator_allowed : (e : Element) (rest : List Element) (f : Filter) → content_from parameters schema kind e rest ≡ Ok f → IsAllowed f
  unfolding content_from
  operator_allowed e rest f h =
      let found = bind_ok (read e most_operators) _ f h in
      let end = bind_ok (no_more rest) _ f found.2 in
      subst IsAllowed (ok_is FilterDocFault found.0.0 f end.2) (allowed_by found.0.0 found.0.1 (fine e most_operators found.0.1 found.0.0 found.1))

  either_allowed : (b : Bool) (e : Element) (es rest : List Element) (f : Filter) → (if b then ids_in parameters schema es else content_from parameters schema kind e rest) ≡ Ok f → IsAllowed f
  either_allowed true e es rest f h = ids_allowed es f h
  either_allowed false e es rest f h = operator_allowed e rest f h

  content_allowed : (whole : Element) (es : List Element) (f : Filter) → content_of parameters schema kind whole es ≡ Ok f → IsAllowed f
  content_allowed whole es f h =
      let a = bind_ok (first_in whole es) _ f h in
      either_allowed (is_fes (codes "ResourceId") a.0.0) a.0.0 es a.0.1 f a.2

  filter_allowed : (e : Element) (f : Filter) → filter_of parameters schema kind e ≡ Ok f → IsAllowed f
  unfolding filter_of
  filter_allowed e f h =
      let whole = if_ok (is_fes (codes "Filter") e) _ (Shape (local_of e)) f h in
      let none = bind_ok (no_others [] e) _ f whole.1 in
      content_allowed e (out-Element e).children f none.2

pub filters_are_allowed : ReadIsAllowed
filters_are_allowed parameters schema kind e filter h = filter_allowed parameters schema kind e filter h

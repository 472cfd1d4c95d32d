-- A query that asks for identifiers, or for a box, selects no other feature.
use Rattle.std.proofs.Common.{◌≡◌, ℕ, zero, suc, ◌+◌, ◌<◌, ◌≤◌, Bool, true, false, ◌&&◌, ◌||◌, List, [], ◌∷◌, length, get_or, drop, map, filter, Option, Some, None, slice_get, refl, sym, ap, ◌∙◌}
use Rattle.std.specs.List.{list_all, list_any}
use Rattle.std.specs.List.Sorted.{IsStrictlySortedBy}
use Rattle.std.specs.Option.{option_or}
use Rattle.std.proofs.lemmas.Bool.{and_parts}
use Rattle.std.proofs.lemmas.List.{drop_more, at_drop_all}
use Rattle.geom_core.specs.Plane.{Bounds}
use Rattle.feature_values.specs.declared.value.Value.{Value}
use Rattle.feature_values.specs.declared.value.Value.TheVariants.{Null, Words, Whole, Truth, Shape}
use Rattle.feature_values.specs.declared.feature.Feature.{Feature}
use Rattle.feature_values.specs.declared.feature.Rid.{Rid}
use Rattle.fes_filter.specs.declared.ids.IdRef.{IdRef}
use Rattle.fes_filter.specs.declared.filter.Filter.{Filter, out-Filter, map-Filter}
use Rattle.fes_filter.specs.declared.filter.Filter.TheOpen.{Filter-F}
use Rattle.fes_filter.specs.declared.filter.Filter.TheFolds.{fold_out-Filter}
use Rattle.fes_filter.specs.declared.query.Query.{Query}
use Rattle.fes_filter.specs.Truth.{is_of, passes, is_in, is_in_box, truth_of, truth_step}
use Rattle.fes_filter.specs.View.{IsInOrder, is_value_near, has_near}
use Rattle.query_core.specs.Finding.{first_of, asked_by, asked, listed_by, area_of, ids_asked, box_asked, HasNear, HasSelected}
use Rattle.query_core.specs.Selecting.{is_of_type, passes_filter, is_selected, is_among, held}
use Rattle.query_core.specs.Sorting.{rid_order}
use Rattle.query_core.proofs.Begins.{all_kept_in}
use Rattle.query_core.proofs.Found.{held_is}

-- ---- a filter is true of no feature but those that it asks for

-- the truth of an operator
abbrev by_parts : Feature → Filter-F Filter → Bool
by_parts f operator = truth_step f (map-Filter Filter Bool (truth_of f) operator)

opened : (f : Feature) (filter : Filter) → truth_of f filter ≡ by_parts f (out-Filter filter)
opened f filter = fold_out-Filter Bool (truth_step f) filter

first_or_more : {X P : Type 0} (first more : Option X) (x : X) (b c : Bool) → option_or first more ≡ Some x → (b && c) ≡ true → (first ≡ Some x → b ≡ true → P) → (more ≡ Some x → c ≡ true → P) → P
first_or_more (Some y) more x b c is h at_first behind = at_first is (and_parts b c h).0
first_or_more None more x b c is h at_first behind = behind is (and_parts b c h).1

-- what an operator that is true of a feature tells by what it has, a filter does by what it asks for
module _ {X : Type 0} (pick : Filter-F Filter → Option X) (f : Feature) (P : X → Type 0) (tells : (operator : Filter-F Filter) (x : X) → pick operator ≡ Some x → by_parts f operator ≡ true → P x) where
  parts_tell : (parts : List Filter) (x : X) → first_of pick parts ≡ Some x → list_all (λ part. part) (map (truth_of f) parts) ≡ true → P x
  parts_tell [] x is h = cc
  parts_tell (part ∷ parts) x is h =
      first_or_more (pick (out-Filter part)) (first_of pick parts) x (truth_of f part) (list_all (λ b. b) (map (truth_of f) parts)) is h
      (λ at t. tells (out-Filter part) x at (sym (opened f part) ∙ t)) (λ at t. parts_tell parts x at t)

  operator_tells : (operator : Filter-F Filter) (x : X) → asked_by pick operator ≡ Some x → by_parts f operator ≡ true → P x
  operator_tells (Filter-F.Both parts) x is h = parts_tell parts x is h
  operator_tells (Filter-F.Either parts) x is h = tells (Filter-F.Either parts) x is h
  operator_tells (Filter-F.Not part) x is h = tells (Filter-F.Not part) x is h
  operator_tells (Filter-F.Compare by left right fold) x is h = tells (Filter-F.Compare by left right fold) x is h
  operator_tells (Filter-F.Like property pattern) x is h = tells (Filter-F.Like property pattern) x is h
  operator_tells (Filter-F.IsNull property) x is h = tells (Filter-F.IsNull property) x is h
  operator_tells (Filter-F.Between property low high) x is h = tells (Filter-F.Between property low high) x is h
  operator_tells (Filter-F.Ids ids) x is h = tells (Filter-F.Ids ids) x is h
  operator_tells (Filter-F.InBox property area) x is h = tells (Filter-F.InBox property area) x is h
  operator_tells (Filter-F.Meets property shape) x is h = tells (Filter-F.Meets property shape) x is h
  operator_tells (Filter-F.Apart property shape) x is h = tells (Filter-F.Apart property shape) x is h

  pub filter_tells : (filter : Option Filter) (x : X) → asked pick filter ≡ Some x → passes_filter filter f ≡ true → P x
  filter_tells None x is h = cc
  filter_tells (Some filter) x is h = operator_tells (out-Filter filter) x is (sym (opened f filter) ∙ h)

-- ---- identifiers

listed_true : (f : Feature) (operator : Filter-F Filter) (ids : List IdRef) → listed_by operator ≡ Some ids → by_parts f operator ≡ true → list_any (is_of f.id) ids ≡ true
listed_true f (Filter-F.Ids others) ids is h = let e : others ≡ ids = cc in ap (list_any (is_of f.id)) (sym e) ∙ h
listed_true f (Filter-F.Both parts) ids is h = cc
listed_true f (Filter-F.Either parts) ids is h = cc
listed_true f (Filter-F.Not part) ids is h = cc
listed_true f (Filter-F.Compare by left right fold) ids is h = cc
listed_true f (Filter-F.Like property pattern) ids is h = cc
listed_true f (Filter-F.IsNull property) ids is h = cc
listed_true f (Filter-F.Between property low high) ids is h = cc
listed_true f (Filter-F.InBox property area) ids is h = cc
listed_true f (Filter-F.Meets property shape) ids is h = cc
listed_true f (Filter-F.Apart property shape) ids is h = cc

-- a selected feature has one of the identifiers that are asked
pub ids_hold : (query : Query) (references : List IdRef) (f : Feature) → ids_asked query.filter ≡ Some references → is_selected query f ≡ true → list_any (is_of f.id) references ≡ true
unfolding is_selected ids_asked
ids_hold query references f is h =
    filter_tells listed_by f (λ ids. list_any (is_of f.id) ids ≡ true) (listed_true f) query.filter references is (and_parts (is_of_type query.kind f) (passes_filter query.filter f) h).1

-- ---- boxes

any_weaker : {X : Type 0} (p q : X → Bool) → ((x : X) → p x ≡ true → q x ≡ true) → (xs : List X) → list_any p xs ≡ true → list_any q xs ≡ true
any_weaker p q weaker [] h = h
any_weaker p q weaker (x ∷ xs) h = any_at (p x) (q x) (list_any p xs) (list_any q xs) (weaker x) (any_weaker p q weaker xs) h
  where
    any_at : (a b c d : Bool) → (a ≡ true → b ≡ true) → (c ≡ true → d ≡ true) → (a || c) ≡ true → (b || d) ≡ true
    any_at true b c d first more h = rw (first refl) refl
    any_at false true c d first more h = refl
    any_at false false c d first more h = more h

-- one of the values passes where that of a property does
any_passes : (p : Value → Bool) (values : List Value) (property : ℕ) → passes p (slice_get values property) ≡ true → list_any p values ≡ true
any_passes p [] property h = h
any_passes p (value ∷ values) zero h = rw h refl
any_passes p (value ∷ values) (suc property) h = or_right (p value) (list_any p values) (any_passes p values property h)
  where
    or_right : (b c : Bool) → c ≡ true → (b || c) ≡ true
    or_right true c h = refl
    or_right false c h = h

in_is_near : (area : Bounds) (value : Value) → is_in area value ≡ true → is_value_near area value ≡ true
in_is_near area (Shape shape) h = rw h refl
in_is_near area Null h = h
in_is_near area (Words text) h = h
in_is_near area (Whole number) h = h
in_is_near area (Truth truth) h = h

box_near : (f : Feature) (property : Option ℕ) (area : Bounds) → is_in_box f property area ≡ true → has_near area f ≡ true
unfolding is_in_box
box_near f None area h = any_weaker (is_in area) (is_value_near area) (in_is_near area) f.values h
box_near f (Some property) area h =
    any_weaker (is_in area) (is_value_near area) (in_is_near area) f.values (any_passes (is_in area) f.values property h)

box_true : (f : Feature) (operator : Filter-F Filter) (area : Bounds) → area_of operator ≡ Some area → by_parts f operator ≡ true → has_near area f ≡ true
box_true f (Filter-F.InBox property other) area is h = let e : other ≡ area = cc in ap (λ a. has_near a f) (sym e) ∙ box_near f property other h
box_true f (Filter-F.Both parts) area is h = cc
box_true f (Filter-F.Either parts) area is h = cc
box_true f (Filter-F.Not part) area is h = cc
box_true f (Filter-F.Compare by left right fold) area is h = cc
box_true f (Filter-F.Like property pattern) area is h = cc
box_true f (Filter-F.IsNull property) area is h = cc
box_true f (Filter-F.Between property low high) area is h = cc
box_true f (Filter-F.Ids ids) area is h = cc
box_true f (Filter-F.Meets property shape) area is h = cc
box_true f (Filter-F.Apart property shape) area is h = cc

-- a selected feature is of the query's types, and near the box that is asked
pub box_holds : (query : Query) (area : Bounds) (f : Feature) → box_asked query.filter ≡ Some area → is_selected query f ≡ true → (is_of_type query.kind f && has_near area f) ≡ true
unfolding is_selected box_asked
box_holds query area f is h =
    let parts = and_parts (is_of_type query.kind f) (passes_filter query.filter f) h in
    rw parts.0 (filter_tells area_of f (λ a. has_near a f ≡ true) (box_true f) query.filter area is parts.1)

-- ---- the loop that stops at the first part

module _ {X : Type 0} (pick : Filter-F Filter → Option X) where
  first_turn : (parts : List Filter) (i : ℕ) (x : Filter) → i < length parts → x ≡ get_or parts i x → first_of pick (drop i parts) ≡ option_or (pick (out-Filter x)) (first_of pick (drop (i + 1) parts))
  first_turn parts i x lt is = rw (drop_more parts i x lt, ← is) refl

  pub first_found : (parts : List Filter) (i : ℕ) (x : Filter) (found : X) (total : Option X) → i < length parts → x ≡ get_or parts i x → Some found ≡ pick (out-Filter x) → first_of pick (drop i parts) ≡ total → Some found ≡ total
  first_found parts i x found total lt is now so_far =
      ap (λ o. option_or o (first_of pick (drop (i + 1) parts))) now ∙ sym (first_turn parts i x lt is) ∙ so_far

  pub first_passes : (parts : List Filter) (i : ℕ) (x : Filter) (total : Option X) → i < length parts → x ≡ get_or parts i x → None ≡ pick (out-Filter x) → first_of pick (drop i parts) ≡ total → first_of pick (drop (i + 1) parts) ≡ total
  first_passes parts i x total lt is now so_far =
      ap (λ o. option_or o (first_of pick (drop (i + 1) parts))) now ∙ sym (first_turn parts i x lt is) ∙ so_far

  pub none_picked : (parts : List Filter) (i : ℕ) (total : Option X) → length parts ≤ i → first_of pick (drop i parts) ≡ total → None ≡ total
  none_picked parts i total le so_far = sym (at_drop_all (first_of pick) parts i le) ∙ so_far

-- ---- what is looked up

-- identifiers among which are all that are asked hold what is selected
pub ids_selected : (features : List Feature) (query : Query) (references : List IdRef) (ids : List Rid) → ((id : Rid) → is_among ids id ≡ list_any (is_of id) references) → ids_asked query.filter ≡ Some references → HasSelected query features ids
ids_selected features query references ids same asked =
    λ k d lt. λ h. same (get_or features k d).id ∙ ids_hold query references (get_or features k d) asked h

pub near_selected : (features : List Feature) (query : Query) (area : Bounds) (ids : List Rid) → HasNear query.kind area features ids → box_asked query.filter ≡ Some area → HasSelected query features ids
near_selected features query area ids near asked = λ k d lt. λ h. near k d lt (box_holds query area (get_or features k d) asked h)

pub both_selected : (features : List Feature) (query : Query) (ids others both : List Rid) → ((id : Rid) → is_among both id ≡ (is_among ids id && is_among others id)) → HasSelected query features ids → HasSelected query features others → HasSelected query features both
both_selected features query ids others both same first second =
    λ k d lt. λ h. same (get_or features k d).id ∙ rw (first k d lt h, second k d lt h) refl

pub looked_up : (features : List Feature) (query : Query) (ids : List Rid) → IsInOrder features → IsStrictlySortedBy rid_order ids → HasSelected query features ids → filter (is_selected query) (held features ids) ≡ filter (is_selected query) features
looked_up features query ids order rise whole =
    ap (filter (is_selected query)) (held_is features ids order rise)
    ∙ all_kept_in (λ (f : Feature). is_among ids f.id) (is_selected query) features whole

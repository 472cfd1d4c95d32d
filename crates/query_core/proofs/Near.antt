-- A loop that asks a view, type by type, for what is near a box.
use Rattle.std.proofs.Common.{◌≡◌, ℕ, zero, suc, ◌+◌, ◌-◌, ◌<◌, ◌≤◌, Bool, true, false, cond, ◌&&◌, ◌||◌, ◌==◌, nat_lt, List, [], ◌∷◌, ◌++◌, length, get_or, filter, All, Option, Some, None, Ok, IsTrue, slice_get, refl, sym, ap, ◌∙◌, arith, lt-ltb, ltb-true, ltb-false, eqb-true}
use Rattle.std.specs.Prelude.{Contains}
use Rattle.std.specs.Option.{IfSome}
use Rattle.std.proofs.lemmas.Bool.{false≢true, and_parts, eqb-false}
use Rattle.std.proofs.lemmas.List.Elements.{All-filter, All-head, All-tail, All-same, All-cons, All-nil, All-weaker, filter_passes}
use Rattle.std.proofs.lemmas.Bool.Decides.{nat_tests}
use Rattle.std.proofs.lemmas.List.{length-append}
use Rattle.std.proofs.lemmas.List.Folds.{list_any_at, list_any-append}
use Rattle.geom_core.specs.Plane.{Bounds}
use Rattle.feature_values.specs.Fits.{feature_fits, type_fits_if}
use Rattle.feature_values.specs.declared.feature.Feature.{Feature}
use Rattle.feature_values.specs.declared.feature.Rid.{Rid}
use Rattle.feature_values.specs.declared.schema.FeatureType.{FeatureType}
use Rattle.feature_values.specs.declared.schema.Schema.{Schema}
use Rattle.feature_values.specs.declared.value.Value.{Value}
use Rattle.fes_filter.specs.View.{is_same, is_before, IsInOrder, IsView, next_after, has_near, is_near, HasAllNear}
use Rattle.query_core.specs.Finding.{end_of, HasNear}
use Rattle.query_core.specs.Selecting.{is_of_type, is_among}
use Rattle.query_core.specs.Steps.{sum_below}
use Rattle.query_core.proofs.Begins.{before_kind}
use Rattle.query_core.proofs.Walks.{behind, next_found, next_none}

-- ---- which are among others

same_itself : (id : Rid) → is_same id id ≡ true
same_itself id = grind (arith, nat_tests)

pub contained_among : (ids : List Rid) (id : Rid) → Contains ids id → is_among ids id ≡ true
contained_among ids id h = list_any_at (is_same id) ids h.0 id h.1 (ap (is_same id) h.2 ∙ same_itself id)

-- those of one type that are near
pub near_of_type : (kind : ℕ) (area : Bounds) (features : List Feature) (ids : List Rid) → HasAllNear kind area features ids → HasNear (Some kind) area features ids
near_of_type kind area features ids all = λ k d lt. λ h. contained_among ids (get_or features k d).id (all k d lt h)

or_right : (b c : Bool) → c ≡ true → (b || c) ≡ true
or_right true c h = refl
or_right false c h = h

or_left : (b c : Bool) → b ≡ true → (b || c) ≡ true
or_left true c h = refl
or_left false c h = absurd (false≢true h)

-- ---- types

-- of how many types, from the first on, the view was asked
abbrev pub asked_up_to : Option Rid → ℕ
asked_up_to None = 0
asked_up_to (Some id) = suc id.kind

sum_at : (count : ℕ → ℕ) (m n : ℕ) (b : Bool) → (m == suc n) ≡ b → m ≤ suc n → (m ≤ n → sum_below count m ≤ sum_below count n) → sum_below count m ≤ sum_below count n + count n
sum_at count m n true is le more = rw (eqb-true m (suc n) is) (omega arith)
sum_at count m n false is le more = omega (arith, more (omega (arith, le, eqb-false m (suc n) is)))

sum_rises : (count : ℕ → ℕ) (m n : ℕ) → m ≤ n → sum_below count m ≤ sum_below count n
sum_rises count m zero le = let e : m ≡ 0 = omega (arith, le) in rw e (omega arith)
sum_rises count m (suc n) le = sum_at count m n (m == suc n) refl le (sum_rises count m n)

-- the type of a feature that a schema allows is one of the schema
type_within : (types : List FeatureType) (kind : ℕ) (values : List Value) → type_fits_if (slice_get types kind) values ≡ Ok tt → kind < length types
type_within [] kind values fits = cc
type_within (of_type ∷ types) zero values fits = omega arith
type_within (of_type ∷ types) (suc kind) values fits = omega (arith, type_within types kind values fits)

kind_within : (schema : Schema) (f : Feature) → feature_fits schema f ≡ Ok tt → f.id.kind < length schema.types
unfolding feature_fits
kind_within schema f fits = type_within schema.types f.id.kind f.values fits

-- ---- the features behind a place

-- what holds of those behind a place holds of all of types that were not asked
module _ (P : Feature → Type 0) where
  later_at : (p : Feature → Bool) (f : Feature) (kept features : List Feature) (b : Bool) → p f ≡ b → (All P kept → All (λ g. p g ≡ true → P g) features) → All P (cond b (f ∷ kept) kept) → All (λ g. p g ≡ true → P g) (f ∷ features)
  later_at p f kept features true is more all = All-cons (λ g. p g ≡ true → P g) f features (λ h. All-head P f kept all) (more (All-tail P f kept all))
  later_at p f kept features false is more all = All-cons (λ g. p g ≡ true → P g) f features (λ h. absurd (false≢true (sym is ∙ h))) (more all)

  of_later : (p : Feature → Bool) (features : List Feature) → All P (filter p features) → All (λ f. p f ≡ true → P f) features
  of_later p [] all = All-nil (λ f. p f ≡ true → P f)
  of_later p (f ∷ features) all = later_at p f (filter p features) features (p f) refl (of_later p features) all

  all_later : (after : Option Rid) (features : List Feature) → All P (behind after features) → All (λ f. asked_up_to after ≤ f.id.kind → P f) features
  all_later None features all = All-weaker P (λ f. 0 ≤ f.id.kind → P f) (λ f h le. h) features all
  all_later (Some id) features all =
      All-weaker (λ f. is_before id f.id ≡ true → P f) (λ f. suc id.kind ≤ f.id.kind → P f) (λ f h le. h (rw (lt-ltb id.kind f.id.kind (omega (arith, le))) refl)) features (of_later (λ f. is_before id f.id) features all)

-- the first one behind a place is of a type that was not asked, and of the first such type
module _ (after : Option Rid) (features : List Feature) (f : Feature) (order : IsInOrder features) (at : Some f ≡ next_after after features) where
  first_of_all : (P : Feature → Type 0) → All P (behind after features) → P f
  first_of_all P all = All-head P f (behind (Some f.id) features) (All-same P (f ∷ behind (Some f.id) features) (behind after features) (sym (next_found after features f order at)) all)

  of_first_type : All (λ g. asked_up_to after ≤ g.id.kind → f.id.kind ≤ g.id.kind) features
  of_first_type =
      all_later (λ g. f.id.kind ≤ g.id.kind) after features (All-same (λ (g : Feature). f.id.kind ≤ g.id.kind) (behind after features) (f ∷ behind (Some f.id) features) (next_found after features f order at)
      (All-cons (λ (g : Feature). f.id.kind ≤ g.id.kind) f (behind (Some f.id) features) (omega arith)
      (All-weaker (λ (g : Feature). is_before f.id g.id ≡ true) (λ g. f.id.kind ≤ g.id.kind) (λ g h. before_kind f.id g.id h) (behind (Some f.id) features) (filter_passes (λ (g : Feature). is_before f.id g.id) features))))

kind_at : (id : Rid) (f : Feature) → is_before id f.id ≡ true → id.number ≡ 18446744073709551615 → f.id.number ≤ 18446744073709551615 → suc id.kind ≤ f.id.kind
kind_at id f h last small = grind (arith, nat_tests, h, last, small)

kind_behind : (after : Option Rid) (features : List Feature) (f : Feature) → IsInOrder features → Some f ≡ next_after after features → f.id.number ≤ 18446744073709551615 → IfSome after (λ id. id.number ≡ 18446744073709551615) → asked_up_to after ≤ f.id.kind
kind_behind None features f order at small last = omega arith
kind_behind (Some id) features f order at small last =
    kind_at id f (first_of_all (Some id) features f order at (λ g. is_before id g.id ≡ true) (filter_passes (λ (g : Feature). is_before id g.id) features)) last small

all_behind : (P : Feature → Type 0) (after : Option Rid) (features : List Feature) → All P features → All P (behind after features)
all_behind P None features all = all
all_behind P (Some id) features all = All-filter (λ (g : Feature). is_before id g.id) P features all

-- ---- the loop

by_less : {P : Type 0} (m n : ℕ) (b : Bool) → nat_lt m n ≡ b → (m < n → P) → (n ≤ m → P) → P
by_less m n true is less more = less (ltb-true m n is)
by_less m n false is less more = more (ltb-false m n is)

-- what is known once a view was asked up to a place
pub record Asked (most : ℕ → ℕ) (schema : Schema) (area : Bounds) (features : List Feature) (ids : List Rid) (after : Option Rid) : Type 0 where
  pub whole : All (λ f. f.id.kind < asked_up_to after → has_near area f ≡ true → is_among ids f.id ≡ true) features
  pub few : length ids ≤ sum_below most (asked_up_to after)
  pub within : asked_up_to after ≤ length schema.types
  pub last : IfSome after (λ id. id.number ≡ 18446744073709551615)

module _ (most : ℕ → ℕ) (schema : Schema) (area : Bounds) (features : List Feature) where
  pub asked_none : Asked most schema area features [] None
  asked_none = record {
    whole = λ k d lt. λ less near. absurd (omega (arith, less));
    few = omega arith;
    within = omega arith;
    last = tt;
  }

  module _ (view : IsView schema features) (ids : List Rid) (after : Option Rid) (asked : Asked most schema area features ids after) where
    found_within : (f : Feature) → Some f ≡ next_after after features → f.id.kind < length schema.types
    found_within f at = kind_within schema f (first_of_all after features f view.order at (λ g. feature_fits schema g ≡ Ok tt) (all_behind (λ g. feature_fits schema g ≡ Ok tt) after features view.fitting))

    among_more : (f g : Feature) (more : List Rid) (b : Bool) → (g.id.kind == f.id.kind) ≡ b → has_near area g ≡ true → g.id.kind < suc f.id.kind → (IsTrue (is_near f.id.kind area g) → Contains more g.id) → (asked_up_to after ≤ g.id.kind → f.id.kind ≤ g.id.kind) → (g.id.kind < asked_up_to after → has_near area g ≡ true → is_among ids g.id ≡ true) → is_among (ids ++ more) g.id ≡ true
    among_more f g more true is near less now first before =
        list_any-append (is_same g.id) ids more ∙ or_right (is_among ids g.id) (is_among more g.id) (contained_among more g.id (now (rw is near)))
    among_more f g more false is near less now first before =
        list_any-append (is_same g.id) ids more
        ∙ or_left (is_among ids g.id) (is_among more g.id) (by_less g.id.kind (asked_up_to after) (nat_lt g.id.kind (asked_up_to after)) refl (λ lt. before lt near) (λ le. absurd (omega (arith, eqb-false g.id.kind f.id.kind is, first le, less))))

    pub asked_more : (f : Feature) (more : List Rid) → Some f ≡ next_after after features → f.id.number ≤ 18446744073709551615 → HasAllNear f.id.kind area features more → length more ≤ most f.id.kind → Asked most schema area features (ids ++ more) (end_of f.id.kind)
    asked_more f more at small now fewer =
        let behind = kind_behind after features f view.order at small asked.last in
        record {
          whole = λ k d lt. λ less near. let g = get_or features k d in among_more f g more (g.id.kind == f.id.kind) refl near less (now k d lt) (of_first_type after features f view.order at k d lt) (asked.whole k d lt);
          few = rw (length-append ids more) (omega (arith, asked.few, fewer, sum_rises most (asked_up_to after) f.id.kind behind));
          within = found_within f at;
          last = refl;
        }

    pub asked_falls : (f : Feature) → Some f ≡ next_after after features → f.id.number ≤ 18446744073709551615 → length schema.types - suc f.id.kind < length schema.types - asked_up_to after
    asked_falls f at small = omega (arith, found_within f at, kind_behind after features f view.order at small asked.last)

    pub asked_whole : None ≡ next_after after features → HasNear None area features ids
    asked_whole at = λ k d lt. λ near. let g = get_or features k d in
        by_less g.id.kind (asked_up_to after) (nat_lt g.id.kind (asked_up_to after)) refl (λ less. asked.whole k d lt less near) (λ le. absurd (all_later (λ f. ⊥) after features (All-same (λ f. ⊥) (behind after features) [] (next_none after features at) (All-nil (λ f. ⊥))) k d lt le))

    pub asked_few : length ids ≤ sum_below most (length schema.types)
    asked_few = omega (arith, asked.few, sum_rises most (asked_up_to after) (length schema.types) asked.within)

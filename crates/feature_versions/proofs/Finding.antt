-- What a grid that holds the boxes of features finds of them.
use Rattle.std.proofs.Common.{◌≡◌, ℕ, zero, suc, ◌+◌, ◌<◌, ◌≤◌, Bool, true, false, cond, ◌&&◌, ◌||◌, List, [], ◌∷◌, length, get_or, filter, All, refl, sym, ap, ◌∙◌, arith}
use Rattle.std.specs.Prelude.{flat_map, not, ◌==◌, Contains, IsTrue}
use Rattle.std.specs.List.{list_any, IsDistinct}
use Rattle.std.proofs.lemmas.Bool.{and_parts}
use Rattle.std.proofs.lemmas.List.Elements.{All-head, All-tail, All-weaker, All-filter, All-from_recursion}
use Rattle.std.proofs.lemmas.List.Folds.{list_any-append}
use Rattle.std.proofs.lemmas.Bool.Decides.{nat_tests}
use Rattle.geom_core.specs.declared.geometry.Geometry.{Geometry}
use Rattle.geom_core.specs.Plane.{Bounds, IsUpright, are_apart}
use Rattle.geom_core.specs.Extents.{bounds_of}
use Rattle.spatial_tests.specs.Sharing.{do_meet_box}
use Rattle.spatial_tests.proofs.Apart.{apart-no_meet_box}
use Rattle.feature_values.specs.declared.value.Value.{Value}
use Rattle.feature_values.specs.declared.value.Value.TheVariants.{Null, Words, Whole, Truth, Shape}
use Rattle.feature_values.specs.declared.feature.Feature.{Feature}
use Rattle.feature_values.specs.declared.feature.Rid.{Rid}
use Rattle.fes_filter.specs.View.{is_same, is_value_near, has_near, HasAllNear, IsOnce}
use Rattle.grid_index.specs.Cells.{is_near as is_cell_near}
use Rattle.grid_index.specs.Counts.{times}
use Rattle.grid_index.specs.Near.{Placed, is_among, puts_near, AreNear, IsMet}
use Rattle.feature_versions.specs.Near.{boxes_in, boxes_of, is_found, most_near}
use Rattle.feature_versions.specs.Placed.{placed, placed_in, IsBoxedIn, AreBoxed, IsBoxed}
use Rattle.grid_index.proofs.Counts.{same_is, times-cons, one_of, pair_self}
use Rattle.feature_versions.proofs.Counts.{times-append, of_times}

-- ---- identifiers

rid_self : (a : Rid) → is_same a a ≡ true
rid_self a = grind (arith, nat_tests)

both : (a b : Bool) → a ≡ true → b ≡ true → (a && b) ≡ true
both a b g h = rw (g, h) refl

-- ---- a feature by its pairs

-- some pair of a feature puts its identifier near a box
pairs_of_boxes : (asked : Bounds) (id other : Rid) (bs : List Bounds) → list_any (puts_near asked id) (placed other bs) ≡ (is_same other id && list_any (is_cell_near asked) bs)
pairs_of_boxes asked id other [] = at (is_same other id)
  where
    at : (b : Bool) → false ≡ (b && false)
    at true = refl
    at false = refl
pairs_of_boxes asked id other (b ∷ bs) = ap (λ t. (is_cell_near asked b && is_same other id) || t) (pairs_of_boxes asked id other bs) ∙ at (is_cell_near asked b) (is_same other id) (list_any (is_cell_near asked) bs)
  where
    at : (x y z : Bool) → ((x && y) || (y && z)) ≡ (y && (x || z))
    at true true z = refl
    at true false z = refl
    at false true z = refl
    at false false z = refl

abbrev finds : Bounds → Rid → Feature → Bool
finds asked id f = is_same f.id id && list_any (is_cell_near asked) (boxes_of f)

pairs_of_all : (asked : Bounds) (id : Rid) (fs : List Feature) → list_any (puts_near asked id) (flat_map placed_in fs) ≡ list_any (finds asked id) fs
pairs_of_all asked id [] = refl
pairs_of_all asked id (f ∷ fs) =
    list_any-append (puts_near asked id) (placed_in f) (flat_map placed_in fs)
    ∙ ap (λ t. t || list_any (puts_near asked id) (flat_map placed_in fs)) (pairs_of_boxes asked id f.id (boxes_of f))
    ∙ ap (λ t. finds asked id f || t) (pairs_of_all asked id fs)

-- what is near by the grid is what the features tell
among_finds : (asked : Bounds) (fs : List Feature) (ids : List Rid) → AreNear asked (flat_map placed_in fs) ids → (id : Rid) → is_among id ids ≡ list_any (finds asked id) fs
among_finds asked fs ids near id = near.just id ∙ pairs_of_all asked id fs

-- ---- each identifier once

once : (ids : List Rid) → IsDistinct is_same ids → IsOnce ids
unfolding IsDistinct
once [] distinct = tt
once (id ∷ ids) distinct = (
  All-weaker (λ (other : Rid). is_same id other ≡ false) (λ (other : Rid). IsTrue (not (is_same id other))) (λ other h. rw h refl) ids (All-from_recursion (λ (other : Rid). is_same id other ≡ false) ids distinct.0),
  once ids distinct.1,
)

-- ---- no more than there are features

not_true : (b : Bool) → IsTrue (not b) → b ≡ false
not_true true h = absurd (let bad = h in cc)
not_true false h = refl

abbrev others : Rid → List Rid → List Rid
others id ids = filter (λ i. not (is_same i id)) ids

keeps_at : (b : Bool) (i : Rid) (ids : List Rid) → b ≡ true → cond b (i ∷ ids) ids ≡ i ∷ ids
keeps_at true i ids is = refl
keeps_at false i ids is = absurd (let bad = is in cc)

keeps_others : (id : Rid) (ids : List Rid) → All (λ i. is_same i id ≡ false) ids → others id ids ≡ ids
keeps_others id [] all = refl
keeps_others id (i ∷ ids) all =
    keeps_at (not (is_same i id)) i (others id ids) (ap not (All-head (λ (j : Rid). is_same j id ≡ false) i ids all))
    ∙ ap (λ l. i ∷ l) (keeps_others id ids (All-tail (λ (j : Rid). is_same j id ≡ false) i ids all))

no_other : (id i j : Rid) → is_same i id ≡ true → IsTrue (not (is_same i j)) → is_same j id ≡ false
no_other id i j h k = grind (arith, nat_tests, h, not_true (is_same i j) k)

one_less : (id : Rid) (ids : List Rid) → IsOnce ids → length ids ≤ length (others id ids) + 1
one_less id [] is = omega arith
one_less id (i ∷ ids) is = at (is_same i id) refl (one_less id ids is.1)
  where
    at : (b : Bool) → is_same i id ≡ b → length ids ≤ length (others id ids) + 1 → length (i ∷ ids) ≤ length (others id (i ∷ ids)) + 1
    at true same less = let kept : others id ids ≡ ids = keeps_others id ids (All-weaker (λ (j : Rid). IsTrue (not (is_same i j))) (λ (j : Rid). is_same j id ≡ false) (λ j h. no_other id i j same h) ids is.0) in rw (same, kept) (omega arith)
    at false other less = rw other (omega (arith, less))

once_others : (id : Rid) (ids : List Rid) → IsOnce ids → IsOnce (others id ids)
once_others id [] is = tt
once_others id (i ∷ ids) is = at (is_same i id) (once_others id ids is.1)
  where
    at : (b : Bool) → IsOnce (others id ids) → IsOnce (cond (not b) (i ∷ others id ids) (others id ids))
    at true more = more
    at false more = (All-filter (λ (j : Rid). not (is_same j id)) (λ (j : Rid). IsTrue (not (is_same i j))) ids is.0, more)

among_head : (id : Rid) (ids : List Rid) → is_among id (id ∷ ids) ≡ true
among_head id ids = rw (rid_self id) refl

among_others : (f id : Rid) (ids : List Rid) → is_among f (others id ids) ≡ true → (is_among f ids ≡ true) × (is_same id f ≡ false)
among_others f id [] h = absurd (let bad = h in cc)
among_others f id (i ∷ ids) h = at (is_same i id) (is_same i f) refl refl h (λ k. among_others f id ids k)
  where
    at : (b c : Bool) → is_same i id ≡ b → is_same i f ≡ c → is_among f (cond (not b) (i ∷ others id ids) (others id ids)) ≡ true → (is_among f (others id ids) ≡ true → (is_among f ids ≡ true) × (is_same id f ≡ false)) → ((c || is_among f ids) ≡ true) × (is_same id f ≡ false)
    at true true same is h later = let more = later h in (refl, more.1)
    at true false same is h later = later h
    at false true other is h later = (refl, grind (arith, nat_tests, other, is))
    at false false other is h later = later (rw is at h)

any_tail : (b c : Bool) → b ≡ false → (b || c) ≡ true → c ≡ true
any_tail true c is h = absurd (let bad = is in cc)
any_tail false c is h = h

pub few : (ids : List Rid) (fs : List Feature) → IsOnce ids → ((id : Rid) → is_among id ids ≡ true → list_any (λ f. is_same f.id id) fs ≡ true) → length ids ≤ length fs
few [] [] is h = omega arith
few (i ∷ ids) [] is h = absurd (let bad = h i (among_head i ids) in cc)
few ids (f ∷ fs) is h =
    let less = one_less f.id ids is in
    let more = few (others f.id ids) fs (once_others f.id ids is) (λ id k. let both = among_others id f.id ids k in any_tail (is_same f.id id) (list_any (λ g. is_same g.id id) fs) both.1 (h id both.0)) in
    omega (arith, less, more)

-- ---- what is found

-- a feature of the type that is found stands among those that are counted
counted_at : (kind : ℕ) (asked : Bounds) (id : Rid) (fs : List Feature) → All (λ f. f.id.kind ≡ kind) fs → list_any (finds asked id) fs ≡ true → list_any (λ f. is_same f.id id) (filter (is_found kind asked) fs) ≡ true
counted_at kind asked id [] all h = absurd (let bad = h in cc)
counted_at kind asked id (f ∷ fs) all h =
    at (f.id.kind == kind) (is_same f.id id) (list_any (is_cell_near asked) (boxes_of f)) refl (same_kind (All-head (λ (g : Feature). g.id.kind ≡ kind) f fs all)) h (λ k. counted_at kind asked id fs (All-tail (λ (g : Feature). g.id.kind ≡ kind) f fs all) k)
  where
    same_kind : f.id.kind ≡ kind → (f.id.kind == kind) ≡ true
    same_kind is = grind (arith, nat_tests, is)

    at : (a b c : Bool) → is_same f.id id ≡ b → a ≡ true → ((b && c) || list_any (finds asked id) fs) ≡ true → (list_any (finds asked id) fs ≡ true → list_any (λ g. is_same g.id id) (filter (is_found kind asked) fs) ≡ true) → list_any (λ g. is_same g.id id) (cond (a && c) (f ∷ filter (is_found kind asked) fs) (filter (is_found kind asked) fs)) ≡ true
    at true true true same is h later = rw same refl
    at true true false same is h later = later h
    at true false true same is h later = rw same (later h)
    at true false false same is h later = later h
    at false b c same is h later = absurd (let bad = is in cc)

pub found_few : (kind : ℕ) (asked : Bounds) (fs : List Feature) (ids : List Rid) → All (λ f. f.id.kind ≡ kind) fs → AreNear asked (flat_map placed_in fs) ids → length ids ≤ most_near fs kind asked
found_few kind asked fs ids all near =
    few ids (filter (is_found kind asked) fs) (once ids near.once) (λ id h. counted_at kind asked id fs all (sym (among_finds asked fs ids near id) ∙ h))

pub found_once : (asked : Bounds) (pairs : List Placed) (ids : List Rid) → AreNear asked pairs ids → IsOnce ids
found_once asked pairs ids near = once ids near.once

-- ---- all that are near are found

contains_among : (id : Rid) (ids : List Rid) → is_among id ids ≡ true → Contains ids id
contains_among id [] h = absurd (let bad = h in cc)
contains_among id (i ∷ ids) h = at (is_same i id) refl h (λ k. contains_among id ids k)
  where
    at : (b : Bool) → is_same i id ≡ b → (b || is_among id ids) ≡ true → (is_among id ids ≡ true → Contains ids id) → Contains (i ∷ ids) id
    at true same h later = (0, omega arith, same_is i id same)
    at false same h later = let more = later h in (suc more.0, omega (arith, more.1), more.2)

-- a geometry near a box has a box that is not apart from it
not_apart : (shape : Geometry) (area : Bounds) → IsBoxed shape → IsUpright area → (do_meet_box shape area || not (are_apart (bounds_of shape) area)) ≡ true → are_apart (bounds_of shape) area ≡ false
not_apart shape area boxed up h = at (do_meet_box shape area) (are_apart (bounds_of shape) area) refl refl h
  where
    at : (b c : Bool) → do_meet_box shape area ≡ b → are_apart (bounds_of shape) area ≡ c → (b || not c) ≡ true → c ≡ false
    at b false met apart h = refl
    at true true met apart h = absurd (let no = apart-no_meet_box shape (bounds_of shape) area boxed.least boxed.area up apart in cc)
    at false true met apart h = absurd (let bad = h in cc)

first_times : (id : Rid) (b : Bounds) (bs : List Bounds) → 0 < times (id, b) (placed id (b ∷ bs))
first_times id b bs = omega (arith, times-cons (id, b) (id, b) (placed id bs), one_of _ (pair_self (id, b)))

later_times : (p : Placed) (id : Rid) (b : Bounds) (bs : List Bounds) → 0 < times p (placed id bs) → 0 < times p (placed id (b ∷ bs))
later_times p id b bs some = omega (arith, times-cons p (id, b) (placed id bs), some)

pub record MetIn (area : Bounds) (id : Rid) (values : List Value) : Type 0 where
  pub at : Bounds
  pub stands : 0 < times (id, at) (placed id (flat_map boxes_in values))
  pub meets : are_apart at area ≡ false

met_in : (area : Bounds) (id : Rid) (values : List Value) → IsUpright area → All IsBoxedIn values → list_any (is_value_near area) values ≡ true → MetIn area id values
met_in area id [] up all h = absurd (let bad = h in cc)
met_in area id (Null ∷ values) up all h = let more = met_in area id values up (All-tail IsBoxedIn Null values all) h in record { at = more.at; stands = more.stands; meets = more.meets }
met_in area id (Words text ∷ values) up all h = let more = met_in area id values up (All-tail IsBoxedIn (Words text) values all) h in record { at = more.at; stands = more.stands; meets = more.meets }
met_in area id (Whole number ∷ values) up all h = let more = met_in area id values up (All-tail IsBoxedIn (Whole number) values all) h in record { at = more.at; stands = more.stands; meets = more.meets }
met_in area id (Truth truth ∷ values) up all h = let more = met_in area id values up (All-tail IsBoxedIn (Truth truth) values all) h in record { at = more.at; stands = more.stands; meets = more.meets }
met_in area id (Shape shape ∷ values) up all h =
    at (is_value_near area (Shape shape)) refl h (λ k. met_in area id values up (All-tail IsBoxedIn (Shape shape) values all) k)
  where
    at : (b : Bool) → is_value_near area (Shape shape) ≡ b → (b || list_any (is_value_near area) values) ≡ true → (list_any (is_value_near area) values ≡ true → MetIn area id values) → MetIn area id (Shape shape ∷ values)
    at true here h later = record { at = bounds_of shape; stands = first_times id (bounds_of shape) (flat_map boxes_in values); meets = not_apart shape area (All-head IsBoxedIn (Shape shape) values all) up here }
    at false here h later = let more = later h in record { at = more.at; stands = later_times (id, more.at) id (bounds_of shape) (flat_map boxes_in values) more.stands; meets = more.meets }

-- how often a pair of a feature stands among those of all
among_all : (p : Placed) (fs : List Feature) (k : ℕ) (d : Feature) → k < length fs → 0 < times p (placed_in (get_or fs k d)) → 0 < times p (flat_map placed_in fs)
among_all p [] k d lt some = absurd (omega (arith, lt))
among_all p (f ∷ fs) zero d lt some = omega (arith, times-append p (placed_in f) (flat_map placed_in fs), some)
among_all p (f ∷ fs) (suc k) d lt some = let more = among_all p fs k d (omega (arith, lt)) some in omega (arith, times-append p (placed_in f) (flat_map placed_in fs), more)

pub found_all : (kind : ℕ) (asked : Bounds) (fs : List Feature) (ids : List Rid) → All AreBoxed fs → IsUpright asked → All (IsMet asked ids) (flat_map placed_in fs) → HasAllNear kind asked fs ids
found_all kind asked fs ids boxed up met k d lt near =
    let f : Feature = get_or fs k d in
    let has : has_near asked f ≡ true = (and_parts (f.id.kind == kind) (has_near asked f) near).1 in
    let at : MetIn asked f.id f.values = met_in asked f.id f.values up (boxed k d lt) has in
    contains_among f.id ids (of_times (IsMet asked ids) (f.id, at.at) (flat_map placed_in fs) met (among_all (f.id, at.at) fs k d lt at.stands) at.meets)

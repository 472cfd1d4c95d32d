-- What holds of the features of a type after one is laid among them.
use Rattle.std.proofs.Common.{◌≡◌, ℕ, suc, ◌+◌, ◌≤◌, List, [], ◌∷◌, ◌++◌, Bool, true, false, cond, length, filter, All, Option, Some, None, refl, sym, ap, ◌∙◌, subst, arith}
use Rattle.std.specs.Prelude.{flat_map}
use Rattle.std.specs.List.{sum_by}
use Rattle.std.specs.Option.{option_to_list}
use Rattle.std.proofs.lemmas.List.Sums.{sum_by-cons}
use Rattle.std.proofs.lemmas.List.Elements.{All-append, All-filter, All-nil, All-cons}
use Rattle.std.proofs.lemmas.Option.{same_Some}
use Rattle.feature_values.specs.declared.feature.Feature.{Feature}
use Rattle.feature_values.specs.declared.feature.Rid.{Rid}
use Rattle.fes_filter.specs.View.{is_same, is_before, feature_at}
use Rattle.feature_overlay.specs.Laid.{laid}
use Rattle.grid_index.specs.Counts.{times}
use Rattle.grid_index.specs.Gridded.{Gridded, pairs_at, IsGridOf}
use Rattle.grid_index.specs.Near.{Placed}
use Rattle.grid_index.proofs.Counts.{same_is}
use Rattle.feature_versions.specs.declared.rows.Row.{Row}
use Rattle.feature_versions.specs.Rows.{live, AreRows}
use Rattle.feature_versions.specs.Near.{boxes_of}
use Rattle.feature_versions.specs.Placed.{placed, placed_in, HoldsBoxes, HasSameBoxes, AreBoxed}
use Rattle.feature_versions.specs.Layer.{IsLayer}
use Rattle.feature_versions.proofs.Placing.{live_in_order}
use Rattle.feature_versions.proofs.Totals.{of_one, laid_sum, laid_length}
use Rattle.feature_versions.proofs.Counts.{times-append, same_pairs, placed_times}

-- how often a pair stands among those of a feature
abbrev pub weight : Placed → Feature → ℕ
weight p f = times p (placed_in f)

pub one_sum : (m : Feature → ℕ) (f : Feature) → of_one m (Some f) ≡ m f
one_sum m f = omega (arith, sum_by-cons m f [])

pub all_laid : (P : Feature → Type 0) (fs : List Feature) (id : Rid) (now : Option Feature) → All P fs → All P (option_to_list now) → All P (laid fs id now)
unfolding laid
all_laid P fs id now all one =
    All-append P (filter (λ f. is_before f.id id) fs) (option_to_list now ++ filter (λ f. is_before id f.id) fs) (All-filter (λ f. is_before f.id id) P fs all)
    (All-append P (option_to_list now) (filter (λ f. is_before id f.id) fs) one (All-filter (λ f. is_before id f.id) P fs all))

-- how often a pair stands among those of features of which one was laid
laid_times : (p : Placed) (kind : ℕ) (rows new : List Row) (id : Rid) (now : Option Feature) → AreRows kind rows → live new ≡ laid (live rows) id now
    → times p (flat_map placed_in (live new)) + of_one (weight p) (feature_at id (live rows)) ≡ times p (flat_map placed_in (live rows)) + of_one (weight p) now
laid_times p kind rows new id now are is = omega (arith, laid_sum (weight p) id (live rows) now (live_in_order kind rows are), placed_times p (live rows), placed_times p (live new), ap (sum_by (weight p)) is)

-- a feature is laid where none was: its boxes come
pub grid_added : (kind : ℕ) (rows new : List Row) (old mid : Gridded) (f : Feature) → AreRows kind rows → live new ≡ laid (live rows) f.id (Some f) → feature_at f.id (live rows) ≡ None → HoldsBoxes old (live rows)
    → ((pairs : List Placed) → IsGridOf (pairs_at old) pairs → IsGridOf (pairs_at mid) (pairs ++ placed_in f)) → HoldsBoxes mid (live new)
grid_added kind rows new old mid f are is none holds put =
    same_pairs mid (flat_map placed_in (live rows) ++ placed_in f) (flat_map placed_in (live new))
    (λ p. omega (arith, laid_times p kind rows new f.id (Some f) are is, ap (of_one (weight p)) none, one_sum (weight p) f, times-append p (flat_map placed_in (live rows)) (placed_in f)))
    (put (flat_map placed_in (live rows)) holds)

-- one is laid in the place of another: the boxes of that one go then
pub grid_turned : (kind : ℕ) (rows new : List Row) (old mid after : Gridded) (f was : Feature) → AreRows kind rows → live new ≡ laid (live rows) f.id (Some f) → feature_at f.id (live rows) ≡ Some was → HoldsBoxes old (live rows)
    → ((pairs : List Placed) → IsGridOf (pairs_at old) pairs → IsGridOf (pairs_at mid) (pairs ++ placed_in f)) → ((pairs : List Placed) → IsGridOf (pairs_at mid) (placed_in was ++ pairs) → IsGridOf (pairs_at after) pairs) → HoldsBoxes after (live new)
grid_turned kind rows new old mid after f was are is found holds put out =
    out (flat_map placed_in (live new))
    (same_pairs mid (flat_map placed_in (live rows) ++ placed_in f) (placed_in was ++ flat_map placed_in (live new))
    (λ p. omega (
      arith,
      laid_times p kind rows new f.id (Some f) are is,
      ap (of_one (weight p)) found,
      one_sum (weight p) f,
      one_sum (weight p) was,
      times-append p (flat_map placed_in (live rows)) (placed_in f),
      times-append p (placed_in was) (flat_map placed_in (live new)),
    ))
    (put (flat_map placed_in (live rows)) holds))

-- one is taken out with its boxes
pub grid_left : (kind : ℕ) (rows new : List Row) (old after : Gridded) (id : Rid) (was : Feature) → AreRows kind rows → live new ≡ laid (live rows) id None → feature_at id (live rows) ≡ Some was → HoldsBoxes old (live rows)
    → ((pairs : List Placed) → IsGridOf (pairs_at old) (placed_in was ++ pairs) → IsGridOf (pairs_at after) pairs) → HoldsBoxes after (live new)
grid_left kind rows new old after id was are is found holds out =
    out (flat_map placed_in (live new))
    (same_pairs old (flat_map placed_in (live rows)) (placed_in was ++ flat_map placed_in (live new))
    (λ p. omega (arith, laid_times p kind rows new id None are is, ap (of_one (weight p)) found, one_sum (weight p) was, times-append p (placed_in was) (flat_map placed_in (live new))))
    holds)

-- the boxes stay the same
pub grid_same : (kind : ℕ) (rows new : List Row) (grid : Gridded) (id : Rid) (now : Option Feature) → AreRows kind rows → live new ≡ laid (live rows) id now → ((p : Placed) → of_one (weight p) (feature_at id (live rows)) ≡ of_one (weight p) now) → HoldsBoxes grid (live rows) → HoldsBoxes grid (live new)
grid_same kind rows new grid id now are is same holds =
    same_pairs grid (flat_map placed_in (live rows)) (flat_map placed_in (live new)) (λ p. omega (arith, laid_times p kind rows new id now are is, same p)) holds

pub layer_laid : (kind : ℕ) (rows new : List Row) (count counted : ℕ) (grid after : Gridded) (id : Rid) (now : Option Feature)
    → IsLayer kind rows count grid → live new ≡ laid (live rows) id now → AreRows kind new → All AreBoxed (option_to_list now) → HoldsBoxes after (live new)
    → counted + length (option_to_list (feature_at id (live rows))) ≡ count + length (option_to_list now) → IsLayer kind new counted after
layer_laid kind rows new count counted grid after id now layer is are boxed holds more =
    let order = live_in_order kind rows layer.are in
    record {
      are = are;
      counted = omega (arith, laid_length id (live rows) now order, ap length is, layer.counted, more);
      boxes = holds;
      boxed = subst (All AreBoxed) (sym is) (all_laid AreBoxed (live rows) id now layer.boxed boxed);
    }

-- where a feature is found, there is one
pub some_left : (kind : ℕ) (rows : List Row) (count : ℕ) (grid : Gridded) (id : Rid) (old : Feature) → IsLayer kind rows count grid → feature_at id (live rows) ≡ Some old → 1 ≤ count
some_left kind rows count grid id old layer found =
    omega (arith, laid_length id (live rows) None (live_in_order kind rows layer.are), ap (λ (o : Option Feature). length (option_to_list o)) found, layer.counted)

-- the same features in other rows
pub layer_swept : (kind : ℕ) (rows new : List Row) (count : ℕ) (grid : Gridded) → IsLayer kind rows count grid → live new ≡ live rows → AreRows kind new → IsLayer kind new count grid
layer_swept kind rows new count grid layer is are = record {
  are = are;
  counted = layer.counted ∙ ap length (sym is);
  boxes = subst (HoldsBoxes grid) (sym is) layer.boxes;
  boxed = subst (All AreBoxed) (sym is) layer.boxed;
}

-- no more rows have a feature than there are
pub live_short : (rows : List Row) → length (live rows) ≤ length rows
live_short [] = omega arith
live_short (row ∷ rows) = at row.feature (live_short rows)
  where
    at : (feature : Option Feature) → length (live rows) ≤ length rows → length (option_to_list feature ++ live rows) ≤ suc (length rows)
    at None short = omega (arith, short)
    at (Some f) short = omega (arith, short)

-- ---- a feature in the place of one with the same boxes

-- the feature that is found has the identifier
found_id : (id : Rid) (fs : List Feature) (old : Feature) → feature_at id fs ≡ Some old → old.id ≡ id
found_id id [] old is = absurd (let bad = is in cc)
found_id id (f ∷ fs) old is = by_test (is_same f.id id) refl is (λ h. found_id id fs old h)
  where
    by_test : (b : Bool) → is_same f.id id ≡ b → cond b (Some f) (feature_at id fs) ≡ Some old → (feature_at id fs ≡ Some old → old.id ≡ id) → old.id ≡ id
    by_test true same e later = sym (ap (λ (g : Feature). g.id) (same_Some f old e)) ∙ same_is f.id id same
    by_test false other e later = later e

pub record SamePlaces (found : Option Feature) (f : Feature) : Type 0 where
  pub one : length (option_to_list found) ≡ 1
  pub weights : (p : Placed) → of_one (weight p) found ≡ of_one (weight p) (Some f)

pub same_places : (f : Feature) (fs : List Feature) → HasSameBoxes (feature_at f.id fs) f → SamePlaces (feature_at f.id fs) f
same_places f fs same = by_found (feature_at f.id fs) refl same
  where
    by_found : (o : Option Feature) → feature_at f.id fs ≡ o → HasSameBoxes o f → SamePlaces o f
    by_found None is has = absurd has
    by_found (Some old) is has = record {
      one = refl;
      weights = λ p. (
          let placed_same : placed_in old ≡ placed_in f = ap (λ (id : Rid). placed id (boxes_of old)) (found_id f.id fs old is) ∙ ap (placed f.id) has in
          one_sum (weight p) old ∙ ap (times p) placed_same ∙ sym (one_sum (weight p) f)
          );
    }

pub one_boxed : (f : Feature) → AreBoxed f → All AreBoxed (option_to_list (Some f))
one_boxed f boxed = All-cons AreBoxed f [] boxed (All-nil AreBoxed)

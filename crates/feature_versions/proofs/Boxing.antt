-- The boxes of a feature, value by value.
use Rattle.std.proofs.Common.{◌≡◌, ℕ, ◌+◌, ◌<◌, ◌≤◌, true, List, [], ◌∷◌, ◌++◌, length, get_or, take, drop, refl, sym, ap, ◌∙◌, subst, append_assoc, arith}
use Rattle.std.specs.Prelude.{flat_map, ◌&&◌}
use Rattle.std.specs.Ordering.{int_eq}
use Rattle.std.specs.List.{sum_by}
use Rattle.std.proofs.lemmas.List.{take-append-drop, append-nil, map-append, take_more, take_all, at_drop_more, at_drop_all}
use Rattle.std.proofs.lemmas.List.Concat.{flat_map-append}
use Rattle.std.proofs.lemmas.List.Sums.{sum_by-append}
use Rattle.geom_core.specs.declared.geometry.Geometry.{Geometry}
use Rattle.geom_core.specs.Extents.{bounds_of}
use Rattle.geom_core.specs.Plane.{Bounds}
use Rattle.feature_values.specs.declared.value.Value.{Value}
use Rattle.feature_values.specs.declared.value.Value.TheVariants.{Shape}
use Rattle.feature_values.specs.declared.feature.Rid.{Rid}
use Rattle.grid_index.specs.Gridded.{Gridded, pairs_at, IsGridOf}
use Rattle.grid_index.specs.Near.{Placed}
use Rattle.grid_index.specs.Places.{Place, taking}
use Rattle.grid_index.proofs.Counts.{told_pair}
use Rattle.feature_versions.specs.Near.{boxes_in}
use Rattle.feature_versions.specs.Placed.{placed}

abbrev pub flat : List Value → List Bounds
flat values = flat_map boxes_in values

flat_split : (vs : List Value) (n : ℕ) → flat vs ≡ flat (take n vs) ++ flat (drop n vs)
flat_split vs n = ap flat (sym (take-append-drop n vs)) ∙ flat_map-append boxes_in (take n vs) (drop n vs)

module _ (vs : List Value) (i : ℕ) (v : Value) (lt : i < length vs) (is : v ≡ get_or vs i v) where
  flat_step : flat (take (i + 1) vs) ≡ flat (take i vs) ++ boxes_in v
  flat_step =
      ap flat (take_more vs i v lt ∙ ap (λ (w : Value). take i vs ++ w ∷ []) (sym is)) ∙ flat_map-append boxes_in (take i vs) (v ∷ []) ∙ ap (λ (bs : List Bounds). flat (take i vs) ++ bs) (append-nil (boxes_in v))

  flat_rest : flat (drop i vs) ≡ boxes_in v ++ flat (drop (i + 1) vs)
  flat_rest = ap flat (at_drop_more (λ (l : List Value). l) vs i v lt) ∙ ap (λ (w : Value). boxes_in w ++ flat (drop (i + 1) vs)) (sym is)

  pub sum_step : (place : Place) → sum_by (taking place) (flat (take (i + 1) vs)) ≡ sum_by (taking place) (flat (take i vs)) + sum_by (taking place) (boxes_in v)
  sum_step place = ap (sum_by (taking place)) flat_step ∙ sum_by-append (taking place) (flat (take i vs)) (boxes_in v)

  placed_step : (id : Rid) → placed id (flat (take (i + 1) vs)) ≡ placed id (flat (take i vs)) ++ placed id (boxes_in v)
  placed_step id = ap (placed id) flat_step ∙ map-append (λ (b : Bounds). (let p : Placed = (id, b) in p)) (flat (take i vs)) (boxes_in v)

  placed_rest : (id : Rid) → placed id (flat (drop i vs)) ≡ placed id (boxes_in v) ++ placed id (flat (drop (i + 1) vs))
  placed_rest id = ap (placed id) flat_rest ∙ map-append (λ (b : Bounds). (let p : Placed = (id, b) in p)) (boxes_in v) (flat (drop (i + 1) vs))

  -- room for the boxes of all values is room for those of the next one
  pub room_step : (values : List Value) (place : Place) (start room : ℕ) → vs ≡ values → sum_by (taking place) (flat values) ≤ start → start ≤ room + sum_by (taking place) (flat (take i vs)) → sum_by (taking place) (boxes_in v) ≤ room
  room_step values place start room same spare left =
      let all : sum_by (taking place) (flat vs) ≡ sum_by (taking place) (flat (take (i + 1) vs)) + sum_by (taking place) (flat (drop (i + 1) vs)) =
      ap (sum_by (taking place)) (flat_split vs (i + 1)) ∙ sum_by-append (taking place) (flat (take (i + 1) vs)) (flat (drop (i + 1) vs)) in
      let step = sum_step place in
      let whole : sum_by (taking place) (flat vs) ≡ sum_by (taking place) (flat values) = ap (λ (l : List Value). sum_by (taking place) (flat l)) same in
      omega (arith, all, step, whole, spare, left)

  -- the pairs of one more value come
  pub grid_step : (id : Rid) (start now next : Gridded) → ((pairs : List Placed) → IsGridOf (pairs_at start) pairs → IsGridOf (pairs_at now) (pairs ++ placed id (flat (take i vs))))
      → ((pairs : List Placed) → IsGridOf (pairs_at now) pairs → IsGridOf (pairs_at next) (pairs ++ placed id (boxes_in v)))
      → (pairs : List Placed) → IsGridOf (pairs_at start) pairs → IsGridOf (pairs_at next) (pairs ++ placed id (flat (take (i + 1) vs)))
  grid_step id start now next so_far more pairs h =
      subst (IsGridOf (pairs_at next)) (append_assoc pairs (placed id (flat (take i vs))) (placed id (boxes_in v)) ∙ ap (λ (l : List Placed). pairs ++ l) (sym (placed_step id))) (more (pairs ++ placed id (flat (take i vs))) (so_far pairs h))

  -- the pairs of one more value go
  pub left_step : (id : Rid) (values : List Value) (start now next : Gridded) → ((pairs : List Placed) → IsGridOf (pairs_at start) (placed id (flat values) ++ pairs) → IsGridOf (pairs_at now) (placed id (flat (drop i vs)) ++ pairs))
      → ((pairs : List Placed) → IsGridOf (pairs_at now) (placed id (boxes_in v) ++ pairs) → IsGridOf (pairs_at next) pairs)
      → (pairs : List Placed) → IsGridOf (pairs_at start) (placed id (flat values) ++ pairs) → IsGridOf (pairs_at next) (placed id (flat (drop (i + 1) vs)) ++ pairs)
  left_step id values start now next so_far more pairs h =
      more (placed id (flat (drop (i + 1) vs)) ++ pairs)
      (subst (IsGridOf (pairs_at now)) (ap (λ (l : List Placed). l ++ pairs) (placed_rest id) ∙ append_assoc (placed id (boxes_in v)) (placed id (flat (drop (i + 1) vs))) pairs) (so_far pairs h))

-- all values are done
pub all_done : (vs values : List Value) (i : ℕ) → vs ≡ values → length vs ≤ i → take i vs ≡ values
all_done vs values i same le = take_all i vs le ∙ same

none_left : (id : Rid) (vs : List Value) (i : ℕ) → length vs ≤ i → placed id (flat (drop i vs)) ≡ []
none_left id vs i le = at_drop_all (λ (l : List Value). placed id (flat l)) vs i le

pub left_all : (id : Rid) (vs : List Value) (i : ℕ) (now : Gridded) (pairs : List Placed) → length vs ≤ i → IsGridOf (pairs_at now) (placed id (flat (drop i vs)) ++ pairs) → IsGridOf (pairs_at now) pairs
left_all id vs i now pairs le h = subst (λ (l : List Placed). IsGridOf (pairs_at now) (l ++ pairs)) (none_left id vs i le) h

pub grid_all : (id : Rid) (vs values : List Value) (i : ℕ) (now : Gridded) (pairs : List Placed) → vs ≡ values → length vs ≤ i → IsGridOf (pairs_at now) (pairs ++ placed id (flat (take i vs))) → IsGridOf (pairs_at now) (pairs ++ placed id (flat values))
grid_all id vs values i now pairs same le h = subst (λ (l : List Value). IsGridOf (pairs_at now) (pairs ++ placed id (flat l))) (all_done vs values i same le) h

pub room_all : (vs values : List Value) (i : ℕ) (place : Place) (start now : ℕ) → vs ≡ values → length vs ≤ i → start ≤ now + sum_by (taking place) (flat (take i vs)) → start ≤ now + sum_by (taking place) (flat values)
room_all vs values i place start now same le h = let done = ap (λ (l : List Value). sum_by (taking place) (flat l)) (all_done vs values i same le) in omega (arith, done, h)

-- ---- two features with the same boxes

pub same_step : (us vs : List Value) (i : ℕ) (u v : Value) → i < length us → i < length vs → u ≡ get_or us i u → v ≡ get_or vs i v → flat (take i us) ≡ flat (take i vs) → boxes_in u ≡ boxes_in v → flat (take (i + 1) us) ≡ flat (take (i + 1) vs)
same_step us vs i u v lt also is like before here =
    flat_step us i u lt is ∙ ap (λ (bs : List Bounds). bs ++ boxes_in u) before ∙ ap (λ (bs : List Bounds). flat (take i vs) ++ bs) here ∙ sym (flat_step vs i v also like)

pub same_all : (us vs olds news : List Value) (i : ℕ) → us ≡ olds → vs ≡ news → length us ≤ i → length vs ≤ i → flat (take i us) ≡ flat (take i vs) → flat olds ≡ flat news
same_all us vs olds news i was now le less same = ap flat (sym (all_done us olds i was le)) ∙ same ∙ ap flat (all_done vs news i now less)

abbrev no_one : Rid
no_one = record { kind = 0; number = 0 }

pub same_box : (a b : Bounds) → ((int_eq a.low.x b.low.x && int_eq a.low.y b.low.y) && (int_eq a.high.x b.high.x && int_eq a.high.y b.high.y)) ≡ true → a ≡ b
same_box a b e = ap (λ (p : Placed). p.1) (told_pair (no_one, a) no_one b refl e)

-- two geometries with one box
pub same_boxes : (old new : Value) (s t : Geometry) (a b : Bounds) → old ≡ Shape s → new ≡ Shape t → a ≡ bounds_of s → b ≡ bounds_of t → a ≡ b → boxes_in old ≡ boxes_in new
same_boxes old new s t a b is like at also same = ap boxes_in is ∙ ap (λ (c : Bounds). c ∷ []) (sym at ∙ same ∙ also) ∙ sym (ap boxes_in like)

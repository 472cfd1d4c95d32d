-- What the place of a number tells of the features of rows: which is found, which is next, and what is laid there.
use Rattle.std.proofs.Common.{◌≡◌, ℕ, zero, suc, ◌+◌, ◌<◌, Bool, true, false, List, [], ◌∷◌, ◌++◌, length, get_or, take, drop, set, filter, All, Option, Some, None, refl, sym, ap, ◌∙◌, subst, arith}
use Rattle.std.specs.Prelude.{slice_get, is_some, if◌then◌else◌}
use Rattle.std.specs.List.{insert}
use Rattle.std.specs.Option.{option_or, option_to_list, IfSome}
use Rattle.std.proofs.lemmas.List.{take-append-drop, append-nil, take-set, drop-set}
use Rattle.std.proofs.lemmas.List.Concat.{flat_map-append}
use Rattle.std.proofs.lemmas.List.Elements.{All-nil, All-cons, All-head, All-tail, All-weaker, All-append, All-filter}
use Rattle.std.proofs.lemmas.Bool.Decides.{nat_tests}
use Rattle.feature_values.specs.declared.feature.Feature.{Feature}
use Rattle.feature_values.specs.declared.feature.Rid.{Rid}
use Rattle.fes_filter.specs.View.{is_same, is_before, feature_at, next_after}
use Rattle.feature_overlay.specs.Laid.{laid}
use Rattle.feature_versions.specs.declared.rows.Row.{Row}
use Rattle.feature_versions.specs.Rows.{live_in, live, IsRising, IsOwn, AreRows, has_number, feature_of}
use Rattle.feature_versions.proofs.Between.{AllBefore, AllBehind, keeps_none, laid_between, found_between, next_between}
use Rattle.feature_versions.proofs.Placing.{all_left, all_right, rising_left, rising_right, rising_with, low_before, high_behind, Parted, IsFirst, stands, parted_with, parted_without, first_of_stands}

-- ---- features with one identifier

same_self : (id : Rid) → is_same id id ≡ true
same_self id = grind (arith, nat_tests)

not_before_self : (id : Rid) → is_before id id ≡ false
not_before_self id = grind (arith, nat_tests)

laid_same : (fs : List Feature) (id : Rid) (now : Option Feature) → All (λ f. f.id ≡ id) fs → laid fs id now ≡ option_to_list now
unfolding laid
laid_same fs id now all =
    let none : filter (λ (f : Feature). is_before f.id id) fs ≡ [] = keeps_none (λ (f : Feature). is_before f.id id) fs (All-weaker (λ (f : Feature). f.id ≡ id) (λ (f : Feature). is_before f.id id ≡ false) (λ f is. rw is (not_before_self id)) fs all) in
    let no_more : filter (λ (f : Feature). is_before id f.id) fs ≡ [] = keeps_none (λ (f : Feature). is_before id f.id) fs (All-weaker (λ (f : Feature). f.id ≡ id) (λ (f : Feature). is_before id f.id ≡ false) (λ f is. rw is (not_before_self id)) fs all) in
    rw (none, no_more, append-nil (option_to_list now)) refl

-- ---- rows with one number

-- a row under the number of an identifier has its feature, where it has one
same_live : (id : Rid) (rows : List Row) → All (IsOwn id.kind) rows → All (λ r. r.number ≡ id.number) rows → All (λ f. f.id ≡ id) (live rows)
same_live id [] own same = All-nil (λ (f : Feature). f.id ≡ id)
same_live id (row ∷ rows) own same =
    All-append (λ (f : Feature). f.id ≡ id) (live_in row) (live rows)
    (one row.feature row.number (All-head (λ (r : Row). r.number ≡ id.number) row rows same) (All-head (IsOwn id.kind) row rows own))
    (same_live id rows (All-tail (IsOwn id.kind) row rows own) (All-tail (λ (r : Row). r.number ≡ id.number) row rows same))
  where
    one : (feature : Option Feature) (n : ℕ) → n ≡ id.number → IfSome feature (λ f. f.id ≡ record { kind = id.kind; number = n }) → All (λ f. f.id ≡ id) (option_to_list feature)
    one None n is own = All-nil (λ (f : Feature). f.id ≡ id)
    one (Some f) n is own = All-cons (λ (g : Feature). g.id ≡ id) f [] (own ∙ ap (λ (m : ℕ). (let r : Rid = record { kind = id.kind; number = m } in r)) is) (All-nil (λ (g : Feature). g.id ≡ id))

-- ---- the parts of rows by a number

pub record Around (id : Rid) (rows low mid high : List Row) : Type 0 where
  pub whole : live rows ≡ live low ++ (live mid ++ live high)
  pub before : AllBefore id (live low)
  pub same : All (λ f. f.id ≡ id) (live mid)
  pub behind : AllBehind id (live high)

live_whole : (rows low mid high : List Row) → rows ≡ low ++ (mid ++ high) → live rows ≡ live low ++ (live mid ++ live high)
live_whole rows low mid high is = ap live is ∙ flat_map-append live_in low (mid ++ high) ∙ ap (λ l. live low ++ l) (flat_map-append live_in mid high)

around : (id : Rid) (rows low mid high : List Row) → AreRows id.kind rows → Parted id.number rows low mid high → Around id rows low mid high
around id rows low mid high are parted =
    let own : All (IsOwn id.kind) (low ++ (mid ++ high)) = subst (All (IsOwn id.kind)) parted.whole are.own in
    let later : All (IsOwn id.kind) (mid ++ high) = all_right (IsOwn id.kind) low (mid ++ high) own in
    record {
      whole = live_whole rows low mid high parted.whole;
      before = low_before id.kind id.number low (all_left (IsOwn id.kind) low (mid ++ high) own) parted.before;
      same = same_live id mid (all_left (IsOwn id.kind) mid high later) parted.same;
      behind = high_behind id.kind id.number high (all_right (IsOwn id.kind) mid high later) parted.behind;
    }

found_in : (id : Rid) (rows low mid high : List Row) → Around id rows low mid high → feature_at id (live rows) ≡ feature_at id (live mid)
found_in id rows low mid high at = ap (feature_at id) at.whole ∙ found_between (live low) (live mid) (live high) id at.before at.behind

none_next : (fs : List Feature) (id : Rid) → All (λ f. f.id ≡ id) fs → next_after (Some id) fs ≡ None
none_next [] id all = refl
none_next (f ∷ fs) id all =
    let is : f.id ≡ id = All-head (λ (g : Feature). g.id ≡ id) f fs all in
    let not_behind : is_before id f.id ≡ false = rw is (not_before_self id) in
    rw not_behind (none_next fs id (All-tail (λ (g : Feature). g.id ≡ id) f fs all))

next_in : (id : Rid) (rows low mid high : List Row) → Around id rows low mid high → next_after (Some id) (live rows) ≡ slice_get (live high) 0
next_in id rows low mid high at =
    ap (next_after (Some id)) at.whole ∙ next_between (live low) (live mid) (live high) id at.before at.behind
    ∙ ap (λ (found : Option Feature). option_or found (slice_get (live high) 0)) (none_next (live mid) id at.same)

laid_in : (id : Rid) (rows low mid high : List Row) (now : Option Feature) → Around id rows low mid high → laid (live rows) id now ≡ live low ++ (option_to_list now ++ live high)
laid_in id rows low mid high now at =
    ap (λ (l : List Feature). laid l id now) at.whole ∙ laid_between (live low) (live mid) (live high) id now at.before at.behind
    ∙ ap (λ (l : List Feature). live low ++ (l ++ live high)) (laid_same (live mid) id now at.same)

-- ---- what is found at the place

row_feature : (id : Rid) (feature : Option Feature) → All (λ f. f.id ≡ id) (option_to_list feature) → feature_at id (option_to_list feature ++ []) ≡ feature
row_feature id None all = refl
row_feature id (Some f) all = let same : is_same f.id id ≡ true = rw (All-head (λ (g : Feature). g.id ≡ id) f [] all) (same_self id) in rw same refl

pub found_there : (rows : List Row) (id : Rid) (i : ℕ) → AreRows id.kind rows → IsFirst id.number rows i → has_number id.number (slice_get rows i) ≡ true → feature_at id (live rows) ≡ feature_of (slice_get rows i)
found_there rows id i are first has =
    let s = stands id.number rows i has in
    let at = around id rows (take i rows) (s.row ∷ []) (drop (i + 1) rows) are (parted_with id.number rows i are.rising first s) in
    found_in id rows (take i rows) (s.row ∷ []) (drop (i + 1) rows) at ∙ row_feature id s.row.feature (subst (All (λ f. f.id ≡ id)) (append-nil (live_in s.row)) at.same) ∙ ap feature_of (sym s.at)

row_is : (rows : List Row) (i : ℕ) (row other : Row) → slice_get rows i ≡ Some row → other ≡ get_or rows i other → row ≡ other
row_is [] zero row other at is = absurd (let bad = at in cc)
row_is [] (suc i) row other at is = absurd (let bad = at in cc)
row_is (r ∷ rows) zero row other at is = cc
row_is (r ∷ rows) (suc i) row other at is = row_is rows i row other at is

-- the row itself, in the form that an index gives
pub found_row : (rows : List Row) (id : Rid) (i : ℕ) (row : Row) → AreRows id.kind rows → IsFirst id.number rows i → has_number id.number (slice_get rows i) ≡ true → row ≡ get_or rows i row → row.feature ≡ feature_at id (live rows)
found_row rows id i row are first has is =
    let s = stands id.number rows i has in
    sym (found_there rows id i are first has ∙ ap feature_of s.at ∙ ap (λ (r : Row). r.feature) (row_is rows i s.row row s.at is))

pub found_nowhere : (rows : List Row) (id : Rid) (i : ℕ) → AreRows id.kind rows → IsFirst id.number rows i → has_number id.number (slice_get rows i) ≡ false → feature_at id (live rows) ≡ None
found_nowhere rows id i are first has = found_in id rows (take i rows) [] (drop i rows) (around id rows (take i rows) [] (drop i rows) are (parted_without id.number rows i are.rising first has))

-- ---- what is next

pub next_there : (rows : List Row) (id : Rid) (i : ℕ) → AreRows id.kind rows → has_number id.number (slice_get rows i) ≡ true → next_after (Some id) (live rows) ≡ slice_get (live (drop (i + 1) rows)) 0
next_there rows id i are has =
    let s = stands id.number rows i has in
    next_in id rows (take i rows) (s.row ∷ []) (drop (i + 1) rows)
    (around id rows (take i rows) (s.row ∷ []) (drop (i + 1) rows) are (parted_with id.number rows i are.rising (first_of_stands id.number rows i are.rising s) s))

pub next_from : (rows : List Row) (id : Rid) (i : ℕ) → AreRows id.kind rows → IsFirst id.number rows i → has_number id.number (slice_get rows i) ≡ false → next_after (Some id) (live rows) ≡ slice_get (live (drop i rows)) 0
next_from rows id i are first has = next_in id rows (take i rows) [] (drop i rows) (around id rows (take i rows) [] (drop i rows) are (parted_without id.number rows i are.rising first has))

-- ---- what is laid

-- rows after a feature is laid under an identifier
pub record Laid (id : Rid) (old : List Row) (now : Option Feature) (new : List Row) : Type 0 where
  pub items : live new ≡ laid (live old) id now
  pub rows : AreRows id.kind new

laid_with : (id : Rid) (rows low mid high : List Row) (now : Option Feature) → AreRows id.kind rows → Parted id.number rows low mid high → IfSome now (λ f. f.id ≡ id) → Laid id rows now (low ++ record { number = id.number; feature = now } ∷ high)
laid_with id rows low mid high now are parted own =
    let row : Row = record { number = id.number; feature = now } in
    let all : All (IsOwn id.kind) (low ++ (mid ++ high)) = subst (All (IsOwn id.kind)) parted.whole are.own in
    let rising : IsRising (low ++ (mid ++ high)) = subst IsRising parted.whole are.rising in
    let high_own : All (IsOwn id.kind) high = all_right (IsOwn id.kind) mid high (all_right (IsOwn id.kind) low (mid ++ high) all) in
    record {
      items = flat_map-append live_in low (row ∷ high) ∙ sym (laid_in id rows low mid high now (around id rows low mid high are parted));
      rows = record {
        rising = rising_with low high row (rising_left low (mid ++ high) rising) (rising_right mid high (rising_right low (mid ++ high) rising)) parted.before parted.behind;
        own = All-append (IsOwn id.kind) low (row ∷ high) (all_left (IsOwn id.kind) low (mid ++ high) all) (All-cons (IsOwn id.kind) row high own high_own);
      };
    }

set_is : (rows : List Row) (i : ℕ) (row : Row) → i < length rows → take i rows ++ row ∷ drop (i + 1) rows ≡ set rows i row
set_is rows i row lt = sym (sym (take-append-drop i (set rows i row)) ∙ ap (λ l. l ++ drop i (set rows i row)) (take-set rows i row) ∙ ap (λ l. take i rows ++ l) (drop-set rows i row lt))

pub laid_there : (rows : List Row) (id : Rid) (i : ℕ) (now : Option Feature) → AreRows id.kind rows → IsFirst id.number rows i → has_number id.number (slice_get rows i) ≡ true → IfSome now (λ f. f.id ≡ id) → Laid id rows now (set rows i (record { number = id.number; feature = now }))
laid_there rows id i now are first has own =
    let s = stands id.number rows i has in
    subst (Laid id rows now) (set_is rows i (record { number = id.number; feature = now }) s.within)
    (laid_with id rows (take i rows) (s.row ∷ []) (drop (i + 1) rows) now are (parted_with id.number rows i are.rising first s) own)

pub laid_new : (rows : List Row) (id : Rid) (i : ℕ) (now : Option Feature) → AreRows id.kind rows → IsFirst id.number rows i → has_number id.number (slice_get rows i) ≡ false → IfSome now (λ f. f.id ≡ id) → Laid id rows now (insert rows i (record { number = id.number; feature = now }))
laid_new rows id i now are first has own = laid_with id rows (take i rows) [] (drop i rows) now are (parted_without id.number rows i are.rising first has) own

pub laid_nowhere : (rows : List Row) (id : Rid) (i : ℕ) → AreRows id.kind rows → IsFirst id.number rows i → has_number id.number (slice_get rows i) ≡ false → live rows ≡ laid (live rows) id None
laid_nowhere rows id i are first has =
    let at = around id rows (take i rows) [] (drop i rows) are (parted_without id.number rows i are.rising first has) in
    at.whole ∙ sym (laid_in id rows (take i rows) [] (drop i rows) None at)

-- ---- rows that are swept

one_swept : (n : ℕ) (feature : Option Feature) (rows : List Row) → live (filter (λ row. is_some row.feature) rows) ≡ live rows → live (filter (λ row. is_some row.feature) (record { number = n; feature = feature } ∷ rows)) ≡ option_to_list feature ++ live rows
one_swept n None rows is = is
one_swept n (Some f) rows is = ap (λ l. f ∷ l) is

pub swept_live : (rows : List Row) → live (filter (λ row. is_some row.feature) rows) ≡ live rows
swept_live [] = refl
swept_live (row ∷ rows) = one_swept row.number row.feature rows (swept_live rows)

rising_at : (b : Bool) (row : Row) (rows : List Row) → All (λ r. row.number < r.number) rows → IsRising rows → IsRising (if b then row ∷ rows else rows)
rising_at true row rows all rising = (all, rising)
rising_at false row rows all rising = rising

swept_rising : (test : Row → Bool) (rows : List Row) → IsRising rows → IsRising (filter test rows)
swept_rising test [] rising = tt
swept_rising test (row ∷ rows) rising = rising_at (test row) row (filter test rows) (All-filter test (λ (r : Row). row.number < r.number) rows rising.0) (swept_rising test rows rising.1)

pub swept_rows : (test : Row → Bool) (kind : ℕ) (rows : List Row) → AreRows kind rows → AreRows kind (filter test rows)
swept_rows test kind rows are = record { rising = swept_rising test rows are.rising; own = All-filter test (IsOwn kind) rows are.own }

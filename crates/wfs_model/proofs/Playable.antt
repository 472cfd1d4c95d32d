-- A change that may be played keeps well what is kept.
use Rattle.std.proofs.Common.{◌≡◌, ℕ, ◌<◌, ◌≤◌, true, false, not, List, [], ◌∷◌, ◌++◌, length, get_or, filter, All, Some, None, Result, Ok, Err, refl, ◌∙◌, subst, length-set, arith}
use Rattle.std.specs.Prelude.{◌&&◌, ◌==◌, max, nat_le, nat_lt}
use Rattle.std.specs.List.{AllPairs, fold, list_all, list_any}
use Rattle.std.proofs.lemmas.Bool.{and_parts, not-true}
use Rattle.std.proofs.lemmas.List.{get_or-set_same}
use Rattle.std.proofs.lemmas.List.Elements.{All-nil, All-cons, All-head, All-tail, All-weaker, All-append, All-filter}
use Rattle.std.proofs.lemmas.List.Kept.{AllPairs-cons}
use Rattle.feature_values.specs.declared.feature.Feature.{Feature}
use Rattle.feature_values.specs.declared.feature.Rid.{Rid}
use Rattle.feature_values.specs.declared.schema.Schema.{Schema}
use Rattle.feature_values.specs.declared.fault.ValueFault.{ValueFault}
use Rattle.feature_values.specs.Fits.{feature_fits}
use Rattle.fes_filter.specs.View.{is_before}
use Rattle.feature_overlay.specs.Laid.{laid}
use Rattle.feature_overlay.proofs.Layings.{laid_in_order}
use Rattle.wfs_model.specs.declared.change.Part.{Part}
use Rattle.wfs_model.specs.declared.change.Part.TheVariants.{Put, Remove}
use Rattle.wfs_model.specs.declared.change.Change.{Change}
use Rattle.wfs_model.specs.declared.change.Change.TheVariants.{Opening, Rows, Created, Dropped, Base}
use Rattle.wfs_model.specs.declared.stored.StoredQuery.{StoredQuery}
use Rattle.wfs_model.specs.declared.fault.StoredFault.{StoredFault}
use Rattle.wfs_model.specs.State.{Durable}
use Rattle.wfs_model.specs.Kept.{IsGiven, IsKept}
use Rattle.wfs_model.specs.OfSchema.{IsStoredOf}
use Rattle.wfs_model.specs.Expand.{is_same_name}
use Rattle.wfs_model.specs.Stored.{created, is_there, without_query, dropped}
use Rattle.wfs_model.specs.Played.{raised, part_played, played_one}
use Rattle.wfs_model.specs.Playable.{most_number, is_ok, is_number, is_part, are_parts, are_names, IsAskedOf, AreQueriesOf, is_playable}
use Rattle.wfs_model.proofs.Fitting.{Fits}
use Rattle.wfs_model.proofs.Keeping.{AreKept, are_kept, kind_within, none_passes, all_created, drop_kept}
use Rattle.wfs_model.proofs.Playing.{raise_more}
use Rattle.wfs_model.proofs.Sound.{all_laid}
use Rattle.wfs_model.proofs.Stepping.{created_all}

-- ---- features

fits_ok : (r : Result (Unit {0}) ValueFault) → is_ok r ≡ true → r ≡ Ok tt
fits_ok (Ok tt) is = refl
fits_ok (Err fault) is = absurd cc

-- a number that was given stays given where a counter rises
given_more : (counters : List ℕ) (kind n : ℕ) (id : Rid) → IsGiven counters id → IsGiven (raised counters kind n) id
given_more counters kind n id given =
    let more : get_or counters id.kind 0 ≤ get_or (raised counters kind n) id.kind 0 = raise_more counters kind (max (get_or counters kind 0) n) id.kind (omega arith) in
    (given.0, omega (arith, given.1, more))

given_now : (counters : List ℕ) (id : Rid) → id.kind < length counters → 1 ≤ id.number → IsGiven (raised counters id.kind id.number) id
given_now counters id within counted =
    let is : get_or (raised counters id.kind id.number) id.kind 0 ≡ max (get_or counters id.kind 0) id.number = get_or-set_same counters id.kind (max (get_or counters id.kind 0) id.number) 0 within in
    (counted, omega (arith, is))

put_keeps : (schema : Schema) (kept : Durable) (f : Feature) → Fits schema f → 1 ≤ f.id.number → IsKept schema kept → IsKept schema (part_played kept (Put f))
unfolding part_played
put_keeps schema kept f fits counted is =
    let now : List ℕ = raised kept.counters f.id.kind f.id.number in
    let within : f.id.kind < length kept.counters = (let there = kind_within schema f fits in rw is.counters there) in
    record {
      order = laid_in_order kept.features f.id (Some f) refl is.order;
      fitting = all_laid (Fits schema) kept.features f fits is.fitting;
      given = all_laid (λ g. IsGiven now g.id) kept.features f (given_now kept.counters f.id within counted)
          (All-weaker (λ (g : Feature). IsGiven kept.counters g.id) (λ (g : Feature). IsGiven now g.id) (λ g given. given_more kept.counters f.id.kind f.id.number g.id given) kept.features is.given);
      counters = length-set kept.counters f.id.kind (max (get_or kept.counters f.id.kind 0) f.id.number) ∙ is.counters;
      stored = is.stored;
      different = is.different;
      made = is.made;
    }

all_left : (P : Feature → Type 0) (fs : List Feature) (id : Rid) → All P fs → All P (laid fs id None)
unfolding laid
all_left P fs id all = All-append P (filter (λ f. is_before f.id id) fs) (filter (λ f. is_before id f.id) fs) (All-filter (λ (f : Feature). is_before f.id id) P fs all) (All-filter (λ (f : Feature). is_before id f.id) P fs all)

remove_keeps : (schema : Schema) (kept : Durable) (id : Rid) → IsKept schema kept → IsKept schema (part_played kept (Remove id))
unfolding part_played
remove_keeps schema kept id is = record {
  order = laid_in_order kept.features id None tt is.order;
  fitting = all_left (Fits schema) kept.features id is.fitting;
  given = all_left (λ g. IsGiven kept.counters g.id) kept.features id is.given;
  counters = is.counters;
  stored = is.stored;
  different = is.different;
  made = is.made;
}

part_keeps : (schema : Schema) (kept : Durable) (part : Part) → is_part schema kept part ≡ true → IsKept schema kept → IsKept schema (part_played kept part)
unfolding is_part
part_keeps schema kept (Put f) may is =
    let parts = and_parts (is_ok (feature_fits schema f)) (is_number f.id.number) may in
    let counted : 1 ≤ f.id.number = (let number = parts.1 in grind (arith, number)) in
    put_keeps schema kept f (fits_ok (feature_fits schema f) parts.0) counted is
part_keeps schema kept (Remove id) may is = remove_keeps schema kept id is

parts_keep : (schema : Schema) (kept : Durable) (parts : List Part) → are_parts schema kept parts ≡ true → IsKept schema kept → IsKept schema (fold part_played kept parts)
unfolding are_parts
parts_keep schema kept [] may is = is
parts_keep schema kept (part ∷ parts) may is =
    let both = and_parts (is_part schema kept part) (are_parts schema (part_played kept part) parts) may in
    parts_keep schema (part_played kept part) parts both.1 (part_keeps schema kept part both.0 is)

-- ---- stored queries

-- names that may stand together
record AreNames (names : List (List ℕ)) : Type 0 where
  pub some : All (λ name. 0 < length name) names
  pub different : AllPairs (λ a b. is_same_name a b ≡ false) names

some_name : (name : List ℕ) → nat_lt 0 (length name) ≡ true → 0 < length name
some_name name is = grind (arith, is)

are_apart : (names : List (List ℕ)) → are_names names ≡ true → AreNames names
unfolding are_names
are_apart [] is = record { some = All-nil (λ (name : List ℕ). 0 < length name); different = λ i j d lt within. absurd (omega (arith, within)) }
are_apart (name ∷ names) is =
    let first = and_parts (nat_lt 0 (length name)) (not (list_any (is_same_name name) names) && are_names names) is in
    let second = and_parts (not (list_any (is_same_name name) names)) (are_names names) first.1 in
    let rest : AreNames names = are_apart names second.1 in
    let others : All (λ other. is_same_name name other ≡ false) names = none_passes (is_same_name name) names (not-true (list_any (is_same_name name) names) second.0) in
    record {
      some = All-cons (λ (n : List ℕ). 0 < length n) name names (some_name name first.0) rest.some;
      different = AllPairs-cons (λ (a : List ℕ) (b : List ℕ). is_same_name a b ≡ false) name names others rest.different;
    }

all_stored : (schema : Schema) (queries : List StoredQuery) → All (IsAskedOf schema) queries → list_all (λ query. are_names query.parameters) queries ≡ true → All (IsStoredOf schema) queries
all_stored schema [] asked named = All-nil (IsStoredOf schema)
all_stored schema (query ∷ queries) asked named =
    let parts = and_parts (are_names query.parameters) (list_all (λ (q : StoredQuery). are_names q.parameters) queries) named in
    let names : AreNames query.parameters = are_apart query.parameters parts.0 in
    All-cons (IsStoredOf schema) query queries (record { queries = All-head (IsAskedOf schema) query queries asked; names = names.some; different = names.different })
    (all_stored schema queries (All-tail (IsAskedOf schema) query queries asked) parts.1)

-- what is kept, with other stored queries
with_queries : (schema : Schema) (kept : Durable) (now : List StoredQuery) → IsKept schema kept → AreKept schema now → IsKept schema (record kept { stored = now })
with_queries schema kept now is are = record { order = is.order; fitting = is.fitting; given = is.given; counters = is.counters; stored = are.allowed; different = are.different; made = are.made }

well : (r : Result (List StoredQuery) StoredFault) → is_ok r ≡ true → (now : List StoredQuery) × (r ≡ Ok now)
well (Ok now) is = (now, refl)
well (Err fault) is = absurd cc

created_keeps : (schema : Schema) (kept : Durable) (queries : List StoredQuery) → All (IsAskedOf schema) queries → is_playable schema kept (Created queries) ≡ true → IsKept schema kept → IsKept schema (played_one kept (Created queries))
unfolding is_playable played_one
created_keeps schema kept queries asked may is =
    let parts = and_parts (is_ok (created kept.stored queries)) (list_all (λ (query : StoredQuery). are_names query.parameters) queries) may in
    let found = well (created kept.stored queries) parts.0 in
    let are : AreKept schema found.0 = all_created schema kept.stored queries found.0 (all_stored schema queries asked parts.1) (are_kept schema kept is) found.1 in
    with_queries schema kept (kept.stored ++ queries) is (subst (AreKept schema) (created_all kept.stored queries found.0 found.1) are)

drops : (stored : List StoredQuery) (id : List ℕ) → is_there stored id ≡ true → dropped stored id ≡ Ok (without_query stored id)
unfolding dropped
drops stored id there = rw there refl

dropped_keeps : (schema : Schema) (kept : Durable) (id : List ℕ) → is_playable schema kept (Dropped id) ≡ true → IsKept schema kept → IsKept schema (played_one kept (Dropped id))
unfolding is_playable played_one
dropped_keeps schema kept id may is =
    with_queries schema kept (without_query kept.stored id) is (drop_kept schema kept.stored (without_query kept.stored id) id (are_kept schema kept is) (drops kept.stored id may))

-- ---- checkpoints

none_at : {X : Type 0} (P : X → Type 0) (xs : List X) → (length xs == 0) ≡ true → All P xs
none_at P xs none k d within = absurd (let empty : length xs ≡ 0 = grind (arith, none) in omega (arith, empty, within))

base_keeps : (schema : Schema) (kept : Durable) (opening : ℕ) (counters : List ℕ) → is_playable schema kept (Base opening counters) ≡ true → IsKept schema kept → IsKept schema (played_one kept (Base opening counters))
unfolding is_playable played_one
base_keeps schema kept opening counters may is =
    let halves = and_parts (((length kept.features == 0) && (length kept.stored == 0)) && ((kept.opening == 0) && list_all (λ n. n == 0) kept.counters)) ((length counters == length schema.types) && list_all (λ n. nat_le n most_number) counters) may in
    let empty = and_parts ((length kept.features == 0) && (length kept.stored == 0)) ((kept.opening == 0) && list_all (λ n. n == 0) kept.counters) halves.0 in
    let features = and_parts (length kept.features == 0) (length kept.stored == 0) empty.0 in
    let types = and_parts (length counters == length schema.types) (list_all (λ n. nat_le n most_number) counters) halves.1 in
    record {
      order = is.order;
      fitting = is.fitting;
      given = none_at (λ (f : Feature). IsGiven counters f.id) kept.features features.0;
      counters = (let same = types.0 in grind (arith, same));
      stored = is.stored;
      different = is.different;
      made = is.made;
    }

-- ---- changes

-- a change that may be played keeps well what is kept well
pub playing_keeps : (schema : Schema) (kept : Durable) (change : Change) → IsKept schema kept → AreQueriesOf schema change → is_playable schema kept change ≡ true → IsKept schema (played_one kept change)
unfolding is_playable played_one
playing_keeps schema kept (Opening opening) is asked may =
    record { order = is.order; fitting = is.fitting; given = is.given; counters = is.counters; stored = is.stored; different = is.different; made = is.made }
playing_keeps schema kept (Rows parts) is asked may = parts_keep schema kept parts may is
playing_keeps schema kept (Created queries) is asked may = created_keeps schema kept queries asked may is
playing_keeps schema kept (Dropped id) is asked may = dropped_keeps schema kept id may is
playing_keeps schema kept (Base opening counters) is asked may = base_keeps schema kept opening counters may is

-- What playing a change leaves of all that is kept.
use Rattle.std.proofs.Common.{◌≡◌, ℕ, zero, suc, ◌+◌, ◌<◌, ◌≤◌, Bool, true, false, cond, List, [], ◌∷◌, ◌++◌, length, get_or, map, drop, filter, All, Option, Some, None, Result, Ok, Err, refl, sym, ap, ◌∙◌, subst, length-append, arith}
use Rattle.std.specs.Prelude.{◌&&◌, ◌≢◌}
use Rattle.std.specs.List.{fold, list_all}
use Rattle.std.specs.Option.{option_to_list}
use Rattle.std.proofs.lemmas.Bool.{and_parts}
use Rattle.std.proofs.lemmas.Bool.Decides.{nat_tests}
use Rattle.std.proofs.lemmas.List.{length-map, at_drop_more, at_drop_all}
use Rattle.std.proofs.lemmas.List.Elements.{All-nil, All-cons}
use Rattle.wfs_ends.specs.Read.{FailsBut}
use Rattle.feature_values.specs.declared.feature.Feature.{Feature}
use Rattle.feature_values.specs.declared.feature.Rid.{Rid}
use Rattle.feature_values.specs.declared.schema.Schema.{Schema}
use Rattle.feature_values.specs.declared.fault.ValueFault.{ValueFault}
use Rattle.feature_values.specs.Fits.{feature_fits}
use Rattle.fes_filter.specs.View.{is_before}
use Rattle.feature_overlay.specs.Laid.{laid}
use Rattle.wfs_model.specs.declared.change.Part.{Part}
use Rattle.wfs_model.specs.declared.change.Part.TheVariants.{Put, Remove}
use Rattle.wfs_model.specs.declared.change.Change.{Change}
use Rattle.wfs_model.specs.declared.change.Change.TheVariants.{Opening, Rows, Created, Dropped, Base}
use Rattle.wfs_model.specs.declared.stored.StoredQuery.{StoredQuery}
use Rattle.wfs_model.specs.declared.fault.StoredFault.{StoredFault}
use Rattle.wfs_model.specs.declared.fault.StoredFault.TheVariants.{OutOfMemory as NoMemory}
use Rattle.wfs_model.specs.Kept.{IsKept}
use Rattle.wfs_model.specs.Playable.{is_ok, is_number, is_part, are_parts, are_names, AreQueriesOf, is_playable}
use Rattle.wfs_model.specs.Played.{part_played, played_one}
use Rattle.wfs_model.specs.State.{Durable}
use Rattle.wfs_model.specs.Stored.{created, dropped, without_query}
use Rattle.wfs_model.proofs.Keeping.{kind_within}
use Rattle.wfs_model.proofs.Playable.{playing_keeps}
use Rattle.stored_queries.specs.Listed.{left}
use Rattle.feature_versions.specs.Accepting.{part_on, parts_on}
use Rattle.feature_versions.specs.Held.{most, kept_in, room_in, IsHeld}
use Rattle.feature_versions.specs.Holding.{TypeRoom}
use Rattle.feature_versions.specs.Layer.{Layered}
use Rattle.feature_versions.specs.Reserved.{of_type, put_in, all_put, HasRoom, IsReserved}
use Rattle.feature_versions.specs.Types.{features_of, AreTyped, IsWithin, room_of, HasRooms, part_laid}

-- ---- what changes come to

pub opened_is : (layers : List Layered) (counters : List ℕ) (stored : List StoredQuery) (opening now : ℕ) → kept_in layers counters stored now ≡ played_one (kept_in layers counters stored opening) (Opening now)
unfolding played_one
opened_is layers counters stored opening now = refl

pub begun_is : (layers : List Layered) (counters new : List ℕ) (stored : List StoredQuery) (opening now : ℕ) → kept_in layers new stored now ≡ played_one (kept_in layers counters stored opening) (Base now new)
unfolding played_one
begun_is layers counters new stored opening now = refl

pub created_is : (layers : List Layered) (counters : List ℕ) (stored queries now : List StoredQuery) (opening : ℕ) → now ≡ stored ++ queries → kept_in layers counters now opening ≡ played_one (kept_in layers counters stored opening) (Created queries)
unfolding played_one
created_is layers counters stored queries now opening is = ap (λ (l : List StoredQuery). kept_in layers counters l opening) is

pub dropped_is : (layers : List Layered) (counters : List ℕ) (stored now : List StoredQuery) (id : List ℕ) (opening : ℕ) → now ≡ without_query stored id → kept_in layers counters now opening ≡ played_one (kept_in layers counters stored opening) (Dropped id)
unfolding played_one
dropped_is layers counters stored now id opening is = ap (λ (l : List StoredQuery). kept_in layers counters l opening) is

pub rows_are : (kept now : Durable) (parts : List Part) → now ≡ fold part_played kept parts → now ≡ played_one kept (Rows parts)
unfolding played_one
rows_are kept now parts is = is

-- a change that may be played leaves all well
pub held_after : (schema : Schema) (layers new : List Layered) (kept now : Durable) (change : Change) → IsHeld schema layers kept → is_playable schema kept change ≡ true → AreQueriesOf schema change → now ≡ played_one kept change
    → length new ≡ length layers → AreTyped new → length (features_of new) ≤ most → IsHeld schema new now
held_after schema layers new kept now change held may asked is types typed short = record {
  well = subst (IsKept schema) (sym is) (playing_keeps schema kept change held.well asked may);
  types = types ∙ held.types;
  typed = typed;
  short = short;
}

-- ---- stored queries

-- identifiers that may be played are new
pub may_create : (schema : Schema) (kept : Durable) (queries : List StoredQuery) → is_playable schema kept (Created queries) ≡ true → is_ok (created kept.stored queries) ≡ true
unfolding is_playable
may_create schema kept queries may = (and_parts (is_ok (created kept.stored queries)) (list_all (λ (query : StoredQuery). are_names query.parameters) queries) may).0

pub never_refused : (r : Result (List StoredQuery) StoredFault) (fault : StoredFault) → is_ok r ≡ true → FailsBut NoMemory fault r → (fault ≢ NoMemory) → ⊥
never_refused (Ok now) fault well fails other = (let bad = fails other in absurd cc)
never_refused (Err found) fault well fails other = (let bad = well in absurd cc)

-- one that may be dropped is there
pub is_dropped : (schema : Schema) (kept : Durable) (id : List ℕ) (now : List StoredQuery) (result : Result (Unit {0}) StoredFault) → is_playable schema kept (Dropped id) ≡ true → left now result ≡ dropped kept.stored id → now ≡ without_query kept.stored id
unfolding is_playable dropped
is_dropped schema kept id now (Ok u) may is = (let there = rw may at is in cc)
is_dropped schema kept id now (Err fault) may is = (let there = rw may at is in absurd cc)

-- ---- features

fits_if : (r : Result (Unit {0}) ValueFault) → is_ok r ≡ true → r ≡ Ok tt
fits_if (Ok u) is = refl
fits_if (Err fault) is = absurd (let bad = is in cc)

part_within : (schema : Schema) (kept : Durable) (part : Part) → is_part schema kept part ≡ true → IsWithin (length schema.types) part
unfolding is_part
part_within schema kept (Put f) may = kind_within schema f (fits_if (feature_fits schema f) (and_parts (is_ok (feature_fits schema f)) (is_number f.id.number) may).0)
part_within schema kept (Remove id) may = tt

parts_within : (schema : Schema) (kept : Durable) (parts : List Part) → are_parts schema kept parts ≡ true → All (IsWithin (length schema.types)) parts
unfolding are_parts
parts_within schema kept [] may = All-nil (IsWithin (length schema.types))
parts_within schema kept (part ∷ parts) may =
    let both = and_parts (is_part schema kept part) (are_parts schema (part_played kept part) parts) may in
    All-cons (IsWithin (length schema.types)) part parts (part_within schema kept part both.0) (parts_within schema (part_played kept part) parts both.1)

pub rows_within : (schema : Schema) (kept : Durable) (types : ℕ) (parts : List Part) → types ≡ length schema.types → is_playable schema kept (Rows parts) ≡ true → All (IsWithin types) parts
unfolding is_playable
rows_within schema kept types parts is may = subst (λ (n : ℕ). All (IsWithin n) parts) (sym is) (parts_within schema kept parts may)

pub get_room : (layers : List Layered) (k : ℕ) (d : Layered) (e : TypeRoom) → k < length layers → get_or (map room_of layers) k e ≡ room_of (get_or layers k d)
get_room [] k d e lt = absurd (omega (arith, lt))
get_room (layer ∷ layers) zero d e lt = refl
get_room (layer ∷ layers) (suc k) d e lt = get_room layers k d e (omega (arith, lt))

-- room that a caller sees is room in the types
pub rooms_in : (layers : List Layered) (stored : ℕ) (parts : List Part) → IsReserved (Rows parts) (room_in layers stored) → HasRooms (all_put parts) layers
rooms_in layers stored parts reserved k d lt =
    let e : TypeRoom = room_of d in
    let same : length (map room_of layers) ≡ length layers = length-map layers room_of in
    subst (HasRoom (of_type k (all_put parts))) (get_room layers k d e lt) (reserved.types k e (omega (arith, lt, same)))

-- ---- how many features there are then

both_short : (id : Rid) (fs : List Feature) → length (filter (λ f. is_before f.id id) fs) + length (filter (λ f. is_before id f.id) fs) ≤ length fs
both_short id [] = omega arith
both_short id (f ∷ fs) = at (is_before f.id id) (is_before id f.id) refl refl (both_short id fs)
  where
    not_both : is_before f.id id ≡ true → is_before id f.id ≡ true → ⊥
    not_both h k = (let no : is_before id f.id ≡ false = grind (arith, nat_tests, h) in absurd (let bad = k in cc))

    at : (b c : Bool) → is_before f.id id ≡ b → is_before id f.id ≡ c → length (filter (λ g. is_before g.id id) fs) + length (filter (λ g. is_before id g.id) fs) ≤ length fs
        → length (cond b (f ∷ filter (λ g. is_before g.id id) fs) (filter (λ g. is_before g.id id) fs)) + length (cond c (f ∷ filter (λ g. is_before id g.id) fs) (filter (λ g. is_before id g.id) fs)) ≤ suc (length fs)
    at true true h k more = absurd (not_both h k)
    at true false h k more = omega (arith, more)
    at false true h k more = omega (arith, more)
    at false false h k more = omega (arith, more)

laid_short : (id : Rid) (fs : List Feature) (now : Option Feature) → length (laid fs id now) ≤ length fs + length (option_to_list now)
unfolding laid
laid_short id fs now =
    omega (
      arith,
      both_short id fs,
      length-append (filter (λ f. is_before f.id id) fs) (option_to_list now ++ filter (λ f. is_before id f.id) fs),
      length-append (option_to_list now) (filter (λ f. is_before id f.id) fs),
    )

part_short : (kept : Durable) (part : Part) → length (part_played kept part).features ≤ length kept.features + length (put_in part)
unfolding part_played
part_short kept (Put f) = laid_short f.id kept.features (Some f)
part_short kept (Remove id) = laid_short id kept.features None

pub played_short : (kept : Durable) (parts : List Part) → length (fold part_played kept parts).features ≤ length kept.features + length (all_put parts)
played_short kept [] = omega arith
played_short kept (part ∷ parts) =
    let more = played_short (part_played kept part) parts in
    let one = part_short kept part in
    omega (arith, more, one, length-append (put_in part) (all_put parts))

-- ---- parts that are judged over features

part_judged : (schema : Schema) (kept : Durable) (part : Part) → is_part schema kept part ≡ part_on schema kept.features part
unfolding is_part
part_judged schema kept (Put f) = refl
part_judged schema kept (Remove id) = refl

features_after : (kept : Durable) (part : Part) → (part_played kept part).features ≡ part_laid kept.features part
unfolding part_played
features_after kept (Put f) = refl
features_after kept (Remove id) = refl

pub parts_judged : (schema : Schema) (kept : Durable) (parts : List Part) → are_parts schema kept parts ≡ parts_on schema kept.features parts
unfolding are_parts
parts_judged schema kept [] = refl
parts_judged schema kept (part ∷ parts) =
    let rest = parts_judged schema (part_played kept part) parts ∙ ap (λ (fs : List Feature). parts_on schema fs parts) (features_after kept part) in
    rw (part_judged schema kept part, rest) refl

-- the next part, and those behind it
part_step : (schema : Schema) (features : List Feature) (parts : List Part) (i : ℕ) (part : Part) → i < length parts → part ≡ get_or parts i part → parts_on schema features (drop i parts) ≡ (part_on schema features part && parts_on schema (part_laid features part) (drop (i + 1) parts))
part_step schema features parts i part lt is =
    at_drop_more (λ (ps : List Part). parts_on schema features ps) parts i part lt ∙ ap (λ (p : Part). part_on schema features p && parts_on schema (part_laid features p) (drop (i + 1) parts)) (sym is)

no_part : (a b : Bool) → a ≡ false → (a && b) ≡ false
no_part a b is = rw is refl

some_part : (a b : Bool) → a ≡ true → (a && b) ≡ b
some_part a b is = rw is refl

-- a part that may not be played
pub refused_at : (schema : Schema) (kept : Durable) (features now : List Feature) (parts : List Part) (i : ℕ) (part : Part) (may : Bool) → kept.features ≡ features → parts_on schema now (drop i parts) ≡ parts_on schema features parts
    → i < length parts → part ≡ get_or parts i part → may ≡ part_on schema now part → may ≡ false → false ≡ are_parts schema kept parts
refused_at schema kept features now parts i part may is rest lt at says refuses =
    let refused : parts_on schema now (drop i parts) ≡ false = part_step schema now parts i part lt at ∙ no_part (part_on schema now part) (parts_on schema (part_laid now part) (drop (i + 1) parts)) (sym says ∙ refuses) in
    sym (parts_judged schema kept parts ∙ ap (λ (fs : List Feature). parts_on schema fs parts) is ∙ sym rest ∙ refused)

pub goes_on : (schema : Schema) (features now after : List Feature) (parts : List Part) (i : ℕ) (part : Part) (may : Bool) → parts_on schema now (drop i parts) ≡ parts_on schema features parts
    → i < length parts → part ≡ get_or parts i part → may ≡ part_on schema now part → may ≡ true → after ≡ part_laid now part → parts_on schema after (drop (i + 1) parts) ≡ parts_on schema features parts
goes_on schema features now after parts i part may rest lt at says accepts is =
    let accepted = part_step schema now parts i part lt at ∙ some_part (part_on schema now part) (parts_on schema (part_laid now part) (drop (i + 1) parts)) (sym says ∙ accepts) in
    ap (λ (fs : List Feature). parts_on schema fs (drop (i + 1) parts)) is ∙ sym accepted ∙ rest

pub accepted_all : (schema : Schema) (kept : Durable) (features now : List Feature) (parts : List Part) (i : ℕ) → kept.features ≡ features → parts_on schema now (drop i parts) ≡ parts_on schema features parts → length parts ≤ i → true ≡ are_parts schema kept parts
accepted_all schema kept features now parts i is rest le =
    sym (parts_judged schema kept parts ∙ ap (λ (fs : List Feature). parts_on schema fs parts) is ∙ sym rest ∙ at_drop_all (λ (ps : List Part). parts_on schema now ps) parts i le)

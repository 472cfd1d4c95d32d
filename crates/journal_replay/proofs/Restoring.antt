-- What bodies come to can be had again from other bodies.
use Rattle.std.proofs.Common.{◌≡◌, ℕ, ◌≤◌, Bool, true, false, List, [], ◌∷◌, ◌++◌, length, get_or, All, Ok, refl, sym, ◌∙◌, subst, arith}
use Rattle.std.specs.Prelude.{◌&&◌, ◌==◌, not, max, nat_le}
use Rattle.std.specs.List.{fold, list_all}
use Rattle.std.proofs.lemmas.Bool.{and_parts}
use Rattle.std.proofs.lemmas.List.{length-replicate}
use Rattle.std.proofs.lemmas.List.Elements.{All-nil, All-append, All-filter, All-set, All-replicate}
use Rattle.wfs_ends.specs.Read.{unless}
use Rattle.wfs_ends.proofs.Turns.{bind_ok, if_ok, ok_is}
use Rattle.feature_values.specs.declared.feature.Feature.{Feature}
use Rattle.feature_values.specs.declared.schema.Schema.{Schema}
use Rattle.feature_values.specs.Fits.{feature_fits}
use Rattle.wfs_model.specs.declared.change.Part.{Part}
use Rattle.wfs_model.specs.declared.change.Part.TheVariants.{Put, Remove}
use Rattle.wfs_model.specs.declared.change.Change.{Change}
use Rattle.wfs_model.specs.declared.change.Change.TheVariants.{Opening, Rows, Created, Dropped, Base}
use Rattle.wfs_model.specs.declared.stored.StoredQuery.{StoredQuery}
use Rattle.wfs_model.specs.State.{Durable, nothing}
use Rattle.wfs_model.specs.Stored.{is_id_query, has_id}
use Rattle.wfs_model.specs.Kept.{IsGiven}
use Rattle.wfs_model.specs.OfSchema.{IsStoredOf}
use Rattle.wfs_model.specs.Playable.{most_number, is_ok, is_number, is_part, are_parts, AreQueriesOf, is_playable}
use Rattle.wfs_model.specs.Played.{part_played, played_one}
use Rattle.wfs_model.proofs.Playable.{playing_keeps}
use Rattle.query_docs.specs.Reading.{IsKeptText}
use Rattle.journal_format.specs.Reading.{record_of}
use Rattle.recovery.specs.declared.replay.ReplayFault.{ReplayFault}
use Rattle.recovery.specs.declared.replay.ReplayFault.TheVariants.{NotOfSchema}
use Rattle.journal_replay.specs.Change.{or_bad_bytes, is_signed, change_in}
use Rattle.journal_replay.specs.Replayed.{may_stand, kept_with, kept_after, kept_after_all, replayed}
use Rattle.journal_replay.specs.Written.{HasKeptTexts, PlaysOne, HasNumbers, IsRestorable}
use Rattle.journal_replay.proofs.Runs.{low_at, all_low}
use Rattle.journal_replay.proofs.Replaying.{one_more}
use Rattle.journal_replay.proofs.Told.{all_asked, completed_told}

-- ---- numbers

abbrev IsLow : ℕ → Type 0
IsLow n = n ≤ most_number

part_low : (schema : Schema) (kept : Durable) (part : Part) → is_part schema kept part ≡ true → HasNumbers kept → HasNumbers (part_played kept part)
unfolding is_part part_played
part_low schema kept (Put f) may low =
    let number = (and_parts (is_ok (feature_fits schema f)) (is_number f.id.number) may).1 in
    let counter : get_or kept.counters f.id.kind 0 ≤ most_number = low_at most_number kept.counters f.id.kind low in
    let most : f.id.number ≤ most_number = (let last = (and_parts (nat_le 1 f.id.number) (nat_le f.id.number most_number) number).1 in grind (arith, last)) in
    let greater : max (get_or kept.counters f.id.kind 0) f.id.number ≤ most_number = omega (arith, counter, most) in
    All-set IsLow kept.counters f.id.kind (max (get_or kept.counters f.id.kind 0) f.id.number) greater low
part_low schema kept (Remove id) may low = low

parts_low : (schema : Schema) (kept : Durable) (parts : List Part) → are_parts schema kept parts ≡ true → HasNumbers kept → HasNumbers (fold part_played kept parts)
unfolding are_parts
parts_low schema kept [] may low = low
parts_low schema kept (part ∷ parts) may low =
    let both = and_parts (is_part schema kept part) (are_parts schema (part_played kept part) parts) may in
    parts_low schema (part_played kept part) parts both.1 (part_low schema kept part both.0 low)

change_low : (schema : Schema) (kept : Durable) (change : Change) → is_playable schema kept change ≡ true → HasNumbers kept → HasNumbers (played_one kept change)
unfolding is_playable played_one
change_low schema kept (Opening opening) may low = low
change_low schema kept (Rows parts) may low = parts_low schema kept parts may low
change_low schema kept (Created stored) may low = low
change_low schema kept (Dropped id) may low = low
change_low schema kept (Base opening counters) may low =
    let halves = and_parts (((length kept.features == 0) && (length kept.stored == 0)) && ((kept.opening == 0) && list_all (λ n. n == 0) kept.counters)) ((length counters == length schema.types) && list_all (λ n. nat_le n most_number) counters) may in
    all_low most_number counters (and_parts (length counters == length schema.types) (list_all (λ n. nat_le n most_number) counters) halves.1).1

-- ---- texts

-- parts leave the stored queries alone
rows_leave : (kept : Durable) (parts : List Part) → (fold part_played kept parts).stored ≡ kept.stored
unfolding part_played
rows_leave kept [] = refl
rows_leave kept (Put f ∷ parts) = rows_leave (part_played kept (Put f)) parts
rows_leave kept (Remove id ∷ parts) = rows_leave (part_played kept (Remove id)) parts

change_told : (schema : Schema) (kept : Durable) (change : Change) → HasKeptTexts schema change → All (IsKeptText schema) kept.stored → All (IsKeptText schema) (played_one kept change).stored
unfolding played_one
change_told schema kept (Opening opening) told all = all
change_told schema kept (Rows parts) told all = subst (All (IsKeptText schema)) (sym (rows_leave kept parts)) all
change_told schema kept (Created stored) told all = All-append (IsKeptText schema) kept.stored stored all told
change_told schema kept (Dropped id) told all = All-filter (λ (query : StoredQuery). not (has_id id query)) (IsKeptText schema) kept.stored all
change_told schema kept (Base opening counters) told all = all

-- ---- bodies

-- the texts of a body tell what its stored queries ask
said_told : (schema : Schema) (body : List ℕ) (change : Change) → change_in schema body ≡ Ok change → HasKeptTexts schema change
unfolding change_in
said_told schema body change is =
    let recorded = bind_ok (or_bad_bytes (record_of body)) _ change is in
    let signed = bind_ok (unless (not (is_signed schema recorded.0.signature)) NotOfSchema) _ change recorded.2 in
    completed_told schema recorded.0.change change signed.2

-- so they are such as the schema allows
pub said_asked : (schema : Schema) (body : List ℕ) (change : Change) → change_in schema body ≡ Ok change → AreQueriesOf schema change
said_asked schema body change is = all_asked schema change (said_told schema body change is)

change_restorable : (schema : Schema) (kept : Durable) (change : Change) → HasKeptTexts schema change → is_playable schema kept change ≡ true → IsRestorable schema kept → IsRestorable schema (played_one kept change)
change_restorable schema kept change told may is = record {
  well = playing_keeps schema kept change is.well (all_asked schema change told) may;
  numbers = change_low schema kept change may is.numbers;
  texts = change_told schema kept change told is.texts;
}

-- a body that is taken plays one change
takes_one : (schema : Schema) (is_first : Bool) (kept now : Durable) (body : List ℕ) → kept_after schema is_first kept body ≡ Ok now → PlaysOne schema body kept now
unfolding kept_after kept_with
takes_one schema is_first kept now body is =
    let change = bind_ok (change_in schema body) (λ change. kept_with schema is_first kept change) now is in
    let may = if_ok (may_stand is_first change.0 && is_playable schema kept change.0) (Ok (played_one kept change.0)) NotOfSchema now change.2 in
    record { change = change.0; said = change.1; playable = (and_parts (may_stand is_first change.0) (is_playable schema kept change.0) may.0).1; leaves = ok_is ReplayFault (played_one kept change.0) now may.1 }

pub plays_one : (schema : Schema) (taken : List (List ℕ)) (body : List ℕ) (kept now : Durable) → replayed schema taken ≡ Ok kept → replayed schema (taken ++ body ∷ []) ≡ Ok now → PlaysOne schema body kept now
plays_one schema taken body kept now is come = takes_one schema (length taken == 0) kept now body (sym (one_more schema taken kept body is) ∙ come)

all_restorable : (schema : Schema) (is_first : Bool) (kept now : Durable) (bodies : List (List ℕ)) → IsRestorable schema kept → kept_after_all schema is_first kept bodies ≡ Ok now → IsRestorable schema now
unfolding kept_after_all
all_restorable schema is_first kept now [] well is = subst (IsRestorable schema) (ok_is ReplayFault kept now is) well
all_restorable schema is_first kept now (body ∷ bodies) well is =
    let one = bind_ok (kept_after schema is_first kept body) (λ next. kept_after_all schema false next bodies) now is in
    let takes = takes_one schema is_first kept one.0 body one.1 in
    all_restorable schema false one.0 now bodies (subst (IsRestorable schema) takes.leaves (change_restorable schema kept takes.change (said_told schema body takes.change takes.said) takes.playable well)) one.2

-- before the first opening
nothing_restorable : (schema : Schema) → IsRestorable schema (nothing (length schema.types))
nothing_restorable schema = record {
  well = record {
    order = tt;
    fitting = All-nil (λ (f : Feature). feature_fits schema f ≡ Ok tt);
    given = All-nil (λ (f : Feature). IsGiven (nothing (length schema.types)).counters f.id);
    counters = length-replicate (length schema.types) 0;
    stored = All-nil (IsStoredOf schema);
    different = λ i j d lt within. absurd (omega (arith, within));
    made = All-nil (λ (query : StoredQuery). is_id_query query.id ≡ false);
  };
  numbers = All-replicate IsLow (length schema.types) 0 (omega arith);
  texts = All-nil (IsKeptText schema);
}

pub replayed_restorable : (schema : Schema) (bodies : List (List ℕ)) (kept : Durable) → replayed schema bodies ≡ Ok kept → IsRestorable schema kept
unfolding replayed
replayed_restorable schema bodies kept is = all_restorable schema true (nothing (length schema.types)) kept bodies (nothing_restorable schema) is

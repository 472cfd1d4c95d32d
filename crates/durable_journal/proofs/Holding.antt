-- What is read from bytes, and what is kept of it, is such as the types of the program hold.
use Rattle.std.proofs.Common.{◌≡◌, ℕ, Bool, true, false, List, [], ◌∷◌, ◌++◌, map, All, Some, None, Result, Ok, Err, ap, subst, arith}
use Rattle.std.specs.Prelude.{◌&&◌, not, length}
use Rattle.std.specs.List.{fold}
use Rattle.std.proofs.lemmas.List.Elements.{All-nil, All-cons, All-head, All-tail, All-push, All-append, All-filter}
use Rattle.wfs_ends.specs.Read.{each, unless}
use Rattle.wfs_ends.proofs.Turns.{bind_ok, if_ok, ok_is}
use Rattle.feature_values.specs.declared.feature.Feature.{Feature}
use Rattle.feature_values.specs.declared.feature.Rid.{Rid}
use Rattle.feature_values.specs.declared.schema.Schema.{Schema}
use Rattle.feature_schema.specs.Signature.{signature_text}
use Rattle.fes_filter.specs.View.{is_before}
use Rattle.feature_overlay.specs.Laid.{laid}
use Rattle.wfs_model.specs.declared.change.Part.{Part}
use Rattle.wfs_model.specs.declared.change.Part.TheVariants.{Put, Remove}
use Rattle.wfs_model.specs.declared.change.Change.{Change}
use Rattle.wfs_model.specs.declared.change.Change.TheVariants.{Opening, Rows, Created, Dropped, Base}
use Rattle.wfs_model.specs.declared.stored.StoredQuery.{StoredQuery}
use Rattle.wfs_model.specs.State.{Durable, nothing}
use Rattle.wfs_model.specs.Stored.{has_id}
use Rattle.wfs_model.specs.Playable.{is_playable}
use Rattle.wfs_model.specs.Played.{part_played, played_one}
use Rattle.journal_format.specs.Numbers.{AreBytes}
use Rattle.journal_format.specs.Reading.{record_of}
use Rattle.journal_format.specs.RoundTrip.{bare, recorded_of, text_or_empty}
use Rattle.journal_format.specs.Writable.{IsPart, IsStored, IsWritable}
use Rattle.journal_format.proofs.Spelled.{one_spelling}
use Rattle.recovery.specs.declared.replay.ReplayFault.{ReplayFault}
use Rattle.recovery.specs.declared.replay.ReplayFault.TheVariants.{NotOfSchema}
use Rattle.journal_replay.specs.Change.{or_bad_bytes, is_signed, asked_by, filled, next_filled, completed, change_in}
use Rattle.journal_replay.specs.Replayed.{may_stand, kept_with, kept_after, kept_after_all, replayed}
use Rattle.journal_replay.specs.Written.{body_in, IsReadIn}
use Rattle.durable_journal.specs.Holdable.{IsHoldable}
use Rattle.durable_journal.specs.Standing.{ComeTo}

abbrev IsFeature : Feature → Type 0
IsFeature f = IsPart (Put f)

-- ---- one change more

put_laid : (fs : List Feature) (f : Feature) → IsFeature f → All IsFeature fs → All IsFeature (laid fs f.id (Some f))
unfolding laid
put_laid fs f is all =
    All-append IsFeature _ _ (All-filter (λ (g : Feature). is_before g.id f.id) IsFeature fs all)
    (All-append IsFeature (f ∷ []) _ (All-cons IsFeature f [] is (All-nil IsFeature)) (All-filter (λ (g : Feature). is_before f.id g.id) IsFeature fs all))

removed_laid : (fs : List Feature) (id : Rid) → All IsFeature fs → All IsFeature (laid fs id None)
unfolding laid
removed_laid fs id all =
    All-append IsFeature _ _ (All-filter (λ (g : Feature). is_before g.id id) IsFeature fs all)
    (All-append IsFeature [] _ (All-nil IsFeature) (All-filter (λ (g : Feature). is_before id g.id) IsFeature fs all))

part_holds : (kept : Durable) (part : Part) → IsPart part → IsHoldable kept → IsHoldable (part_played kept part)
unfolding part_played
part_holds kept (Put f) is hold = record { features = put_laid kept.features f is hold.features; stored = hold.stored; opening = hold.opening }
part_holds kept (Remove id) is hold = record { features = removed_laid kept.features id hold.features; stored = hold.stored; opening = hold.opening }

parts_hold : (kept : Durable) (parts : List Part) → All IsPart parts → IsHoldable kept → IsHoldable (fold part_played kept parts)
parts_hold kept [] all hold = hold
parts_hold kept (part ∷ parts) all hold = parts_hold (part_played kept part) parts (All-tail IsPart part parts all) (part_holds kept part (All-head IsPart part parts all) hold)

change_holds : (kept : Durable) (change : Change) (signature : List ℕ) → IsWritable change signature → IsHoldable kept → IsHoldable (played_one kept change)
unfolding played_one
change_holds kept (Opening opening) signature is hold = record { features = hold.features; stored = hold.stored; opening = is.0 }
change_holds kept (Rows parts) signature is hold = parts_hold kept parts is hold
change_holds kept (Created stored) signature is hold = record { features = hold.features; stored = All-append IsStored kept.stored stored hold.stored is; opening = hold.opening }
change_holds kept (Dropped id) signature is hold = record { features = hold.features; stored = All-filter (λ (query : StoredQuery). not (has_id id query)) IsStored kept.stored hold.stored; opening = hold.opening }
change_holds kept (Base opening counters) signature is hold = record { features = hold.features; stored = hold.stored; opening = is.0 }

-- ---- a change whose body reads back

with_queries : (queries : List StoredQuery) → All IsStored (map bare queries) → All IsStored queries
with_queries [] all = All-nil IsStored
with_queries (query ∷ queries) all =
    let first = All-head IsStored (bare query) (map bare queries) all in
    All-cons IsStored query queries (record { id = first.id; title = first.title; parameters = first.parameters; text = first.text }) (with_queries queries (All-tail IsStored (bare query) (map bare queries) all))

recorded_writable : (change : Change) (signature : List ℕ) → IsWritable (recorded_of change signature).change (text_or_empty (recorded_of change signature).signature) → IsWritable change signature
recorded_writable (Opening opening) signature is = is
recorded_writable (Rows parts) signature is = is
recorded_writable (Created stored) signature is = with_queries stored is
recorded_writable (Dropped id) signature is = is
recorded_writable (Base opening counters) signature is = is

pub appended_holds : (schema : Schema) (kept : Durable) (change : Change) (body : List ℕ) → AreBytes body → body ≡ body_in schema change → IsReadIn schema change → IsHoldable kept → IsHoldable (played_one kept change)
appended_holds schema kept change body bytes is back hold =
    let spelled = one_spelling (body_in schema change) (recorded_of change (signature_text schema)) (subst AreBytes is bytes) back in
    change_holds kept change (signature_text schema) (recorded_writable change (signature_text schema) spelled.writable) hold

-- ---- bodies

filled_stored : (schema : Schema) (stored now : StoredQuery) → IsStored stored → filled schema stored ≡ Ok now → IsStored now
unfolding filled
filled_stored schema stored now is come =
    let queries = bind_ok (asked_by schema stored) (λ queries. Ok (record stored { queries = queries })) now come in
    let there : IsStored (record stored { queries = queries.0 }) = record { id = is.id; title = is.title; parameters = is.parameters; text = is.text } in
    subst IsStored (ok_is ReplayFault (record stored { queries = queries.0 }) now queries.2) there

all_stored : (schema : Schema) (stored found all : List StoredQuery) → All IsStored stored → All IsStored found → each (next_filled schema) found stored ≡ Ok all → All IsStored all
unfolding each next_filled
all_stored schema [] found all are so_far is = subst (All IsStored) (ok_is ReplayFault found all is) so_far
all_stored schema (first ∷ stored) found all are so_far is =
    let one = bind_ok (next_filled schema found first) (λ more. each (next_filled schema) more stored) all is in
    let now = bind_ok (filled schema first) (λ now. Ok (found ++ now ∷ [])) one.0 one.1 in
    let here = filled_stored schema first now.0 (All-head IsStored first stored are) now.1 in
    let more : All IsStored one.0 = subst (All IsStored) (ok_is ReplayFault (found ++ now.0 ∷ []) one.0 now.2) (All-push IsStored found now.0 so_far here) in
    all_stored schema stored one.0 all (All-tail IsStored first stored are) more one.2

completed_writable : (schema : Schema) (change now : Change) (signature : List ℕ) → IsWritable change signature → completed schema change ≡ Ok now → IsWritable now signature
unfolding completed
completed_writable schema (Opening opening) now signature is come = subst (λ c. IsWritable c signature) (ok_is ReplayFault (Opening opening) now come) is
completed_writable schema (Rows parts) now signature is come = subst (λ c. IsWritable c signature) (ok_is ReplayFault (Rows parts) now come) is
completed_writable schema (Created stored) now signature is come =
    let all = bind_ok (each (next_filled schema) [] stored) (λ all. Ok (Created all)) now come in
    let are : IsWritable (Created all.0) signature = all_stored schema stored [] all.0 is (All-nil IsStored) all.1 in
    subst (λ c. IsWritable c signature) (ok_is ReplayFault (Created all.0) now all.2) are
completed_writable schema (Dropped id) now signature is come = subst (λ c. IsWritable c signature) (ok_is ReplayFault (Dropped id) now come) is
completed_writable schema (Base opening counters) now signature is come = subst (λ c. IsWritable c signature) (ok_is ReplayFault (Base opening counters) now come) is

bad_ok : {A E : Type 0} (r : Result A E) (x : A) → or_bad_bytes r ≡ Ok x → r ≡ Ok x
bad_ok (Ok y) x is = ap Ok (ok_is ReplayFault y x is)
bad_ok (Err fault) x is = absurd cc

-- a change that bytes say
said_writable : (schema : Schema) (body : List ℕ) (change : Change) → AreBytes body → change_in schema body ≡ Ok change → (signature : List ℕ) × IsWritable change signature
unfolding change_in
said_writable schema body change bytes is =
    let recorded = bind_ok (or_bad_bytes (record_of body)) _ change is in
    let signed = bind_ok (unless (not (is_signed schema recorded.0.signature)) NotOfSchema) _ change recorded.2 in
    let spelled = one_spelling body recorded.0 bytes (bad_ok (record_of body) recorded.0 recorded.1) in
    (text_or_empty recorded.0.signature, completed_writable schema recorded.0.change change (text_or_empty recorded.0.signature) spelled.writable signed.2)

taken_holds : (schema : Schema) (is_first : Bool) (kept now : Durable) (body : List ℕ) → AreBytes body → IsHoldable kept → kept_after schema is_first kept body ≡ Ok now → IsHoldable now
unfolding kept_after kept_with
taken_holds schema is_first kept now body bytes hold is =
    let change = bind_ok (change_in schema body) (λ change. kept_with schema is_first kept change) now is in
    let may = if_ok (may_stand is_first change.0 && is_playable schema kept change.0) (Ok (played_one kept change.0)) NotOfSchema now change.2 in
    let written = said_writable schema body change.0 bytes change.1 in
    subst IsHoldable (ok_is ReplayFault (played_one kept change.0) now may.1) (change_holds kept change.0 written.0 written.1 hold)

all_hold : (schema : Schema) (is_first : Bool) (kept now : Durable) (bodies : List (List ℕ)) → All AreBytes bodies → IsHoldable kept → kept_after_all schema is_first kept bodies ≡ Ok now → IsHoldable now
unfolding kept_after_all
all_hold schema is_first kept now [] bytes hold is = subst IsHoldable (ok_is ReplayFault kept now is) hold
all_hold schema is_first kept now (body ∷ bodies) bytes hold is =
    let one = bind_ok (kept_after schema is_first kept body) (λ next. kept_after_all schema false next bodies) now is in
    all_hold schema false one.0 now bodies (All-tail AreBytes body bodies bytes) (taken_holds schema is_first kept one.0 body (All-head AreBytes body bodies bytes) hold one.1) one.2

pub come_holds : (schema : Schema) (kept : Durable) (bodies : List (List ℕ)) → All AreBytes bodies → ComeTo schema kept bodies → IsHoldable kept
unfolding replayed
come_holds schema kept bodies bytes is =
    all_hold schema true (nothing (length schema.types)) kept bodies bytes (record { features = All-nil IsFeature; stored = All-nil IsStored; opening = omega arith }) is

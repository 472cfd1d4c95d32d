-- Events one after the other.
use Rattle.std.proofs.Common.{◌≡◌, ℕ, zero, suc, ◌≤◌, Bool, true, false, List, [], ◌∷◌, ◌++◌, length, replicate, All, Option, Some, None, Ok, refl, sym, ap, ◌∙◌, subst, append_assoc, arith}
use Rattle.std.specs.Prelude.{if◌then◌else◌, is_some}
use Rattle.std.specs.Option.{option_to_list}
use Rattle.std.proofs.lemmas.List.{length-replicate}
use Rattle.std.proofs.lemmas.List.Elements.{All-nil, All-head, All-tail}
use Rattle.feature_values.specs.declared.feature.Feature.{Feature}
use Rattle.feature_values.specs.declared.schema.Schema.{Schema}
use Rattle.feature_values.specs.Fits.{feature_fits}
use Rattle.wfs_model.specs.declared.change.Change.{Change}
use Rattle.wfs_model.specs.declared.entry.Entry.{Entry}
use Rattle.wfs_model.specs.declared.stored.StoredQuery.{StoredQuery}
use Rattle.wfs_model.specs.Kept.{IsGiven, IsKept}
use Rattle.wfs_model.specs.OfSchema.{IsStoredOf}
use Rattle.wfs_model.specs.State.{durable, nothing}
use Rattle.wfs_model.specs.Stored.{is_id_query}
use Rattle.wfs_model.proofs.Middle.{append_none}
use Rattle.wfs_world.specs.declared.event.Event.{Event}
use Rattle.wfs_world.specs.declared.event.Event.TheVariants.{Arrive, Take, Put, Enter, Leave, Read, Crash, Reopen}
use Rattle.wfs_world.specs.declared.event.PutOutcome.{PutOutcome}
use Rattle.wfs_world.specs.declared.turn.Stage.{Stage}
use Rattle.wfs_world.specs.declared.turn.Stage.TheVariants.{Taken, Put as IsPut, Faulted, Entered}
use Rattle.wfs_world.specs.declared.turn.Turn.{Turn}
use Rattle.wfs_world.specs.Events.{MayHappen, taken, added, put, entered, happened, IsEventOf, MayAllHappen, all_happened}
use Rattle.wfs_world.specs.Kept.{ArePlayed, IsUp, IsWell}
use Rattle.wfs_world.specs.Scene.{Scene, first_scene, opening_of, change_in, stage_of}
use Rattle.wfs_world.specs.Sound.{told, pending_at, pending_in, pending, IsSound, Begins, IsRecovered, IsReached}
use Rattle.wfs_world.proofs.Worlds.{happened_well, opened_well}

-- ---- what no event changes

taken_schema : (w : Scene) (line : List Entry) → (taken w line).schema ≡ w.schema
taken_schema w [] = refl
taken_schema w (entry ∷ line) = refl

put_schema : (w : Scene) (seat : ℕ) (outcome : PutOutcome) (o : Option Stage) → (put w seat outcome o).schema ≡ w.schema
put_schema w seat outcome None = refl
put_schema w seat outcome (Some (Taken entry)) = refl
put_schema w seat outcome (Some (IsPut entry)) = refl
put_schema w seat outcome (Some Faulted) = refl
put_schema w seat outcome (Some (Entered reply)) = refl

entered_schema : (w : Scene) (seat : ℕ) (o : Option Stage) → (entered w seat o).schema ≡ w.schema
entered_schema w seat None = refl
entered_schema w seat (Some (Taken entry)) = refl
entered_schema w seat (Some (IsPut entry)) = refl
entered_schema w seat (Some Faulted) = refl
entered_schema w seat (Some (Entered reply)) = refl

pub same_schema : (w : Scene) (event : Event) → (happened w event).schema ≡ w.schema
same_schema w (Arrive seat moment size request) = refl
same_schema w (Take seat) = taken_schema w w.line
same_schema w (Put seat outcome) = put_schema w seat outcome (stage_of w seat)
same_schema w (Enter seat) = entered_schema w seat (stage_of w seat)
same_schema w (Leave seat) = refl
same_schema w (Read seat front moment request) = refl
same_schema w (Crash with_begun) = refl
same_schema w Reopen = refl

-- ---- the journal grows

no_more : (w : Scene) → Begins w.journal w.journal
no_more w = record { rest = []; is = sym (append_none w.journal) }

taken_begins : (w : Scene) (line : List Entry) → Begins (taken w line).journal w.journal
taken_begins w [] = no_more w
taken_begins w (entry ∷ line) = no_more w

put_begins : (w : Scene) (seat : ℕ) (outcome : PutOutcome) (o : Option Stage) → Begins (put w seat outcome o).journal w.journal
put_begins w seat outcome None = no_more w
put_begins w seat outcome (Some (Taken entry)) = record { rest = added (change_in w entry) outcome; is = refl }
put_begins w seat outcome (Some (IsPut entry)) = no_more w
put_begins w seat outcome (Some Faulted) = no_more w
put_begins w seat outcome (Some (Entered reply)) = no_more w

entered_begins : (w : Scene) (seat : ℕ) (o : Option Stage) → Begins (entered w seat o).journal w.journal
entered_begins w seat None = no_more w
entered_begins w seat (Some (Taken entry)) = no_more w
entered_begins w seat (Some (IsPut entry)) = no_more w
entered_begins w seat (Some Faulted) = no_more w
entered_begins w seat (Some (Entered reply)) = no_more w

grows : (w : Scene) (event : Event) → Begins (happened w event).journal w.journal
grows w (Arrive seat moment size request) = no_more w
grows w (Take seat) = taken_begins w w.line
grows w (Put seat outcome) = put_begins w seat outcome (stage_of w seat)
grows w (Enter seat) = entered_begins w seat (stage_of w seat)
grows w (Leave seat) = no_more w
grows w (Read seat front moment request) = no_more w
grows w (Crash with_begun) = record { rest = if with_begun then option_to_list w.begun else []; is = refl }
grows w Reopen = no_more w

all_grow : (w : Scene) (events : List Event) → Begins (all_happened w events).journal w.journal
all_grow w [] = no_more w
all_grow w (event ∷ events) =
    let first : Begins (happened w event).journal w.journal = grows w event in
    let later : Begins (all_happened (happened w event) events).journal (happened w event).journal = all_grow (happened w event) events in
    record { rest = first.rest ++ later.rest; is = later.is ∙ ap (λ l. l ++ later.rest) first.is ∙ append_assoc w.journal first.rest later.rest }

-- ---- from the beginning

nothing_kept : (schema : Schema) → IsKept schema (nothing (length schema.types))
nothing_kept schema = record {
  order = tt;
  fitting = All-nil (λ (f : Feature). feature_fits schema f ≡ Ok tt);
  given = All-nil (λ (f : Feature). IsGiven (replicate (length schema.types) 0) f.id);
  counters = length-replicate (length schema.types) 0;
  stored = All-nil (IsStoredOf schema);
  different = λ i j d lt within. absurd (omega (arith, within));
  made = All-nil (λ (query : StoredQuery). is_id_query query.id ≡ false);
}

none_played : (schema : Schema) → ArePlayed schema []
none_played schema zero = nothing_kept schema
none_played schema (suc n) = nothing_kept schema

pub all_well : (w : Scene) (events : List Event) → IsWell w → All (IsEventOf w.schema) events → MayAllHappen w events → IsWell (all_happened w events)
all_well w [] well of may = well
all_well w (event ∷ events) well of may =
    all_well (happened w event) events (happened_well w event well (All-head (IsEventOf w.schema) event events of) may.0)
    (subst (λ (schema : Schema). All (IsEventOf schema) events) (sym (same_schema w event)) (All-tail (IsEventOf w.schema) event events of)) may.1

pub first_well : (schema : Schema) (seats : ℕ) → IsWell (first_scene schema seats)
first_well schema seats = opened_well schema seats 1 [] (none_played schema)

pub reached_well : (events : List Event) (w : Scene) → IsReached events w → IsWell w
reached_well events w reached =
    subst IsWell (sym reached.is) (all_well (first_scene w.schema w.seats) events (first_well w.schema w.seats) reached.of reached.may)

-- ---- laws

pub is_sound : (events : List Event) (w : Scene) → IsReached events w → w.is_up ≡ true → IsSound w
is_sound events w reached up = ((reached_well events w reached).up up).sound

pub stays : (events more : List Event) (w : Scene) → IsReached events w → w.is_up ≡ true → Begins (all_happened w more).journal (told w)
stays events more w reached up =
    let sound : IsSound w = is_sound events w reached up in
    let later : Begins (all_happened w more).journal w.journal = all_grow w more in
    record { rest = pending w ++ later.rest; is = later.is ∙ ap (λ l. l ++ later.rest) sound.journal ∙ append_assoc (told w) (pending w) later.rest }

short : (o : Option Change) → length (option_to_list o) ≤ 1
short None = omega arith
short (Some c) = omega arith

stage_short : (w : Scene) (stage : Stage) → length (pending_at w stage) ≤ 1
stage_short w (Taken entry) = omega arith
stage_short w (IsPut entry) = short (change_in w entry)
stage_short w Faulted = omega arith
stage_short w (Entered reply) = omega arith

turn_short : (w : Scene) (turn : Option Turn) → length (pending_in w turn) ≤ 1
turn_short w None = omega arith
turn_short w (Some turn) = stage_short w turn.stage

found_short : (w : Scene) (b : Bool) (o : Option Change) → (is_some o ≡ true → pending w ≡ []) → length (pending w ++ (if b then option_to_list o else [])) ≤ 1
found_short w true None apart = rw (append_none (pending w)) (turn_short w w.turn)
found_short w true (Some c) apart = rw (apart refl) (omega arith)
found_short w false o apart = rw (append_none (pending w)) (turn_short w w.turn)

pub recovered : (events : List Event) (w : Scene) (with_begun : Bool) → IsReached events w → MayHappen w (Crash with_begun)
    → IsRecovered w (happened w (Crash with_begun)).journal (durable (opening_of (happened (happened w (Crash with_begun)) Reopen)))
recovered events w with_begun reached may =
    let up : IsUp w = (reached_well events w reached).up may.0 in
    record {
      kept = refl;
      rest = pending w ++ (if with_begun then option_to_list w.begun else []);
      list = ap (λ l. l ++ (if with_begun then option_to_list w.begun else [])) up.sound.journal ∙ append_assoc (told w) (pending w) (if with_begun then option_to_list w.begun else []);
      one = found_short w with_begun w.begun up.apart;
    }

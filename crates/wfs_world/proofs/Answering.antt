-- What a world keeps through an event, and how calls answer it.
use Rattle.std.proofs.Common.{◌≡◌, ℕ, zero, suc, true, List, [], ◌∷◌, ◌++◌, take, Option, Some, None, Ok, Err, refl, sym, ap, ◌∙◌, subst}
use Rattle.feature_values.specs.declared.schema.Schema.{Schema}
use Rattle.wfs_model.specs.declared.change.Change.{Change}
use Rattle.wfs_model.specs.declared.entry.Entry.{Entry}
use Rattle.wfs_model.specs.Changing.{IsChange}
use Rattle.wfs_model.specs.History.{stepped}
use Rattle.wfs_model.specs.Played.{change_of}
use Rattle.wfs_model.specs.State.{State, Machine, first_machine, opened, moment_in}
use Rattle.wfs_world.specs.declared.event.Event.{Event}
use Rattle.wfs_world.specs.declared.event.Event.TheVariants.{Put}
use Rattle.wfs_world.specs.declared.event.Seen.{Seen}
use Rattle.wfs_world.specs.declared.event.PutOutcome.{PutOutcome}
use Rattle.wfs_world.specs.declared.event.WorldFault.TheVariants.{NotNow, OutOfMemory}
use Rattle.wfs_world.specs.declared.turn.Stage.{Stage}
use Rattle.wfs_world.specs.declared.turn.Stage.TheVariants.{Taken, Put as IsPut, Faulted, Entered}
use Rattle.wfs_world.specs.declared.turn.Turn.{Turn}
use Rattle.wfs_world.specs.Events.{IsOutcome, MayPut, MayHappen, taken, stage_after, added, begun_after, put, happened, seen, IsEventOf}
use Rattle.wfs_world.specs.Happening.{Happens}
use Rattle.wfs_world.specs.Kept.{AreSteps, IsWell, IsRunning}
use Rattle.wfs_world.specs.Scene.{Scene, first_scene, kept_by, opening_of, state_of, change_in, stage_of}
use Rattle.wfs_world.specs.Turns.{turn_put, put_as}
use Rattle.wfs_world.proofs.Leading.{same_schema, first_well}
use Rattle.wfs_world.proofs.Worlds.{turn_is, happened_well}

-- ---- answers

pub happens : (old view now : Scene) (event : Event) (s : Seen) → view ≡ old → MayHappen view event → now ≡ happened view event → s ≡ seen view event → Happens old event (Ok s) now
happens old view now event s is may left sees = record {
  may = subst (λ (w : Scene). MayHappen w event) is may;
  left = left ∙ ap (λ (w : Scene). happened w event) is;
  seen = sees ∙ ap (λ (w : Scene). seen w event) is;
  not_now = λ bad. absurd cc;
  err = tt;
}

pub not_now : (old view now : Scene) (event : Event) → view ≡ old → now ≡ view → (MayHappen view event → ⊥) → Happens old event (Err NotNow) now
not_now old view now event is same may_not = record {
  may = tt;
  left = tt;
  seen = tt;
  not_now = λ said may. may_not (subst (λ (w : Scene). MayHappen w event) (sym is) may);
  err = same ∙ is;
}

pub no_memory : (old view now : Scene) (event : Event) → view ≡ old → now ≡ view → Happens old event (Err OutOfMemory) now
no_memory old view now event is same = record {
  may = tt;
  left = tt;
  seen = tt;
  not_now = λ said. absurd cc;
  err = same ∙ is;
}

-- ---- worlds

-- the world behind an event, with a machine that is in the state after its history
pub runs_on : (old now : Scene) (event : Event) (machine next : Machine) → IsRunning old machine → IsEventOf old.schema event → MayHappen old event → now ≡ happened old event → next.schema ≡ machine.schema → (now.is_up ≡ true → next.state ≡ state_of now) → IsRunning now next
runs_on old now event machine next running of may is same state = record {
  well = subst IsWell (sym is) (happened_well old event running.well of may);
  schema = same ∙ running.schema ∙ sym (ap (λ (w : Scene). w.schema) is ∙ same_schema old event);
  state = state;
}

-- the same behind an event that leaves the history
pub runs_same : (old now : Scene) (event : Event) (machine : Machine) → IsRunning old machine → IsEventOf old.schema event → MayHappen old event → now ≡ happened old event → old.is_up ≡ true → state_of (happened old event) ≡ state_of old → IsRunning now machine
runs_same old now event machine running of may is up same =
    runs_on old now event machine machine running of may is refl (λ is_up. running.state up ∙ sym (ap (λ (w : Scene). state_of w) is ∙ same))

pub taken_same : (w : Scene) (line : List Entry) → state_of (taken w line) ≡ state_of w
taken_same w [] = refl
taken_same w (entry ∷ line) = refl

pub put_same : (w : Scene) (seat : ℕ) (outcome : PutOutcome) (o : Option Stage) → state_of (put w seat outcome o) ≡ state_of w
put_same w seat outcome None = refl
put_same w seat outcome (Some (Taken entry)) = refl
put_same w seat outcome (Some (IsPut entry)) = refl
put_same w seat outcome (Some Faulted) = refl
put_same w seat outcome (Some (Entered reply)) = refl

-- ---- puts

-- the change that the machine tells is that of the request
pub change_is : (w : Scene) (machine : Machine) (entry : Entry) (change : Option Change) → IsRunning w machine → w.is_up ≡ true → change ≡ change_of machine.schema machine.state (moment_in machine.state entry.moment) entry.request → change ≡ change_in w entry
change_is w machine entry change running up is =
    let schemas : machine.schema ≡ w.schema = running.schema in
    let states : machine.state ≡ state_of w = running.state up in
    rw (schemas, states) at is

pub may_put : (w : Scene) (seat : ℕ) (entry : Entry) (change : Option Change) (outcome : PutOutcome) → w.is_up ≡ true → stage_of w seat ≡ Some (Taken entry) → IsChange entry.request → change ≡ change_in w entry → IsOutcome w.begun change outcome
    → MayHappen w (Put seat outcome)
may_put w seat entry change outcome up stage changing is may =
    (up, subst (MayPut w outcome) (sym stage) (changing, subst (λ (o : Option Change). IsOutcome w.begun o outcome) is may))

pub put_is : (w : Scene) (seat : ℕ) (entry : Entry) (change : Option Change) (outcome : PutOutcome) → stage_of w seat ≡ Some (Taken entry) → change ≡ change_in w entry → put_as w change outcome ≡ put w seat outcome (stage_of w seat)
put_is w seat entry change outcome stage is =
    ap (λ (t : Option Turn). record w { turn = turn_put t outcome; journal = w.journal ++ added change outcome; begun = begun_after w.begun change outcome }) (turn_is seat w.turn (Taken entry) stage)
    ∙ ap (λ (o : Option Change). record w { turn = Some (record { seat = seat; stage = stage_after entry outcome }); journal = w.journal ++ added o outcome; begun = begun_after w.begun o outcome }) is
    ∙ ap (put w seat outcome) (sym stage)

-- ---- reads

pub steps_take : (schema : Schema) (state : State) (entries : List Entry) (n : ℕ) → AreSteps schema state entries → AreSteps schema state (take n entries)
steps_take schema state [] zero steps = tt
steps_take schema state [] (suc n) steps = tt
steps_take schema state (entry ∷ entries) zero steps = tt
steps_take schema state (entry ∷ entries) (suc n) steps = (steps.0, steps.1, steps.2, steps.3, steps_take schema (stepped schema state entry) entries n steps.4)

-- a machine that has just opened on what was found can take the steps of the history
pub steps_on : (w : Scene) (machine : Machine) (schema : Schema) (found : List Change) (number : ℕ) (entries : List Entry) (n : ℕ) → IsWell w → w.is_up ≡ true → machine ≡ record { schema = schema; state = opened (kept_by schema found) number }
    → schema ≡ w.schema → found ≡ w.found → number ≡ w.number → entries ≡ w.entries → AreSteps machine.schema machine.state (take n entries)
steps_on w machine schema found number entries n well up is schemas founds numbers lists =
    let steps : AreSteps w.schema (opening_of w) (take n w.entries) = steps_take w.schema (opening_of w) w.entries n (well.up up).steps in
    let at_entries : AreSteps w.schema (opening_of w) (take n entries) = subst (λ (l : List Entry). AreSteps w.schema (opening_of w) (take n l)) (sym lists) steps in
    let at_number : AreSteps w.schema (opened (kept_by w.schema w.found) number) (take n entries) = subst (λ (i : ℕ). AreSteps w.schema (opened (kept_by w.schema w.found) i) (take n entries)) (sym numbers) at_entries in
    let at_found : AreSteps w.schema (opened (kept_by w.schema found) number) (take n entries) = subst (λ (l : List Change). AreSteps w.schema (opened (kept_by w.schema l) number) (take n entries)) (sym founds) at_number in
    let at_schema : AreSteps schema (opened (kept_by schema found) number) (take n entries) = subst (λ (s : Schema). AreSteps s (opened (kept_by s found) number) (take n entries)) (sym schemas) at_found in
    subst (λ (m : Machine). AreSteps m.schema m.state (take n entries)) (sym is) at_schema

-- ---- beginnings

pub begins : (w : Scene) (machine : Machine) (schema copy : Schema) (seats : ℕ) → w ≡ first_scene schema seats → machine ≡ first_machine copy → copy ≡ schema → IsRunning w machine
begins w machine schema copy seats is machines copies =
    let first : machine ≡ first_machine schema = machines ∙ ap (λ (s : Schema). first_machine s) copies in
    subst (λ (v : Scene). IsRunning v machine) (sym is) (subst (λ (m : Machine). IsRunning (first_scene schema seats) m) (sym first) (record {
      well = first_well schema seats;
      schema = refl;
      state = λ up. refl;
    }))

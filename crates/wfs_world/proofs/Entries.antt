-- The request in turn enters the history.
use Rattle.std.proofs.Common.{◌≡◌, ℕ, ◌+◌, Bool, true, false, List, [], ◌∷◌, ◌++◌, length, Option, Some, None, sym, ap, ◌∙◌, set, length-set}
use Rattle.std.specs.Prelude.{◌==◌, if◌then◌else◌}
use Rattle.std.specs.Option.{option_to_list}
use Rattle.std.proofs.lemmas.List.{length_push}
use Rattle.wfs_model.specs.declared.entry.Entry.{Entry}
use Rattle.wfs_model.specs.declared.reply.Reply.{Reply}
use Rattle.wfs_model.specs.History.{timed, reply_after}
use Rattle.wfs_model.specs.State.{State, Machine, moment_in}
use Rattle.wfs_model.specs.Step.{step}
use Rattle.wfs_world.specs.declared.turn.Stage.{Stage}
use Rattle.wfs_world.specs.declared.turn.Stage.TheVariants.{Taken, Put as IsPut, Faulted, Entered}
use Rattle.wfs_world.specs.declared.turn.Turn.{Turn}
use Rattle.wfs_world.specs.Events.{MayEnter, entered}
use Rattle.wfs_world.specs.Kept.{IsMet}
use Rattle.wfs_world.specs.Scene.{Scene, opening_of, state_of, stage_in, stage_of}
use Rattle.wfs_world.specs.Turns.{put_at, put_in, at_moment}

stage_is : (b : Bool) (stage : Stage) (entry : Entry) → (let o : Option Stage = if b then Some stage else None in MayEnter o) → put_at stage ≡ Some entry → (let o : Option Stage = if b then Some stage else None in o) ≡ Some (IsPut entry)
stage_is true (Taken e) entry may is = absurd may
stage_is true (IsPut e) entry may is = let same : e ≡ entry = cc in ap (λ (x : Entry). Some (IsPut x)) same
stage_is true Faulted entry may is = absurd may
stage_is true (Entered reply) entry may is = absurd may
stage_is false stage entry may is = absurd may

put_stage : (seat : ℕ) (o : Option Turn) (entry : Entry) → MayEnter (stage_in seat o) → put_in o ≡ Some entry → stage_in seat o ≡ Some (IsPut entry)
put_stage seat None entry may is = absurd may
put_stage seat (Some turn) entry may is = stage_is (turn.seat == seat) turn.stage entry may is

-- the reply of the machine's step is that of the history
reply_is : (w : Scene) (machine : Machine) (next : State) (entry : Entry) (reply : Reply) → IsMet w machine → (reply, next) ≡ step machine.schema machine.state (moment_in machine.state entry.moment) entry.request
    → reply ≡ reply_after w.schema (opening_of w) w.entries (timed (state_of w) entry)
reply_is w machine next entry reply met says =
    let schemas = met.schema in
    let states = met.state in
    ap (λ (d : Reply × State). d.0) (rw (schemas, states) at says)

pub entered_is : (w : Scene) (seat : ℕ) (entry : Entry) (machine : Machine) (next : State) (moment : ℕ) (reply : Reply) (entries : List Entry) (fronts : List ℕ) → w.seats ≡ length w.fronts → IsMet w machine → MayEnter (stage_of w seat)
    → put_in w.turn ≡ Some entry → moment ≡ moment_in machine.state entry.moment → (reply, next) ≡ step machine.schema machine.state (moment_in machine.state entry.moment) entry.request
    → entries ≡ w.entries ++ option_to_list (at_moment moment (put_in w.turn)) → fronts ≡ set w.fronts seat (length entries)
    → record w { seats = length fronts; entries = entries; fronts = fronts; turn = Some (record { seat = seat; stage = Entered reply }) } ≡ entered w seat (stage_of w seat)
entered_is w seat entry machine next moment reply entries fronts seats met may is moments says adds sees =
    let stage : stage_of w seat ≡ Some (IsPut entry) = put_stage seat w.turn entry may is in
    let at_state : moment ≡ moment_in (state_of w) entry.moment = moments ∙ ap (λ (s : State). moment_in s entry.moment) met.state in
    let now : entries ≡ w.entries ++ timed (state_of w) entry ∷ [] =
    adds ∙ ap (λ (o : Option Entry). w.entries ++ option_to_list (at_moment moment o)) is ∙ ap (λ (m : ℕ). w.entries ++ record entry { moment = m } ∷ []) at_state in
    let count : length entries ≡ length w.entries + 1 = ap (λ (l : List Entry). length l) now ∙ length_push w.entries (timed (state_of w) entry) in
    let fronts_now : fronts ≡ set w.fronts seat (length w.entries + 1) = sees ∙ ap (λ (n : ℕ). set w.fronts seat n) count in
    let seats_now : length fronts ≡ w.seats = ap (λ (l : List ℕ). length l) sees ∙ length-set w.fronts seat (length entries) ∙ sym seats in
    ap (λ (n : ℕ). record w { seats = n; entries = entries; fronts = fronts; turn = Some (record { seat = seat; stage = Entered reply }) }) seats_now
    ∙ ap (λ (l : List Entry). record w { entries = l; fronts = fronts; turn = Some (record { seat = seat; stage = Entered reply }) }) now
    ∙ ap (λ (l : List ℕ). record w { entries = w.entries ++ timed (state_of w) entry ∷ []; fronts = l; turn = Some (record { seat = seat; stage = Entered reply }) }) fronts_now
    ∙ ap (λ (r : Reply). record w { entries = w.entries ++ timed (state_of w) entry ∷ []; fronts = set w.fronts seat (length w.entries + 1); turn = Some (record { seat = seat; stage = Entered r }) }) (reply_is w machine next entry reply met says)
    ∙ ap (entered w seat) (sym stage)

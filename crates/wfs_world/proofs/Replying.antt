-- What ends of turns answer is what the history replies.
use Rattle.std.proofs.Common.{◌≡◌, ℕ, true, List, [], ◌∷◌, ◌++◌, Option, Some, None, refl, sym, ap, ◌∙◌, subst}
use Rattle.std.proofs.lemmas.Bool.{true≢false}
use Rattle.wfs_model.specs.declared.entry.Entry.{Entry}
use Rattle.wfs_model.specs.declared.reply.Reply.{Reply}
use Rattle.wfs_model.specs.History.{timed, replies, reply_after}
use Rattle.wfs_model.proofs.Middle.{append_none}
use Rattle.wfs_world.specs.declared.event.Event.{Event}
use Rattle.wfs_world.specs.declared.event.Event.TheVariants.{Arrive, Take, Put, Enter, Leave, Read, Crash, Reopen}
use Rattle.wfs_world.specs.declared.event.PutOutcome.{PutOutcome}
use Rattle.wfs_world.specs.declared.event.PutOutcome.TheVariants.{NotNeeded, Done, FaultClean, FaultBegun, FaultHeld}
use Rattle.wfs_world.specs.declared.turn.Stage.{Stage}
use Rattle.wfs_world.specs.declared.turn.Stage.TheVariants.{Taken, Put as IsPut, Faulted, Entered}
use Rattle.wfs_world.specs.declared.turn.Turn.{Turn}
use Rattle.wfs_world.specs.Events.{IsFirst, MayPut, MayEnter, MayLeave, MayHappen, MayAllHappen, taken, stage_after, put, entered, happened, all_happened, seen_at_last}
use Rattle.wfs_world.specs.Scene.{Scene, first_scene, opening_of, state_of, stage_of}
use Rattle.wfs_world.specs.Sound.{IsReached, unanswered_at, unanswered, answer_in, answered_by, all_answered}
use Rattle.wfs_world.proofs.Histories.{replies_more}
use Rattle.wfs_world.proofs.Worlds.{turn_is}

abbrev all_replies : Scene → List Reply
all_replies w = replies w.schema (opening_of w) w.entries

-- the history replies what was answered, and then to the request in turn
abbrev Tells : List Reply → Scene → Type 0
Tells before w = all_replies w ≡ before ++ unanswered w.turn

tells_at : (before : List Reply) (w : Scene) (turn : Option Turn) → w.turn ≡ turn → Tells before w → all_replies w ≡ before ++ unanswered turn
tells_at before w turn is tells = tells ∙ ap (λ (t : Option Turn). before ++ unanswered t) is

take_tells : (before : List Reply) (w : Scene) (seat : ℕ) (line : List Entry) → IsFirst seat line → w.turn ≡ None → Tells before w → Tells before (taken w line)
take_tells before w seat [] first none tells = absurd first
take_tells before w seat (entry ∷ line) first none tells = tells_at before w None none tells

after_put : (entry : Entry) (outcome : PutOutcome) → unanswered_at (stage_after entry outcome) ≡ []
after_put entry NotNeeded = refl
after_put entry Done = refl
after_put entry FaultClean = refl
after_put entry FaultBegun = refl
after_put entry FaultHeld = refl

put_tells : (before : List Reply) (w : Scene) (seat : ℕ) (outcome : PutOutcome) (o : Option Stage) → stage_of w seat ≡ o → MayPut w outcome o → Tells before w → Tells before (put w seat outcome o)
put_tells before w seat outcome None is may tells = absurd may
put_tells before w seat outcome (Some (Taken entry)) is may tells =
    tells_at before w (Some (record { seat = seat; stage = Taken entry })) (turn_is seat w.turn (Taken entry) is) tells ∙ ap (λ l. before ++ l) (sym (after_put entry outcome))
put_tells before w seat outcome (Some (IsPut entry)) is may tells = absurd may
put_tells before w seat outcome (Some Faulted) is may tells = absurd may
put_tells before w seat outcome (Some (Entered reply)) is may tells = absurd may

enter_tells : (before : List Reply) (w : Scene) (seat : ℕ) (o : Option Stage) → stage_of w seat ≡ o → MayEnter o → Tells before w → Tells before (entered w seat o)
enter_tells before w seat None is may tells = absurd may
enter_tells before w seat (Some (Taken entry)) is may tells = absurd may
enter_tells before w seat (Some (IsPut entry)) is may tells =
    replies_more w.schema (opening_of w) w.entries (timed (state_of w) entry)
    ∙ ap (λ (l : List Reply). l ++ reply_after w.schema (opening_of w) w.entries (timed (state_of w) entry) ∷ []) (tells_at before w (Some (record { seat = seat; stage = IsPut entry })) (turn_is seat w.turn (IsPut entry) is) tells ∙ append_none before)
enter_tells before w seat (Some Faulted) is may tells = absurd may
enter_tells before w seat (Some (Entered reply)) is may tells = absurd may

-- what is seen at the end of a turn is the reply that was not answered yet
answers_rest : (stage : Stage) → MayLeave (Some stage) → answer_in (seen_at_last (Some stage)) ≡ unanswered_at stage
answers_rest (Taken entry) may = refl
answers_rest (IsPut entry) may = absurd may
answers_rest Faulted may = refl
answers_rest (Entered reply) may = refl

leave_tells : (before : List Reply) (w : Scene) (seat : ℕ) (o : Option Stage) → stage_of w seat ≡ o → MayLeave o → Tells before w → all_replies w ≡ (before ++ answer_in (seen_at_last o)) ++ []
leave_tells before w seat None is may tells = absurd may
leave_tells before w seat (Some stage) is may tells =
    tells_at before w (Some (record { seat = seat; stage = stage })) (turn_is seat w.turn stage is) tells
    ∙ ap (λ l. before ++ l) (sym (answers_rest stage may)) ∙ sym (append_none (before ++ answer_in (seen_at_last (Some stage))))

tells_on : (before : List Reply) (w : Scene) (event : Event) → MayHappen w event → (w.is_up ≡ true → Tells before w) → (happened w event).is_up ≡ true → Tells (answered_by before w event) (happened w event)
tells_on before w (Arrive seat moment size request) may tells up = tells may.0
tells_on before w (Take seat) may tells up = take_tells before w seat w.line may.1 may.2 (tells may.0)
tells_on before w (Put seat outcome) may tells up = put_tells before w seat outcome (stage_of w seat) refl may.1 (tells may.0)
tells_on before w (Enter seat) may tells up = enter_tells before w seat (stage_of w seat) refl may.1 (tells may.0)
tells_on before w (Leave seat) may tells up = leave_tells before w seat (stage_of w seat) refl may.1 (tells may.0)
tells_on before w (Read seat front moment request) may tells up = tells may.0
tells_on before w (Crash with_begun) may tells up = absurd (true≢false (sym up))
tells_on before w Reopen may tells up = refl

all_tell : (before : List Reply) (w : Scene) (events : List Event) → MayAllHappen w events → (w.is_up ≡ true → Tells before w) → (all_happened w events).is_up ≡ true → Tells (all_answered before w events) (all_happened w events)
all_tell before w [] may tells up = tells up
all_tell before w (event ∷ events) may tells up = all_tell (answered_by before w event) (happened w event) events may.1 (tells_on before w event may.0 tells) up

pub answers_are : (events : List Event) (w : Scene) → IsReached events w → w.is_up ≡ true → replies w.schema (opening_of w) w.entries ≡ all_answered [] (first_scene w.schema w.seats) events ++ unanswered w.turn
answers_are events w reached up =
    let first : Scene = first_scene w.schema w.seats in
    subst (λ (now : Scene). all_replies now ≡ all_answered [] first events ++ unanswered now.turn) (sym reached.is)
    (all_tell [] first events reached.may (λ is_up. refl) (sym (ap (λ (now : Scene). now.is_up) reached.is) ∙ up))

-- Each event leaves a world well that was so.
use Rattle.std.proofs.Common.{◌≡◌, ℕ, ◌+◌, ◌≤◌, Bool, true, false, List, [], ◌∷◌, ◌++◌, length, take, All, Option, Some, None, refl, sym, ap, ◌∙◌, subst, set, append_assoc, length-set, arith}
use Rattle.std.specs.Prelude.{◌==◌, if◌then◌else◌, is_some}
use Rattle.std.specs.Option.{option_to_list, IfSome}
use Rattle.std.proofs.lemmas.Bool.{true≢false}
use Rattle.std.proofs.Math.Seq.{take-append_seam}
use Rattle.std.proofs.lemmas.List.{length-replicate, length_push}
use Rattle.std.proofs.lemmas.List.Elements.{All-nil, All-head, All-tail, All-weaker, All-push, All-set, All-replicate}
use Rattle.feature_values.specs.declared.schema.Schema.{Schema}
use Rattle.wfs_model.specs.declared.change.Change.{Change}
use Rattle.wfs_model.specs.declared.entry.Entry.{Entry}
use Rattle.wfs_model.specs.Changing.{IsChange}
use Rattle.wfs_model.specs.History.{stepped, after_all, timed}
use Rattle.wfs_model.specs.Kept.{IsKept}
use Rattle.wfs_model.specs.OfSchema.{IsOfSchema}
use Rattle.wfs_model.specs.Played.{accepted, played, played_one}
use Rattle.wfs_model.specs.State.{State, durable, last_moment, moment_in}
use Rattle.wfs_model.proofs.Middle.{append_none}
use Rattle.wfs_model.proofs.Refusing.{step_moment}
use Rattle.wfs_world.specs.declared.event.Event.{Event}
use Rattle.wfs_world.specs.declared.event.Event.TheVariants.{Arrive, Take, Put, Enter, Leave, Read, Crash, Reopen}
use Rattle.wfs_world.specs.declared.event.PutOutcome.{PutOutcome}
use Rattle.wfs_world.specs.declared.event.PutOutcome.TheVariants.{NotNeeded, Done, FaultClean, FaultBegun, FaultHeld}
use Rattle.wfs_world.specs.declared.turn.Stage.{Stage}
use Rattle.wfs_world.specs.declared.turn.Stage.TheVariants.{Taken, Put as IsPut, Faulted, Entered}
use Rattle.wfs_world.specs.declared.turn.Turn.{Turn}
use Rattle.wfs_world.specs.Events.{IsFirst, IsOutcome, MayPut, MayEnter, MayLeave, MayHappen, taken, stage_after, added, begun_after, put, entered, crashed, happened, IsEventOf}
use Rattle.wfs_world.specs.Kept.{ArePlayed, AreSteps, IsStageOf, IsUp, IsWell}
use Rattle.wfs_world.specs.Scene.{Scene, kept_by, opened_on, opening_of, state_of, change_in, stage_in, stage_of}
use Rattle.wfs_world.specs.Sound.{told, pending_at, pending_in, pending}
use Rattle.wfs_world.proofs.Histories.{after_more, accepted_more, IsStep, steps_more, legal_steps}
use Rattle.wfs_world.proofs.Journals.{under, step_same, change_keeps, kept_more, all_played, played_more}

abbrev Asks : Schema → Entry → Type 0
Asks schema entry = IsOfSchema schema entry.request

not_both : {X : Type 0} (b : Bool) → b ≡ true → b ≡ false → X
not_both b t f = absurd (true≢false (sym t ∙ f))

-- ---- the turn

turn_at : (seat : ℕ) (turn : Turn) (stage : Stage) (b : Bool) → (turn.seat == seat) ≡ b → (let o : Option Stage = if b then Some turn.stage else None in o) ≡ Some stage → turn ≡ record { seat = seat; stage = stage }
turn_at seat turn stage true same is =
    let seats : turn.seat ≡ seat = grind (arith, same) in
    let stages : turn.stage ≡ stage = cc in
    rw (sym seats, sym stages) refl
turn_at seat turn stage false same is = absurd cc

-- the turn of a seat whose request has come so far
pub turn_is : (seat : ℕ) (o : Option Turn) (stage : Stage) → stage_in seat o ≡ Some stage → o ≡ Some (record { seat = seat; stage = stage })
turn_is seat None stage is = absurd cc
turn_is seat (Some turn) stage is = ap (λ (t : Turn). Some t) (turn_at seat turn stage (turn.seat == seat) refl is)

-- ---- events that leave the history and the fronts

-- what has to be shown of a world with another line, turn, journal and begun change
record IsShift (w : Scene) (line : List Entry) (turn : Option Turn) (journal : List Change) (begun : Option Change) : Type 0 where
  pub asks : All (Asks w.schema) line
  pub staged : IfSome turn (λ t. IsStageOf w.schema t.stage)
  pub played : ArePlayed w.schema journal
  pub kept : IfSome begun (λ change. IsKept w.schema (played_one (kept_by w.schema journal) change))
  pub is : journal ≡ told w ++ pending_in w turn
  pub apart : is_some begun ≡ true → pending_in w turn ≡ []

shift_well : (w : Scene) (line : List Entry) (turn : Option Turn) (journal : List Change) (begun : Option Change) → IsWell w → w.is_up ≡ true → IsShift w line turn journal begun
    → IsWell (record w { line = line; turn = turn; journal = journal; begun = begun })
shift_well w line turn journal begun well up shift = record {
  seats = well.seats;
  found = well.found;
  journal = shift.played;
  begun = shift.kept;
  line = shift.asks;
  turn = shift.staged;
  up = λ is. let old = well.up up in record {
    sound = record { legal = old.sound.legal; fronts = old.sound.fronts; journal = shift.is };
    steps = old.steps;
    last = old.last;
    same = old.same;
    apart = shift.apart;
  };
  down = λ is. not_both w.is_up up is;
}

arrive_well : (w : Scene) (entry : Entry) → IsWell w → w.is_up ≡ true → Asks w.schema entry → IsWell (record w { line = w.line ++ entry ∷ [] })
arrive_well w entry well up asks =
    let old = well.up up in
    shift_well w (w.line ++ entry ∷ []) w.turn w.journal w.begun well up (record {
      asks = All-push (Asks w.schema) w.line entry well.line asks;
      staged = well.turn;
      played = well.journal;
      kept = well.begun;
      is = old.sound.journal;
      apart = old.apart;
    })

-- with nothing pending the journal has just what is told
told_alone : (w : Scene) (o : Option Turn) → w.turn ≡ o → pending_in w o ≡ [] → IsUp w → w.journal ≡ told w
told_alone w o is none up = up.sound.journal ∙ ap (λ (t : Option Turn). told w ++ pending_in w t) is ∙ ap (λ l. told w ++ l) none ∙ append_none (told w)

take_well : (w : Scene) (seat : ℕ) (line : List Entry) → w.line ≡ line → IsWell w → w.is_up ≡ true → IsFirst seat line → w.turn ≡ None → IsWell (taken w line)
take_well w seat [] is well up first none = absurd first
take_well w seat (entry ∷ line) is well up first none =
    let all : All (Asks w.schema) (entry ∷ line) = subst (All (Asks w.schema)) is well.line in
    let turn : Option Turn = Some (record { seat = entry.seat; stage = Taken entry }) in
    shift_well w line turn w.journal w.begun well up (record {
      asks = All-tail (Asks w.schema) entry line all;
      staged = All-head (Asks w.schema) entry line all;
      played = well.journal;
      kept = well.begun;
      is = told_alone w None none refl (well.up up) ∙ sym (append_none (told w));
      apart = λ some. refl;
    })

leave_well : (w : Scene) (seat : ℕ) (o : Option Stage) → stage_of w seat ≡ o → MayLeave o → IsWell w → w.is_up ≡ true → IsWell (record w { turn = None })
leave_well w seat None is may well up = absurd may
leave_well w seat (Some stage) is may well up =
    shift_well w w.line None w.journal w.begun well up (record {
      asks = well.line;
      staged = tt;
      played = well.journal;
      kept = well.begun;
      is = told_alone w (Some (record { seat = seat; stage = stage })) (turn_is seat w.turn stage is) (quiet stage may) (well.up up) ∙ sym (append_none (told w));
      apart = λ some. refl;
    })
  where
    quiet : (s : Stage) → MayLeave (Some s) → pending_at w s ≡ []
    quiet (Taken entry) may = refl
    quiet (IsPut entry) may = absurd may
    quiet Faulted may = refl
    quiet (Entered reply) may = refl

-- ---- puts

-- the request of which nothing is done yet, and what is known then
module _ (w : Scene) (seat : ℕ) (entry : Entry) (is : stage_of w seat ≡ Some (Taken entry)) (well : IsWell w) (up : w.is_up ≡ true) where
  asked : Asks w.schema entry
  asked = subst (λ (t : Option Turn). IfSome t (λ turn. IsStageOf w.schema turn.stage)) (turn_is seat w.turn (Taken entry) is) well.turn

  alone : w.journal ≡ told w
  alone = told_alone w (Some (record { seat = seat; stage = Taken entry })) (turn_is seat w.turn (Taken entry) is) refl (well.up up)

  change_kept : (change : Change) → change_in w entry ≡ Some change → IsKept w.schema (played_one (kept_by w.schema w.journal) change)
  change_kept change makes =
      subst (λ (l : List Change). IsKept w.schema (played_one (kept_by w.schema l) change)) (sym alone)
      (change_keeps w.schema (state_of w) w.number (kept_by w.schema (told w)) (moment_in (state_of w) entry.moment) entry.request change
      (subst (λ (l : List Change). IsKept w.schema (kept_by w.schema l)) alone (all_played w.schema w.journal well.journal)) (well.up up).same asked makes)

  put_with : (outcome : PutOutcome) (o : Option Change) → change_in w entry ≡ o → IsChange entry.request → IsOutcome w.begun o outcome
      → IsShift w w.line (Some (record { seat = seat; stage = stage_after entry outcome })) (w.journal ++ added o outcome) (begun_after w.begun o outcome)
  put_with NotNeeded None makes change may = record {
    asks = well.line;
    staged = (change, asked);
    played = subst (ArePlayed w.schema) (sym (append_none w.journal)) well.journal;
    kept = subst (λ (l : List Change). IfSome w.begun (λ b. IsKept w.schema (played_one (kept_by w.schema l) b))) (sym (append_none w.journal)) well.begun;
    is = append_none w.journal ∙ alone ∙ sym (append_none (told w)) ∙ ap (λ (o : Option Change). told w ++ option_to_list o) (sym makes);
    apart = λ some. ap (λ (o : Option Change). option_to_list o) makes;
  }
  put_with NotNeeded (Some c) makes change may = absurd cc
  put_with Done None makes change may = absurd (true≢false (sym may))
  put_with Done (Some c) makes change may = record {
    asks = well.line;
    staged = (change, asked);
    played = played_more w.schema w.journal c well.journal (change_kept c makes);
    kept = tt;
    is = ap (λ l. l ++ c ∷ []) alone ∙ ap (λ (o : Option Change). told w ++ option_to_list o) (sym makes);
    apart = λ some. absurd (true≢false (sym some));
  }
  put_with FaultClean o makes change may = record {
    asks = well.line;
    staged = tt;
    played = subst (ArePlayed w.schema) (sym (append_none w.journal)) well.journal;
    kept = tt;
    is = append_none w.journal ∙ alone ∙ sym (append_none (told w));
    apart = λ some. refl;
  }
  put_with FaultBegun None makes change may = absurd (true≢false (sym may))
  put_with FaultBegun (Some c) makes change may = record {
    asks = well.line;
    staged = tt;
    played = subst (ArePlayed w.schema) (sym (append_none w.journal)) well.journal;
    kept = subst (λ (l : List Change). IsKept w.schema (played_one (kept_by w.schema l) c)) (sym (append_none w.journal)) (change_kept c makes);
    is = append_none w.journal ∙ alone ∙ sym (append_none (told w));
    apart = λ some. refl;
  }
  put_with FaultHeld o makes change may = record {
    asks = well.line;
    staged = tt;
    played = subst (ArePlayed w.schema) (sym (append_none w.journal)) well.journal;
    kept = subst (λ (l : List Change). IfSome w.begun (λ b. IsKept w.schema (played_one (kept_by w.schema l) b))) (sym (append_none w.journal)) well.begun;
    is = append_none w.journal ∙ alone ∙ sym (append_none (told w));
    apart = λ some. refl;
  }

put_well : (w : Scene) (seat : ℕ) (outcome : PutOutcome) (o : Option Stage) → stage_of w seat ≡ o → MayPut w outcome o → IsWell w → w.is_up ≡ true → IsWell (put w seat outcome o)
put_well w seat outcome None is may well up = absurd may
put_well w seat outcome (Some (Taken entry)) is may well up =
    shift_well w w.line (Some (record { seat = seat; stage = stage_after entry outcome })) (w.journal ++ added (change_in w entry) outcome) (begun_after w.begun (change_in w entry) outcome) well up
    (put_with w seat entry is well up outcome (change_in w entry) refl may.0 may.1)
put_well w seat outcome (Some (IsPut entry)) is may well up = absurd may
put_well w seat outcome (Some Faulted) is may well up = absurd may
put_well w seat outcome (Some (Entered reply)) is may well up = absurd may

-- ---- entries

module _ (w : Scene) (seat : ℕ) (entry : Entry) (is : stage_of w seat ≡ Some (IsPut entry)) (well : IsWell w) (up : w.is_up ≡ true) where
  at_put : w.turn ≡ Some (record { seat = seat; stage = IsPut entry })
  at_put = turn_is seat w.turn (IsPut entry) is

  asks_put : IsChange entry.request × Asks w.schema entry
  asks_put = subst (λ (t : Option Turn). IfSome t (λ turn. IsStageOf w.schema turn.stage)) at_put well.turn

  step_now : IsStep w.schema (state_of w) (timed (state_of w) entry)
  step_now =
      let last : (state_of w).last ≤ last_moment = (well.up up).last in
      record { change = asks_put.0; fits = asks_put.1; later = omega arith; last = omega (arith, last) }

  told_kept : IsKept w.schema (kept_by w.schema (told w))
  told_kept =
      let front : take (length (told w)) w.journal ≡ told w = ap (take (length (told w))) (well.up up).sound.journal ∙ take-append_seam (told w) (pending w) in
      subst (λ (l : List Change). IsKept w.schema (kept_by w.schema l)) front (well.journal (length (told w)))

  state_now : after_all w.schema (opening_of w) (w.entries ++ timed (state_of w) entry ∷ []) ≡ stepped w.schema (state_of w) (timed (state_of w) entry)
  state_now = after_more w.schema (opening_of w) w.entries (timed (state_of w) entry)

  -- what is told then is what was told, and the change of the entry
  told_now : told w ++ option_to_list (change_in w entry) ≡ w.found ++ accepted w.schema (opening_of w) (w.entries ++ timed (state_of w) entry ∷ [])
  told_now =
      append_assoc w.found (accepted w.schema (opening_of w) w.entries) (option_to_list (change_in w entry))
      ∙ ap (λ l. w.found ++ l) (sym (accepted_more w.schema (opening_of w) w.entries (timed (state_of w) entry)))

  journal_now : w.journal ≡ w.found ++ accepted w.schema (opening_of w) (w.entries ++ timed (state_of w) entry ∷ [])
  journal_now = (well.up up).sound.journal ∙ ap (λ (t : Option Turn). told w ++ pending_in w t) at_put ∙ told_now

  same_now : durable (after_all w.schema (opening_of w) (w.entries ++ timed (state_of w) entry ∷ [])) ≡ under w.number (kept_by w.schema (w.found ++ accepted w.schema (opening_of w) (w.entries ++ timed (state_of w) entry ∷ [])))
  same_now =
      ap (λ (s : State). durable s) state_now
      ∙ step_same w.schema (state_of w) w.number (kept_by w.schema (told w)) (moment_in (state_of w) entry.moment) entry.request told_kept (well.up up).same
      ∙ ap (under w.number) (sym (kept_more w.schema (told w) (option_to_list (change_in w entry))))
      ∙ ap (λ (l : List Change). under w.number (kept_by w.schema l)) told_now

  last_now : (after_all w.schema (opening_of w) (w.entries ++ timed (state_of w) entry ∷ [])).last ≤ last_moment
  last_now =
      let is_last : (after_all w.schema (opening_of w) (w.entries ++ timed (state_of w) entry ∷ [])).last ≡ moment_in (state_of w) entry.moment =
      ap (λ (s : State). s.last) state_now ∙ step_moment w.schema (state_of w) (moment_in (state_of w) entry.moment) entry.request asks_put.0 in
      rw is_last step_now.last

  fronts_now : All (λ front. front ≤ length (w.entries ++ timed (state_of w) entry ∷ [])) (set w.fronts seat (length w.entries + 1))
  fronts_now =
      let more : length (w.entries ++ timed (state_of w) entry ∷ []) ≡ length w.entries + 1 = length_push w.entries (timed (state_of w) entry) in
      All-set (λ (front : ℕ). front ≤ length (w.entries ++ timed (state_of w) entry ∷ [])) w.fronts seat (length w.entries + 1) (omega (arith, more))
      (All-weaker (λ (front : ℕ). front ≤ length w.entries) (λ (front : ℕ). front ≤ length (w.entries ++ timed (state_of w) entry ∷ [])) (λ front le. omega (arith, le, more)) w.fronts (well.up up).sound.fronts)

  entered_well : IsWell (entered w seat (Some (IsPut entry)))
  entered_well =
      let steps : AreSteps w.schema (opening_of w) (w.entries ++ timed (state_of w) entry ∷ []) = steps_more w.schema (opening_of w) w.entries (timed (state_of w) entry) (well.up up).steps step_now in
      record {
        seats = length-set w.fronts seat (length w.entries + 1) ∙ well.seats;
        found = well.found;
        journal = well.journal;
        begun = well.begun;
        line = well.line;
        turn = tt;
        up = λ is_up. record {
          sound = record {
            legal = legal_steps w.schema (opening_of w) (w.entries ++ timed (state_of w) entry ∷ []) steps;
            fronts = fronts_now;
            journal = journal_now ∙ sym (append_none (w.found ++ accepted w.schema (opening_of w) (w.entries ++ timed (state_of w) entry ∷ [])));
          };
          steps = steps;
          last = last_now;
          same = same_now;
          apart = λ some. refl;
        };
        down = λ is_down. not_both w.is_up up is_down;
      }

enter_well : (w : Scene) (seat : ℕ) (o : Option Stage) → stage_of w seat ≡ o → MayEnter o → IsWell w → w.is_up ≡ true → IsWell (entered w seat o)
enter_well w seat None is may well up = absurd may
enter_well w seat (Some (Taken entry)) is may well up = absurd may
enter_well w seat (Some (IsPut entry)) is may well up = entered_well w seat entry is well up
enter_well w seat (Some Faulted) is may well up = absurd may
enter_well w seat (Some (Entered reply)) is may well up = absurd may

-- ---- reads, crashes and openings

read_well : (w : Scene) (seat front : ℕ) → front ≤ length w.entries → IsWell w → w.is_up ≡ true → IsWell (record w { fronts = set w.fronts seat front })
read_well w seat front within well up = record {
  seats = length-set w.fronts seat front ∙ well.seats;
  found = well.found;
  journal = well.journal;
  begun = well.begun;
  line = well.line;
  turn = well.turn;
  up = λ is_up. let old = well.up up in record {
    sound = record { legal = old.sound.legal; fronts = All-set (λ (f : ℕ). f ≤ length w.entries) w.fronts seat front within old.sound.fronts; journal = old.sound.journal };
    steps = old.steps;
    last = old.last;
    same = old.same;
    apart = old.apart;
  };
  down = λ is_down. not_both w.is_up up is_down;
}

-- what was begun may be found in the journal, or not
found_played : (w : Scene) (b : Bool) (o : Option Change) → w.begun ≡ o → IsWell w → ArePlayed w.schema (w.journal ++ (if b then option_to_list o else []))
found_played w true None is well = subst (ArePlayed w.schema) (sym (append_none w.journal)) well.journal
found_played w true (Some c) is well =
    played_more w.schema w.journal c well.journal (subst (λ (o : Option Change). IfSome o (λ b. IsKept w.schema (played_one (kept_by w.schema w.journal) b))) is well.begun)
found_played w false o is well = subst (ArePlayed w.schema) (sym (append_none w.journal)) well.journal

crash_well : (w : Scene) (with_begun : Bool) → IsWell w → IsWell (crashed w with_begun)
crash_well w with_begun well =
    let played = found_played w with_begun w.begun refl well in
    record {
      seats = length-replicate w.seats 0;
      found = played;
      journal = played;
      begun = tt;
      line = All-nil (Asks w.schema);
      turn = tt;
      up = λ is_up. absurd (true≢false (sym is_up));
      down = λ is_down. refl;
    }

pub opened_well : (schema : Schema) (seats number : ℕ) (changes : List Change) → ArePlayed schema changes → IsWell (opened_on schema seats number changes)
opened_well schema seats number changes played = record {
  seats = length-replicate seats 0;
  found = played;
  journal = played;
  begun = tt;
  line = All-nil (Asks schema);
  turn = tt;
  up = λ is_up. record {
    sound = record {
      legal = tt;
      fronts = All-replicate (λ (front : ℕ). front ≤ 0) seats 0 (omega arith);
      journal = sym (append_none (changes ++ []) ∙ append_none changes);
    };
    steps = tt;
    last = omega arith;
    same = ap (λ (l : List Change). under number (kept_by schema l)) (sym (append_none changes));
    apart = λ some. refl;
  };
  down = λ is_down. absurd (true≢false is_down);
}

-- ---- events

-- an event leaves a world well that was so
pub happened_well : (w : Scene) (event : Event) → IsWell w → IsEventOf w.schema event → MayHappen w event → IsWell (happened w event)
happened_well w (Arrive seat moment size request) well of may = arrive_well w (record { seat = seat; moment = moment; size = size; request = request }) well may.0 of
happened_well w (Take seat) well of may = take_well w seat w.line refl well may.0 may.1 may.2
happened_well w (Put seat outcome) well of may = put_well w seat outcome (stage_of w seat) refl may.1 well may.0
happened_well w (Enter seat) well of may = enter_well w seat (stage_of w seat) refl may.1 well may.0
happened_well w (Leave seat) well of may = leave_well w seat (stage_of w seat) refl may.1 well may.0
happened_well w (Read seat front moment request) well of may = read_well w seat front may.4 well may.0
happened_well w (Crash with_begun) well of may = crash_well w with_begun well
happened_well w Reopen well of may = opened_well w.schema w.seats (w.number + 1) w.journal well.journal

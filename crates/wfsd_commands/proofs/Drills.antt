-- How a drill comes on with a store, request after request.
use Rattle.std.proofs.Common.{◌≡◌, ℕ, zero, suc, ◌+◌, ◌-◌, ◌%◌, ◌<◌, List, [], ◌∷◌, ◌++◌, length, Option, Some, None, Result, Ok, Err, inl, inr, refl, sym, ap, ◌∙◌, subst, arith, append-nil, append_assoc, add-suc, add-zero, add-one}
use Rattle.std.specs.Prelude.{All, IfSome, ◌⊎◌}
use Rattle.std.proofs.lemmas.List.Elements.{All-head, All-tail}
use Rattle.disk_core.specs.declared.disk.Disk.{Ghosts as DiskMeaning}
use Rattle.disk_core.specs.declared.pair.Pair.{Pair}
use Rattle.drill_requests.specs.Carried.{Ground, Course, at_first, state_at, entry_at, full_next, entered, counted, matched_in, taken_in, none, changed, looked}
use Rattle.drill_requests.specs.Fitting.{IsOneOf}
use Rattle.drill_requests.specs.Requests.{drill_of, requests_before, requests_of}
use Rattle.drill_requests.specs.Drawn.{Drawn}
use Rattle.drill_requests.specs.Rounds.{moved, drawn, seed_after, round_of}
use Rattle.feature_values.specs.declared.schema.Schema.{Schema}
use Rattle.program_output.specs.Lines.{GivesOr}
use Rattle.wfs_ends.specs.Ends.{Shown}
use Rattle.wfs_model.specs.declared.entry.Entry.{Entry}
use Rattle.wfs_model.specs.declared.reply.Reply.{Reply}
use Rattle.wfs_model.specs.declared.request.Request.{Request}
use Rattle.wfs_model.specs.Changing.{IsChange}
use Rattle.wfs_model.specs.History.{reply_after}
use Rattle.wfs_model.specs.Read.{read}
use Rattle.wfs_model.specs.State.{clamped, durable}
use Rattle.wfs_store.specs.declared.fault.StepFault.{StepFault}
use Rattle.wfs_store.specs.declared.fault.StepFault.TheVariants.{StoreFault, Full, OutOfMemory}
use Rattle.wfs_store.specs.Held.{Held, kept_of}
use Rattle.wfs_store.specs.Stepped.{IsStepOf, SameOpening, taken_up, full_for}
use Rattle.wfsd_commands.specs.declared.done.Done.{Done}
use Rattle.wfsd_commands.specs.declared.drilling.Sums.{Sums}
use Rattle.wfsd_commands.specs.Becoming.{GoesOn, Stands, IsLeft}
use Rattle.wfsd_commands.specs.Drilled.{SumsUp, Stops, IsTold, DrillsWith, summed, stopped}
use Rattle.wfsd_commands.specs.Drilling.{ground_of, IsSum, HasCome, StopsFor, HasStopped, CarriesOn, CarriesAll, StopsWithin, RunsThrough}
use Rattle.wfsd_commands.specs.Left.{LeavesStore}
use Rattle.wfsd_commands.specs.Starting.{IsStarted}
use Rattle.wfsd_commands.specs.Statuses.{stopped_line, stopped_status}
use Rattle.wfsd_commands.proofs.Becomes.{goes_none, goes_both, step_goes, then_rose, left_behind}

-- the next entry of a drill
abbrev pub next_entry : Sums → Request → Entry
next_entry sums request = record { seat = 0; moment = sums.requests; size = 0; request = request }

-- a store whose history is the course of a drill: its next entry, the limit that it would pass, and its replies are the drill's
module _ {D : Type 0} (first old : Held D) (course : Course) (sums : Sums) (request : Request) (schema : old.schema ≡ first.schema) (opening : old.opening ≡ first.opening) (entries : old.entries ≡ course.entries) (number : sums.requests ≡ course.requests) where
  entry_is : taken_up old (next_entry sums request) ≡ entry_at (ground_of first) course request
  entry_is = rw (schema, opening, entries, number) refl

  full_is : old.limits ≡ first.limits → old.side ≡ first.side → full_for old (next_entry sums request) ≡ full_next (ground_of first) course request
  full_is limits side = rw (schema, limits, opening, side, entries, number) refl

  reply_is : reply_after old.schema old.opening old.entries (taken_up old (next_entry sums request)) ≡ reply_after first.schema first.opening course.entries (entry_at (ground_of first) course request)
  reply_is = rw (schema, opening, entries, number) refl

  read_is : read old.schema (kept_of old) (clamped sums.requests) request ≡ read first.schema (durable (state_at (ground_of first) course)) (clamped course.requests) request
  read_is = rw (schema, opening, entries, number) refl

module _ {D : Type 0} (faults : D → ℕ) (first : Held D) (requests : List Request) (sums : Sums) (old : Held D) (come : HasCome faults first requests sums old) (request : Request) where
  abbrev ground : Ground
  ground = ground_of first

  abbrev course : Course
  course = come.course

  opening : SameOpening first old
  opening = come.done.goes.opening

  same_entry : taken_up old (next_entry sums request) ≡ entry_at ground course request
  same_entry = entry_is first old course sums request opening.schema opening.opening come.done.entries come.number

  same_full : full_for old (next_entry sums request) ≡ full_next ground course request
  same_full = full_is first old course sums request opening.schema opening.opening come.done.entries come.number opening.limits opening.side

  same_reply : reply_after old.schema old.opening old.entries (taken_up old (next_entry sums request)) ≡ reply_after first.schema first.opening course.entries (entry_at ground course request)
  same_reply = reply_is first old course sums request opening.schema opening.opening come.done.entries come.number

  same_read : read old.schema (kept_of old) (clamped sums.requests) request ≡ read first.schema (durable (state_at ground course)) (clamped course.requests) request
  same_read = read_is first old course sums request opening.schema opening.opening come.done.entries come.number

  -- ---- a change

  module _ (moment : D → ℕ) (since : D → ℕ → List ℕ → Type 0) (new : Held D) (one : IsOneOf old.schema request) (change : IsChange request) where
    goes : (result : Result Reply StepFault) → IsStepOf moment since faults old (next_entry sums request) result new → GoesOn faults first new
    goes result is = goes_both faults first old new come.done.goes (step_goes faults moment since old new (next_entry sums request) refl change one.fitting result is)

    sum_is : (n k : ℕ) (sum : Option ℕ) → k ≡ n → IsSum sum k → IsSum sum n
    sum_is n k sum e h = subst (IsSum sum) e h

    pub entered_come : (reply : Reply) (next : ℕ) (locked : Option ℕ) → IsStepOf moment since faults old (next_entry sums request) (Ok reply) new → next ≡ sums.requests + 1
        → ((n : ℕ) → IsSum sums.locked n → IsSum locked (n + taken_in reply))
        → HasCome faults first (requests ++ request ∷ []) (record { requests = next; matched = sums.matched; locked = locked }) new
    entered_come reply next locked is next_is more = record {
      course = entered ground course request;
      done = record {
        carried = changed requests course request come.done.carried change (sym same_full ∙ is.limited);
        entries = is.entered.0 ∙ ap (λ (es : List Entry). es ++ taken_up old (next_entry sums request) ∷ []) come.done.entries ∙ ap (λ (e : Entry). course.entries ++ e ∷ []) same_entry;
        goes = goes (Ok reply) is;
      };
      number = next_is ∙ ap (λ (n : ℕ). n + 1) come.number;
      matched = come.matched;
      locked = subst (IsSum locked) (ap (λ (r : Reply). course.locked + taken_in r) (is.entered.1 ∙ same_reply)) (more course.locked come.locked);
    }

    stop_cause : (behind : List Request) (fault : StepFault) → IsStepOf moment since faults old (next_entry sums request) (Err fault) new → StopsFor faults first course (request ∷ behind) new fault
    stop_cause behind StoreFault is = then_rose faults first.disks old.disks new.disks come.done.goes.count (is.cause refl)
    stop_cause behind (Full at) is = sym same_full ∙ is.limited
    stop_cause behind OutOfMemory is = tt

    pub not_entered : (behind : List Request) (fault : StepFault) → IsStepOf moment since faults old (next_entry sums request) (Err fault) new → HasStopped faults first requests (request ∷ behind) fault new
    not_entered behind fault is = record {
      course = course;
      done = record { carried = come.done.carried; entries = is.entered ∙ come.done.entries; goes = goes (Err fault) is };
      cause = stop_cause behind fault is;
    }

  -- ---- a read

  pub counted_come : (reply : Reply) (next : ℕ) (matched : Option ℕ) → (IsChange request → ⊥) → reply ≡ read old.schema (kept_of old) (clamped sums.requests) request → next ≡ sums.requests + 1
      → ((n : ℕ) → IsSum sums.matched n → IsSum matched (n + matched_in reply))
      → HasCome faults first (requests ++ request ∷ []) (record { requests = next; matched = matched; locked = sums.locked }) old
  counted_come reply next matched reads is next_is more = record {
    course = counted ground course request;
    done = record {
      carried = looked requests course request come.done.carried reads;
      entries = come.done.entries;
      goes = come.done.goes;
    };
    number = next_is ∙ ap (λ (n : ℕ). n + 1) come.number;
    matched = subst (IsSum matched) (ap (λ (r : Reply). course.matched + matched_in r) (is ∙ same_read)) (more course.matched come.matched);
    locked = come.locked;
  }

-- ---- want of memory

pub stopped_here : {D : Type 0} (faults : D → ℕ) (first : Held D) (requests behind : List Request) (sums : Sums) (store : Held D) → HasCome faults first requests sums store → HasStopped faults first requests behind OutOfMemory store
stopped_here faults first requests behind sums store come = record { course = come.course; done = come.done; cause = tt }

-- ---- one request behind the other

module _ {D : Type 0} (faults : D → ℕ) (from : Held D) (before : Sums) where
  -- these requests were carried out since, wherever a drill began
  abbrev pub Since : List Request → Held D → Sums → Type 0
  Since more store sums = (first : Held D) (requests : List Request) → HasCome faults first requests before from → HasCome faults first (requests ++ more) sums store

  pub since_none : Since [] from before
  since_none first requests come = subst (λ (rs : List Request). HasCome faults first rs before from) (sym (append-nil requests)) come

  pub since_more : (more : List Request) (request : Request) (mid new : Held D) (sums sums' : Sums) → Since more mid sums → CarriesOn faults request mid sums (Ok tt) new sums' → Since (more ++ request ∷ []) new sums'
  since_more more request mid new sums sums' since on first requests come =
      subst (λ (rs : List Request). HasCome faults first rs sums' new) (append_assoc requests more (request ∷ [])) (on first (requests ++ more) (since first requests come))

  pub since_stops : (all more : List Request) (request : Request) (behind : List Request) (mid new : Held D) (sums sums' : Sums) (fault : StepFault) → all ≡ more ++ request ∷ behind
      → Since more mid sums → CarriesOn faults request mid sums (Err fault) new sums' → CarriesAll faults all from before (Err fault) new sums'
  since_stops all more request behind mid new sums sums' fault parts since on first requests come = record {
    done = more;
    behind = request ∷ behind;
    parts = parts;
    stopped = on first (requests ++ more) behind (since first requests come);
  }

  pub since_all : (all more : List Request) (store : Held D) (sums : Sums) → more ≡ all → Since more store sums → CarriesAll faults all from before (Ok tt) store sums
  since_all all more store sums e since = subst (λ (rs : List Request). Since rs store sums) e since

-- ---- those that are left

-- those before and those left are all
pub split_more : (before left rest all : List Request) (request : Request) → left ≡ request ∷ rest → before ++ left ≡ all → (before ++ request ∷ []) ++ rest ≡ all
split_more before left rest all request is split = append_assoc before (request ∷ []) rest ∙ ap (λ (l : List Request). before ++ l) (sym is) ∙ split

-- the next one stands behind those before
pub split_next : (before left rest all : List Request) (request : Request) → left ≡ request ∷ rest → before ++ left ≡ all → all ≡ before ++ request ∷ rest
split_next before left rest all request is split = sym split ∙ ap (λ (l : List Request). before ++ l) is

pub split_all : (before left all : List Request) → left ≡ [] → before ++ left ≡ all → before ≡ all
split_all before left all is split = sym (append-nil before) ∙ ap (λ (l : List Request). before ++ l) (sym is) ∙ split

pub rest_of : (schema : Schema) (left rest : List Request) (request : Request) → left ≡ request ∷ rest → All (IsOneOf schema) left → All (IsOneOf schema) rest
rest_of schema left rest request is all = All-tail (IsOneOf schema) request rest (subst (All (IsOneOf schema)) is all)

pub next_of : (now schema : Schema) (left rest : List Request) (request : Request) → now ≡ schema → left ≡ request ∷ rest → All (IsOneOf schema) left → IsOneOf now request
next_of now schema left rest request same is all = subst (λ (s : Schema). IsOneOf s request) (sym same) (All-head (IsOneOf schema) request rest (subst (All (IsOneOf schema)) is all))

-- ---- rounds

one_more_round : (schema : Schema) (rounds m : ℕ) → requests_before schema rounds (suc m) ≡ requests_before schema rounds m ++ requests_of schema (round_of schema rounds m)
unfolding requests_before
one_more_round schema rounds m = refl

-- the seed at first, and behind a round
pub first_seed : (rounds : ℕ) → rounds ≡ seed_after rounds 0
unfolding seed_after
first_seed rounds = refl

pub next_seed : (rounds m seed next : ℕ) → next ≡ moved (moved seed) → seed ≡ seed_after rounds m → next ≡ seed_after rounds (m + 1)
unfolding seed_after
next_seed rounds m seed next e is = rw add-one (e ∙ ap (λ (s : ℕ). moved (moved s)) is)

pub round_is : (schema : Schema) (rounds m seed : ℕ) (round : Drawn) → round.number ≡ m → round.kind ≡ m % length schema.types → round.x ≡ drawn seed → round.y ≡ drawn (moved seed) → seed ≡ seed_after rounds m
    → round ≡ round_of schema rounds m
round_is schema rounds m seed round number kind x y is =
    let at_x : round.x ≡ drawn (seed_after rounds m) = x ∙ ap drawn is in
    let at_y : round.y ≡ drawn (moved (seed_after rounds m)) = y ∙ ap (λ (s : ℕ). drawn (moved s)) is in
    λ i. record { number = number i; kind = kind i; x = at_x i; y = at_y i }

-- the requests of a drill begin with those of its first rounds
pub goes_to : (schema : Schema) (rounds k d n : ℕ) → n ≡ k + d → (rest : List Request) × (requests_before schema rounds n ≡ requests_before schema rounds k ++ rest)
goes_to schema rounds k zero n e = ([], rw (e, add-zero) (sym (append-nil (requests_before schema rounds k))))
goes_to schema rounds k (suc d) n e =
    let less = goes_to schema rounds k d (k + d) refl in
    let last = requests_of schema (round_of schema rounds (k + d)) in
    (less.0 ++ last, rw (e, add-suc) (one_more_round schema rounds (k + d) ∙ ap (λ (rs : List Request). rs ++ last) less.1 ∙ append_assoc (requests_before schema rounds k) less.0 last))

pub next_round : (schema : Schema) (rounds m : ℕ) → requests_before schema rounds (m + 1) ≡ requests_before schema rounds m ++ requests_of schema (round_of schema rounds m)
unfolding requests_before
next_round schema rounds m = rw add-one refl

pub no_round : (schema : Schema) (rounds : ℕ) → requests_before schema rounds 0 ≡ []
unfolding requests_before
no_round schema rounds = refl

module _ {D : Type 0} (faults : D → ℕ) (first : Held D) (schema : Schema) (rounds : ℕ) where
  -- nothing was done
  pub nothing_done : first.entries ≡ [] → HasCome faults first (requests_before schema rounds 0) (record { requests = 0; matched = Some 0; locked = Some 0 }) first
  nothing_done none_there = rw (no_round schema rounds) (record {
    course = at_first;
    done = record { carried = none; entries = none_there; goes = goes_none faults first };
    number = refl;
    matched = refl;
    locked = refl;
  })

  stops_more : (course : Course) (behind rest : List Request) (store : Held D) (fault : StepFault) → StopsFor faults first course behind store fault → StopsFor faults first course (behind ++ rest) store fault
  stops_more course [] rest store StoreFault cause = absurd cause
  stops_more course [] rest store (Full at) cause = absurd cause
  stops_more course [] rest store OutOfMemory cause = tt
  stops_more course (next ∷ behind) rest store StoreFault cause = cause
  stops_more course (next ∷ behind) rest store (Full at) cause = cause
  stops_more course (next ∷ behind) rest store OutOfMemory cause = tt

  -- a round was carried out
  pub round_come : (m : ℕ) (round : Drawn) (sums : Sums) (store : Held D) → round ≡ round_of schema rounds m → HasCome faults first (requests_before schema rounds m ++ requests_of schema round) sums store
      → HasCome faults first (requests_before schema rounds (m + 1)) sums store
  round_come m round sums store is come =
      rw (next_round schema rounds m) (subst (λ (r : Drawn). HasCome faults first (requests_before schema rounds m ++ requests_of schema r) sums store) is come)

  -- it stopped within a round
  pub round_stops : (m : ℕ) (fault : StepFault) (store : Held D) → m < rounds → StopsWithin faults first (requests_before schema rounds m) (requests_of schema (round_of schema rounds m)) fault store
      → StopsWithin faults first [] (drill_of schema rounds) fault store
  round_stops m fault store lt stops =
      let to : (rest : List Request) × (drill_of schema rounds ≡ requests_before schema rounds (m + 1) ++ rest) = goes_to schema rounds (m + 1) (rounds - (m + 1)) rounds (omega (arith, lt)) in
      let before = requests_before schema rounds m in
      record {
        done = before ++ stops.done;
        behind = stops.behind ++ to.0;
        parts = to.1 ∙ ap (λ (rs : List Request). rs ++ to.0) (next_round schema rounds m ∙ ap (λ (rs : List Request). before ++ rs) stops.parts ∙ sym (append_assoc before stops.done stops.behind))
            ∙ append_assoc (before ++ stops.done) stops.behind to.0;
        stopped = record {
          course = stops.stopped.course;
          done = stops.stopped.done;
          cause = stops_more stops.stopped.course stops.behind to.0 store fault stops.stopped.cause;
        };
      }

  pub round_stops_at : (m : ℕ) (round : Drawn) (fault : StepFault) (store : Held D) → m < rounds → round ≡ round_of schema rounds m
      → StopsWithin faults first (requests_before schema rounds m) (requests_of schema round) fault store → StopsWithin faults first [] (drill_of schema rounds) fault store
  round_stops_at m round fault store lt is stops =
      round_stops m fault store lt (subst (λ (r : Drawn). StopsWithin faults first (requests_before schema rounds m) (requests_of schema r) fault store) is stops)

  -- memory ran out before a round
  pub forgotten_there : (m : ℕ) (sums : Sums) (store : Held D) → m < rounds → HasCome faults first (requests_before schema rounds m) sums store → StopsWithin faults first [] (drill_of schema rounds) OutOfMemory store
  forgotten_there m sums store lt come =
      round_stops m OutOfMemory store lt (record {
        done = [];
        behind = requests_of schema (round_of schema rounds m);
        parts = refl;
        stopped = subst (λ (rs : List Request). HasStopped faults first rs (requests_of schema (round_of schema rounds m)) OutOfMemory store) (sym (append-nil (requests_before schema rounds m)))
            (stopped_here faults first (requests_before schema rounds m) (requests_of schema (round_of schema rounds m)) sums store come);
      })

-- ---- the command

module _ {D : Type 0} (mean : DiskMeaning D) (rounds : ℕ) (first store : Held D) (old : Shown) (done : Done D) (new : Shown) where
  pub stopped_there : (schema : Schema) (fault : StepFault) → first.schema ≡ schema → RunsThrough mean.faults (drill_of schema rounds) first (Err fault) store → LeavesStore (stopped_status fault) store done → GivesOr old (stopped_line fault) new
      → SumsUp mean rounds first old done new ⊎ Stops mean rounds first old done new
  stopped_there schema fault same ran leaves says = inr (record {
    fault = fault;
    before = ran.done;
    behind = ran.behind;
    parts = ap (λ (s : Schema). drill_of s rounds) same ∙ ran.parts;
    course = ran.stopped.course;
    store = store;
    some = ran.stopped.done;
    cause = ran.stopped.cause;
    leaves = leaves;
    says = says;
  })

  module _ (sums : Sums) (come : HasCome mean.faults first (drill_of first.schema rounds) sums store) where
    no_sum : LeavesStore 8 store done → GivesOr old (stopped_line OutOfMemory) new → SumsUp mean rounds first old done new ⊎ Stops mean rounds first old done new
    no_sum leaves says = inr (record {
      fault = OutOfMemory;
      before = drill_of first.schema rounds;
      behind = [];
      parts = sym (append-nil (drill_of first.schema rounds));
      course = come.course;
      store = store;
      some = come.done;
      cause = tt;
      leaves = leaves;
      says = says;
    })

    by_sums : (matched locked : Option ℕ) → IsSum matched come.course.matched → IsSum locked come.course.locked → IsTold rounds store matched locked old done new → SumsUp mean rounds first old done new ⊎ Stops mean rounds first old done new
    by_sums (Some m) (Some l) at_m at_l told = inl (record {
      course = come.course;
      store = store;
      all = come.done;
      leaves = told.0;
      says = rw (sym come.done.entries, sym at_m, sym at_l) told.1;
    })
    by_sums (Some m) None at_m at_l told = no_sum told.0 told.1
    by_sums None (Some l) at_m at_l told = no_sum told.0 told.1
    by_sums None None at_m at_l told = no_sum told.0 told.1

  pub came : (schema : Schema) (sums : Sums) → first.schema ≡ schema → RunsThrough mean.faults (drill_of schema rounds) first (Ok sums) store → IsTold rounds store sums.matched sums.locked old done new
      → SumsUp mean rounds first old done new ⊎ Stops mean rounds first old done new
  came schema sums same ran told =
      let come : HasCome mean.faults first (drill_of first.schema rounds) sums store = subst (λ (s : Schema). HasCome mean.faults first (drill_of s rounds) sums store) (sym same) ran in
      by_sums sums come sums.matched sums.locked come.matched come.locked told

-- ---- what is left

told_store : {D : Type 0} (rounds : ℕ) (store : Held D) (matched locked : Option ℕ) (old : Shown) (done : Done D) (new : Shown) → IsTold rounds store matched locked old done new → done.store ≡ Some store
told_store rounds store (Some m) (Some l) old done new told = told.0.store_is
told_store rounds store (Some m) None old done new told = told.0.store_is
told_store rounds store None (Some l) old done new told = told.0.store_is
told_store rounds store None None old done new told = told.0.store_is

module _ {D : Type 0} (mean : DiskMeaning D) (rounds : ℕ) (first store : Held D) (old : Shown) (done : Done D) (new : Shown) (schema : Schema) where
  pub told_left : (sums : Sums) → first.entries ≡ [] → first.begun ≡ None → Stands mean store → RunsThrough mean.faults (drill_of schema rounds) first (Ok sums) store → IsTold rounds store sums.matched sums.locked old done new
      → IfSome done.store (IsLeft mean first.disks)
  told_left sums empty begun stands ran told =
      rw (told_store rounds store sums.matched sums.locked old done new told) (left_behind mean first store empty begun ran.done.goes stands)

  pub stopped_left : (fault : StepFault) → first.entries ≡ [] → first.begun ≡ None → Stands mean store → RunsThrough mean.faults (drill_of schema rounds) first (Err fault) store → LeavesStore (stopped_status fault) store done
      → IfSome done.store (IsLeft mean first.disks)
  stopped_left fault empty begun stands ran leaves = rw leaves.store_is (left_behind mean first store empty begun ran.stopped.done.goes stands)

pub drills_by : {D : Type 0} (mean : DiskMeaning D) (schema : Schema) (rounds : ℕ) (disks : Pair D) (first : Held D) (old : Shown) (done : Done D) (new : Shown) → IsStarted mean schema disks first
    → SumsUp mean rounds first old done new ⊎ Stops mean rounds first old done new → DrillsWith mean schema rounds disks old done new
drills_by mean schema rounds disks first old done new started (inl is) = summed first started is
drills_by mean schema rounds disks first old done new started (inr is) = stopped first started is

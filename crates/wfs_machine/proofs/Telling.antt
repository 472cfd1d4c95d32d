-- The state of a machine and the table of locks that it keeps, and how parts of a step answer.
use Rattle.std.proofs.Common.{◌≡◌, ℕ, ◌≤◌, Bool, true, false, List, [], ◌∷◌, Option, Some, None, Result, Ok, Err, refl, ap, ◌∙◌, subst, arith}
use Rattle.std.specs.Prelude.{IsTrue, IfSome, ◌&&◌, ◌||◌}
use Rattle.wfs_ends.specs.Read.{◌>>=◌}
use Rattle.feature_values.specs.declared.schema.Schema.{Schema}
use Rattle.lock_table.specs.declared.id.LockId.{LockId}
use Rattle.lock_table.specs.declared.words.LockStatus.{LockStatus}
use Rattle.lock_table.specs.declared.words.LockStatus.TheVariants.{Live, NeverGiven, Expired}
use Rattle.lock_table.specs.Lock.{Lock, Locks}
use Rattle.lock_table.specs.Held.{is_live, has_number, is_live_number, status}
use Rattle.lock_table.proofs.Callers.{live_number}
use Rattle.wfs_model.specs.declared.action.Action.{Action}
use Rattle.wfs_model.specs.declared.reply.Refusal.{Refusal}
use Rattle.wfs_model.specs.declared.reply.Reply.{Reply}
use Rattle.wfs_model.specs.State.{State, Machine}
use Rattle.wfs_model.specs.Plans.{Planning}
use Rattle.wfs_model.specs.Locking.{Division, number_by, named, named_if}
use Rattle.wfs_model.specs.Step.{Done, plan_of}
use Rattle.wfs_model.proofs.Sound.{bind_ok}
use Rattle.transaction_core.specs.declared.fault.PlanFault.{PlanFault}
use Rattle.transaction_core.specs.declared.fault.PlanFault.TheVariants.{Refused, OutOfMemory}
use Rattle.transaction_core.specs.declared.planned.Planned.{Planned}
use Rattle.transaction_core.specs.Plan.{Answers, lock_in, with_these, if_planned, transaction}
use Rattle.wfs_model.specs.declared.request.Request.{Request}
use Rattle.wfs_model.specs.OfSchema.{actions_in}
use Rattle.wfs_machine.specs.Carried.{carried}
use Rattle.wfs_machine.specs.declared.dividing.Divided.{Divided}
use Rattle.wfs_machine.specs.Told.{Divides, IsSaid, Settles}

-- with the lists and numbers of its table a state is itself
pub table_is : (state : State) (counters : List ℕ) (table : Locks) → counters ≡ state.counters → table.opening ≡ state.opening → table.locks ≡ state.locks → table.given ≡ state.given → with_these state state.features counters table ≡ state
table_is state counters table a b c d = rw (a, b, c, d) refl

pub named_is : (state : State) (moment : ℕ) (id : LockId) (table : Locks) (found : LockStatus) → table.opening ≡ state.opening → table.locks ≡ state.locks → table.given ≡ state.given → found ≡ status table.opening table.given table.locks moment id → number_by id found ≡ named state moment id
unfolding named
named_is state moment id table found a b c is = ap (number_by id) (is ∙ rw (a, b, c) refl)

-- ---- locks that are live

either : (a b c d : Bool) → (a ≡ true → c ≡ true) → (b ≡ true → d ≡ true) → (a || b) ≡ true → (c || d) ≡ true
either true b true d f g e = refl
either true b false d f g e = absurd (let bad = f refl in cc)
either false b true d f g e = refl
either false b false d f g e = g e

earlier : (early late number : ℕ) (lock : Lock) → early ≤ late → (has_number number lock && is_live late lock) ≡ true → (has_number number lock && is_live early lock) ≡ true
earlier early late number lock le live = grind (arith, live, le)

-- a lock that is live at a moment was so earlier
pub is_live_earlier : (locks : List Lock) (early late number : ℕ) → early ≤ late → is_live_number locks late number ≡ true → is_live_number locks early number ≡ true
is_live_earlier [] early late number le h = h
is_live_earlier (lock ∷ locks) early late number le h =
    either (has_number number lock && is_live late lock) (is_live_number locks late number) (has_number number lock && is_live early lock) (is_live_number locks early number)
    (earlier early late number lock le) (is_live_earlier locks early late number le) h

number_is : (id : LockId) (found : LockStatus) (number : ℕ) → number_by id found ≡ Ok number → (found ≡ Live) × (id.number ≡ number)
number_is id Live number e = (refl, cc)
number_is id NeverGiven number e = absurd cc
number_is id Expired number e = absurd cc

-- the table of a state
abbrev table_of : State → Locks
table_of state = record { locks = state.locks; opening = state.opening; given = state.given; last = 0; spare = 0; kept = 0; listed = 0; mapped = 0 }

-- a lock that is named is live
pub named_is_live : (state : State) (moment : ℕ) (id : LockId) (number : ℕ) → named state moment id ≡ Ok number → IsTrue (is_live_number state.locks moment number)
unfolding named
named_is_live state moment id number e =
    let found = number_is id (status state.opening state.given state.locks moment id) number e in
    subst (λ (n : ℕ). IsTrue (is_live_number state.locks moment n)) found.1 (live_number (table_of state) moment id found.0)

-- the lock that a planned transaction names is live
pub plan_is_live : (schema : Schema) (state : State) (moment : ℕ) (lock : Option LockId) (actions : List Action) (plan : Planning) → plan_of schema state moment lock actions ≡ Ok plan → IfSome lock (λ id. IsTrue (is_live_number state.locks moment id.number))
unfolding plan_of named
plan_is_live schema state moment None actions plan e = tt
plan_is_live schema state moment (Some id) actions plan e =
    let one = bind_ok (named_if state moment (Some id)) _ plan e in
    let two = bind_ok (named state moment id) _ one.0 one.1 in
    let found = number_is id (status state.opening state.given state.locks moment id) two.0 two.1 in
    live_number (table_of state) moment id found.0

-- ---- how parts of a step answer

-- what refuses a part of a step refuses the step
pub said_on : {A B : Type 0} (fault : PlanFault) (r : Result A Refusal) (more : A → Result B Refusal) → (let s : Result A PlanFault = Err fault in Answers s r) → IsSaid fault (r >>= more)
said_on (Refused refusal) r more is = ap (λ x. x >>= more) is
said_on OutOfMemory r more is = tt

pub divided_on : {B : Type 0} (fault : PlanFault) (r : Result Division Refusal) (more : Division → Result B Refusal) → (let s : Result Divided PlanFault = Err fault in Divides s r) → IsSaid fault (r >>= more)
divided_on (Refused refusal) r more is = ap (λ x. x >>= more) is
divided_on OutOfMemory r more is = tt

pub settles_ok : {E : Type 0} (before now : Machine) (moment : ℕ) (said : Result Done Refusal) (reply : Reply) (left : State) → said ≡ Ok (reply, left) → now.state ≡ record left { last = moment } → now.schema ≡ before.schema → (let r : Result Reply E = Ok reply in Settles before moment said r now)
settles_ok before now moment said reply left is state schema = record { ok = rw is (ap (λ (s : State). (reply, s)) state); err = tt; schema = schema }

refused_plan : {B : Type 0} (r : Result Planning Refusal) (refusal : Refusal) (more : Planning → Result B Refusal) → if_planned r ≡ Err refusal → (r >>= more) ≡ Err refusal
refused_plan (Ok plan) refusal more e = absurd cc
refused_plan (Err other) refusal more e = let same : other ≡ refusal = cc in ap (λ (x : Refusal). Err x) same

-- a transaction is refused as its plan is
pub carried_said : (fault : PlanFault) (schema : Schema) (state : State) (moment : ℕ) (request : Request) → (let s : Result Planned PlanFault = Err fault in Answers s (transaction schema state moment request)) → IsSaid fault (carried schema state moment request)
unfolding transaction
carried_said OutOfMemory schema state moment request is = tt
carried_said (Refused refusal) schema state moment request is = refused_plan (plan_of schema state moment (lock_in request) (actions_in request)) refusal _ is

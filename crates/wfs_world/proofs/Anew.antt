-- One step more of what is played or stepped again.
use Rattle.std.proofs.Common.{◌≡◌, ℕ, ◌+◌, ◌<◌, ◌≤◌, List, [], ◌∷◌, length, get_or, take, drop, refl, sym, ap, ◌∙◌, subst, arith}
use Rattle.std.proofs.lemmas.List.{take_more, at_drop_more}
use Rattle.std.proofs.lemmas.List.Sums.{fold-append}
use Rattle.feature_values.specs.declared.schema.Schema.{Schema}
use Rattle.wfs_model.specs.declared.change.Change.{Change}
use Rattle.wfs_model.specs.declared.change.Change.TheVariants.{Opening, Rows, Created, Dropped, Base}
use Rattle.wfs_model.specs.declared.entry.Entry.{Entry}
use Rattle.wfs_model.specs.declared.reply.Reply.{Reply}
use Rattle.wfs_model.specs.History.{stepped, after_all}
use Rattle.wfs_model.specs.Kept.{IsKept}
use Rattle.wfs_model.specs.Played.{played_one}
use Rattle.wfs_model.specs.State.{State, Durable, Machine, durable, last_moment, moment_in}
use Rattle.wfs_model.specs.Step.{step}
use Rattle.wfs_machine.specs.Kept.{KeepsWell, after_change}
use Rattle.wfs_world.specs.Kept.{ArePlayed, AreSteps}
use Rattle.wfs_world.specs.Scene.{kept_by}

-- ---- changes

-- what outlives the process after a change is played
pub after_is : (state : State) (change : Change) → durable (after_change state change) ≡ played_one (durable state) change
unfolding played_one
after_is state (Opening opening) = refl
after_is state (Rows parts) = refl
after_is state (Created queries) = refl
after_is state (Dropped id) = refl
after_is state (Base opening counters) = refl

-- with one change more
pub kept_next : (schema : Schema) (changes : List Change) (i : ℕ) (change : Change) → i < length changes → change ≡ get_or changes i change → kept_by schema (take (i + 1) changes) ≡ played_one (kept_by schema (take i changes)) change
kept_next schema changes i change lt is =
    ap (λ (l : List Change). kept_by schema l) (take_more changes i change lt) ∙ fold-append played_one _ (take i changes) (get_or changes i change ∷ []) ∙ ap (played_one (kept_by schema (take i changes))) (sym is)

-- it keeps well what is kept
pub next_keeps : (schema machine_schema : Schema) (state : State) (changes : List Change) (i : ℕ) (change : Change) → i < length changes → change ≡ get_or changes i change → ArePlayed schema changes → machine_schema ≡ schema → durable state ≡ kept_by schema (take i changes)
    → KeepsWell machine_schema state change
next_keeps schema machine_schema state changes i change lt is played schemas kept =
    let next : IsKept schema (played_one (kept_by schema (take i changes)) change) = subst (IsKept schema) (kept_next schema changes i change lt is) (played (i + 1)) in
    rw (schemas, kept) next

pub next_is : (schema : Schema) (state now : State) (changes : List Change) (i : ℕ) (change : Change) → i < length changes → change ≡ get_or changes i change → durable state ≡ kept_by schema (take i changes) → now ≡ after_change state change
    → durable now ≡ kept_by schema (take (i + 1) changes)
next_is schema state now changes i change lt is kept left =
    ap (λ (s : State). durable s) left ∙ after_is state change ∙ ap (λ (k : Durable). played_one k change) kept ∙ sym (kept_next schema changes i change lt is)

-- ---- entries

-- the first of the entries that are left
pub step_left : (schema : Schema) (state : State) (entries : List Entry) (i : ℕ) (entry : Entry) → i < length entries → entry ≡ get_or entries i entry → AreSteps schema state (drop i entries) → AreSteps schema state (entry ∷ drop (i + 1) entries)
step_left schema state entries i entry lt is steps =
    let split : drop i entries ≡ get_or entries i entry ∷ drop (i + 1) entries = at_drop_more (λ (l : List Entry). l) entries i entry lt in
    subst (λ (e : Entry). AreSteps schema state (e ∷ drop (i + 1) entries)) (sym is) (subst (AreSteps schema state) split steps)

-- one entry more
pub after_next : (schema : Schema) (state : State) (entries : List Entry) (i : ℕ) (entry : Entry) → i < length entries → entry ≡ get_or entries i entry → after_all schema state (take (i + 1) entries) ≡ stepped schema (after_all schema state (take i entries)) entry
after_next schema state entries i entry lt is =
    ap (λ (l : List Entry). after_all schema state l) (take_more entries i entry lt) ∙ fold-append (stepped schema) state (take i entries) (get_or entries i entry ∷ [])
    ∙ ap (stepped schema (after_all schema state (take i entries))) (sym is)

same_moment : (state : State) (moment : ℕ) → state.last ≤ moment → moment ≤ last_moment → moment_in state moment ≡ moment
same_moment state moment later last = omega (arith, later, last)

-- the step that the machine takes is that of the entry
pub step_is : (schema : Schema) (state now : State) (entry : Entry) (reply : Reply) → state.last ≤ entry.moment → entry.moment ≤ last_moment → (reply, now) ≡ step schema state (moment_in state entry.moment) entry.request → now ≡ stepped schema state entry
step_is schema state now entry reply later last is =
    ap (λ (d : Reply × State). d.1) is ∙ ap (λ (m : ℕ). (step schema state m entry.request).1) (same_moment state entry.moment later last)

-- ---- ends of loops

pub machine_is : (machine : Machine) (schema : Schema) (state : State) → machine.schema ≡ schema → machine.state ≡ state → machine ≡ record { schema = schema; state = state }
machine_is machine schema state schemas states = rw (sym schemas, sym states) refl

-- the machine takes one step more of a history
pub stepped_on : (schema : Schema) (opening : State) (entries : List Entry) (i : ℕ) (entry : Entry) (machine now : Machine) (reply : Reply) → i < length entries → entry ≡ get_or entries i entry → machine.schema ≡ schema
    → machine.state ≡ after_all schema opening (take i entries) → AreSteps schema (after_all schema opening (take i entries)) (drop i entries) → (reply, now.state) ≡ step machine.schema machine.state (moment_in machine.state entry.moment) entry.request
    → (now.state ≡ after_all schema opening (take (i + 1) entries)) × AreSteps schema (after_all schema opening (take (i + 1) entries)) (drop (i + 1) entries)
stepped_on schema opening entries i entry machine now reply lt is schemas states left steps =
    let state : State = after_all schema opening (take i entries) in
    let first : AreSteps schema state (entry ∷ drop (i + 1) entries) = step_left schema state entries i entry lt is left in
    let next : after_all schema opening (take (i + 1) entries) ≡ stepped schema state entry = after_next schema opening entries i entry lt is in
    let said : (reply, now.state) ≡ step schema state (moment_in state entry.moment) entry.request = rw (schemas, states) at steps in
    (step_is schema state now.state entry reply first.2 first.3 said ∙ sym next, subst (λ (s : State). AreSteps schema s (drop (i + 1) entries)) (sym next) first.4)

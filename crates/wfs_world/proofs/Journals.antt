-- What the changes of steps leave of what a journal keeps.
use Rattle.std.proofs.Common.{◌≡◌, ℕ, ◌<◌, ◌≤◌, ◌⊎◌, inl, inr, Bool, true, false, List, [], ◌∷◌, ◌++◌, length, take, Option, Some, None, Result, Ok, Err, refl, sym, ap, ◌∙◌, subst, arith, length-append}
use Rattle.std.specs.Prelude.{◌==◌, if◌then◌else◌, ⊤}
use Rattle.std.specs.List.{fold}
use Rattle.std.specs.Option.{option_to_list}
use Rattle.std.proofs.lemmas.Bool.{cases_lt}
use Rattle.std.proofs.lemmas.List.{take-append-le, take_all}
use Rattle.std.proofs.lemmas.List.Sums.{fold-append}
use Rattle.feature_values.specs.declared.schema.Schema.{Schema}
use Rattle.wfs_model.specs.declared.change.Part.{Part}
use Rattle.wfs_model.specs.declared.change.Part.TheVariants.{Put, Remove}
use Rattle.wfs_model.specs.declared.change.Change.{Change}
use Rattle.wfs_model.specs.declared.change.Change.TheVariants.{Opening, Rows, Created, Dropped, Base}
use Rattle.wfs_model.specs.declared.reply.Refusal.{Refusal}
use Rattle.wfs_model.specs.declared.request.Request.{Request}
use Rattle.wfs_model.specs.declared.request.Request.TheVariants.{Capabilities, DescribeTypes, GetFeatures, GetValues, GetLocked, Lock, Renew, Transact, ListStored, DescribeStored, CreateStored, DropStored}
use Rattle.wfs_model.specs.Kept.{IsKept}
use Rattle.wfs_model.specs.OfSchema.{IsOfSchema}
use Rattle.wfs_model.specs.Plans.{Planning}
use Rattle.wfs_model.specs.Played.{rows_if, if_accepted, change_of, part_played, played_one, played}
use Rattle.wfs_model.specs.State.{State, Durable, durable}
use Rattle.wfs_model.specs.Step.{plan_of, step}
use Rattle.wfs_model.specs.Stored.{created, dropped}
use Rattle.wfs_model.proofs.Keeping.{step_keeps}
use Rattle.wfs_model.proofs.Stepping.{Follows, step_follows, sound_kept}
use Rattle.wfs_world.specs.Kept.{ArePlayed}
use Rattle.wfs_world.specs.Scene.{kept_by}

-- ---- changes that steps make

-- a change that a step may make: no opening
abbrev pub IsMade : Change → Type 0
IsMade (Opening opening) = ⊥
IsMade (Rows parts) = ⊤
IsMade (Created queries) = ⊤
IsMade (Dropped id) = ⊤
IsMade (Base opening counters) = ⊥

rows_made : (parts : List Part) (b : Bool) (change : Change) → (let o : Option Change = if b then None else Some (Rows parts) in o) ≡ Some change → IsMade change
rows_made parts true change is = absurd cc
rows_made parts false change is = let same : Rows parts ≡ change = cc in subst IsMade same tt

plan_made : (r : Result Planning Refusal) (change : Change) → rows_if r ≡ Some change → IsMade change
plan_made (Err refusal) change is = absurd cc
plan_made (Ok plan) change is = rows_made plan.parts (length plan.parts == 0) change is

accepted_made : {X E : Type 0} (r : Result X E) (made change : Change) → IsMade made → if_accepted r made ≡ Some change → IsMade change
accepted_made (Ok x) made change is_made is = let same : made ≡ change = cc in subst IsMade same is_made
accepted_made (Err fault) made change is_made is = absurd cc

pub change_made : (schema : Schema) (state : State) (moment : ℕ) (request : Request) (change : Change) → change_of schema state moment request ≡ Some change → IsMade change
unfolding change_of
change_made schema state moment Capabilities change is = absurd cc
change_made schema state moment (DescribeTypes kinds) change is = absurd cc
change_made schema state moment (GetFeatures present asked) change is = absurd cc
change_made schema state moment (GetValues present asked property) change is = absurd cc
change_made schema state moment (GetLocked present asked take period) change is = absurd cc
change_made schema state moment (Lock asked take period) change is = absurd cc
change_made schema state moment (Renew lock period) change is = absurd cc
change_made schema state moment (Transact lock release actions) change is = plan_made (plan_of schema state moment lock actions) change is
change_made schema state moment ListStored change is = absurd cc
change_made schema state moment (DescribeStored ids) change is = absurd cc
change_made schema state moment (CreateStored queries) change is = accepted_made (created state.stored queries) (Created queries) change tt is
change_made schema state moment (DropStored id) change is = accepted_made (dropped state.stored id) (Dropped id) change tt is

-- ---- whatever the number of the opening is

abbrev pub under : ℕ → Durable → Durable
under number kept = record kept { opening = number }

part_under : (number : ℕ) (kept : Durable) (part : Part) → part_played (under number kept) part ≡ under number (part_played kept part)
unfolding part_played
part_under number kept (Put f) = refl
part_under number kept (Remove id) = refl

parts_under : (number : ℕ) (kept : Durable) (parts : List Part) → fold part_played (under number kept) parts ≡ under number (fold part_played kept parts)
parts_under number kept [] = refl
parts_under number kept (part ∷ parts) = ap (λ (k : Durable). fold part_played k parts) (part_under number kept part) ∙ parts_under number (part_played kept part) parts

pub played_under : (number : ℕ) (kept : Durable) (change : Change) → IsMade change → played_one (under number kept) change ≡ under number (played_one kept change)
unfolding played_one
played_under number kept (Opening opening) made = absurd made
played_under number kept (Rows parts) made = parts_under number kept parts
played_under number kept (Created queries) made = refl
played_under number kept (Dropped id) made = refl
played_under number kept (Base opening counters) made = absurd made

pub kept_under : (schema : Schema) (number : ℕ) (kept : Durable) → IsKept schema (under number kept) → IsKept schema kept
kept_under schema number kept is = record { order = is.order; fitting = is.fitting; given = is.given; counters = is.counters; stored = is.stored; different = is.different; made = is.made }

pub under_kept : (schema : Schema) (number : ℕ) (kept : Durable) → IsKept schema kept → IsKept schema (under number kept)
under_kept schema number kept is = record { order = is.order; fitting = is.fitting; given = is.given; counters = is.counters; stored = is.stored; different = is.different; made = is.made }

-- ---- steps

-- what a step leaves of what outlives the process is what its change leaves of what the journal keeps
pub step_same : (schema : Schema) (state : State) (number : ℕ) (kept : Durable) (moment : ℕ) (request : Request) → IsKept schema kept → durable state ≡ under number kept
    → durable (step schema state moment request).1 ≡ under number (played kept (option_to_list (change_of schema state moment request)))
step_same schema state number kept moment request is same =
    let is_state : IsKept schema (durable state) = subst (IsKept schema) (sym same) (under_kept schema number kept is) in
    let follows : Follows (durable state) (durable (step schema state moment request).1) (change_of schema state moment request) = step_follows schema state moment request (sound_kept schema (durable state) is_state) in
    follows.is ∙ ap (λ (k : Durable). played k (option_to_list (change_of schema state moment request))) same ∙ by_change (change_of schema state moment request) refl
  where
    by_change : (o : Option Change) → change_of schema state moment request ≡ o → played (under number kept) (option_to_list o) ≡ under number (played kept (option_to_list o))
    by_change None is = refl
    by_change (Some change) is = played_under number kept change (change_made schema state moment request change is)

-- the change of a step keeps well what the journal keeps
pub change_keeps : (schema : Schema) (state : State) (number : ℕ) (kept : Durable) (moment : ℕ) (request : Request) (change : Change) → IsKept schema kept → durable state ≡ under number kept → IsOfSchema schema request
    → change_of schema state moment request ≡ Some change → IsKept schema (played_one kept change)
change_keeps schema state number kept moment request change is same fits makes =
    let is_state : IsKept schema (durable state) = subst (IsKept schema) (sym same) (under_kept schema number kept is) in
    let now : durable (step schema state moment request).1 ≡ under number (played_one kept change) =
    step_same schema state number kept moment request is same ∙ ap (λ (o : Option Change). under number (played kept (option_to_list o))) makes in
    kept_under schema number (played_one kept change) (subst (IsKept schema) now (step_keeps schema state moment request is_state fits))

-- ---- journals

pub kept_more : (schema : Schema) (changes more : List Change) → kept_by schema (changes ++ more) ≡ played (kept_by schema changes) more
kept_more schema changes more = fold-append played_one _ changes more

pub all_played : (schema : Schema) (changes : List Change) → ArePlayed schema changes → IsKept schema (kept_by schema changes)
all_played schema changes are = subst (λ (l : List Change). IsKept schema (kept_by schema l)) (take_all (length changes) changes (omega arith)) (are (length changes))

pub played_more : (schema : Schema) (changes : List Change) (change : Change) → ArePlayed schema changes → IsKept schema (played_one (kept_by schema changes) change) → ArePlayed schema (changes ++ change ∷ [])
played_more schema changes change are is n = by_length (cases_lt (length changes) n)
  where
    by_length : (length changes < n) ⊎ (n ≤ length changes) → IsKept schema (kept_by schema (take n (changes ++ change ∷ [])))
    by_length (inl lt) =
        let whole : take n (changes ++ change ∷ []) ≡ changes ++ change ∷ [] = take_all n (changes ++ change ∷ []) (omega (arith, length-append changes (change ∷ []))) in
        rw (whole, kept_more schema changes (change ∷ [])) is
    by_length (inr le) = rw (take-append-le n changes (change ∷ []) le) (are n)

-- A replay that was made, and one that took one more body, or refused it.
use Rattle.std.proofs.Common.{◌≡◌, ℕ, ◌==◌, List, [], length, Option, None, Some, Result, Ok, refl, sym, ap, ◌∙◌, subst}
use Rattle.std.specs.Prelude.{OnErr}
use Rattle.wfs_ends.specs.Read.{GivesBut}
use Rattle.feature_values.specs.declared.schema.Schema.{Schema}
use Rattle.feature_schema.specs.Signature.{signature_text}
use Rattle.feature_versions.specs.Holding.{Holding}
use Rattle.wfs_model.specs.State.{Durable, nothing}
use Rattle.recovery.specs.declared.replay.ReplayFault.{ReplayFault}
use Rattle.recovery.specs.declared.replay.ReplayFault.TheVariants.{OutOfMemory}
use Rattle.recovery.specs.Replay.{Answers, taken_after}
use Rattle.journal_replay.specs.Replayed.{kept_after, replayed, verdict_on}
use Rattle.journal_replay.specs.Rebuilt.{state_of, IsRebuilt}
use Rattle.journal_replay.proofs.Replaying.{none_taken, answers_verdict, comes_to}

-- no body was taken
pub none_rebuilt : (signature : List ℕ) (schema : Schema) (empty : Holding) (taken : List (List ℕ)) → signature ≡ signature_text schema → empty.schema ≡ schema → empty.kept ≡ nothing (length schema.types) → taken ≡ []
    → IsRebuilt signature empty None taken
none_rebuilt signature schema empty taken signed same begun none =
    let begun_here : empty.kept ≡ nothing (length empty.schema.types) = begun ∙ ap (λ (s : Schema). nothing (length s.types)) (sym same) in
    record {
      signed = signed ∙ ap signature_text (sym same);
      begun = begun_here;
      schema = refl;
      come = subst (λ (bodies : List (List ℕ)). replayed empty.schema bodies ≡ Ok empty.kept) (sym none) (none_taken empty.schema ∙ ap Ok (sym begun_here));
    }

-- what was played on is of the schema and is what was kept, and the number tells how many bodies were taken
pub record Begins (empty start : Holding) (before : Option Holding) (taken : List (List ℕ)) (number : ℕ) : Type 0 where
  pub schema : start.schema ≡ empty.schema
  pub kept : start.kept ≡ (state_of empty before).kept
  pub count : number ≡ length taken

-- where nothing was played yet, on a state that is as the one before any body
pub begins_anew : (empty start : Holding) (before : Option Holding) (taken : List (List ℕ)) (number : ℕ) → start.schema ≡ empty.schema → start.kept ≡ empty.kept → before ≡ None → number ≡ length taken → Begins empty start before taken number
begins_anew empty start before taken number schema kept none count = record {
  schema = schema;
  kept = kept ∙ ap (λ (p : Option Holding). (state_of empty p).kept) (sym none);
  count = count;
}

abbrev pub Outcome : Type 0
Outcome = Result (Unit {0}) ReplayFault

-- the call on it
pub record Tries (start now : Holding) (taken all : List (List ℕ)) (number : ℕ) (body : List ℕ) (r : Outcome) : Type 0 where
  pub kept : GivesBut OutOfMemory (λ (x : Unit {0}). now.kept) r (kept_after start.schema (number == 0) start.kept body)
  pub same : OnErr r (now.kept ≡ start.kept)
  pub schema : now.schema ≡ start.schema
  pub bodies : all ≡ taken_after r taken body

module _ (signature : List ℕ) (empty start now : Holding) (before : Option Holding) (taken bodies : List (List ℕ)) (number : ℕ) (body : List ℕ) (r : Outcome) where
  gives : Begins empty start before taken number → Tries start now taken bodies number body r
      → GivesBut OutOfMemory (λ (x : Unit {0}). now.kept) r (kept_after empty.schema (length taken == 0) (state_of empty before).kept body)
  gives begins tries = subst (λ (reading : Result Durable ReplayFault). GivesBut OutOfMemory (λ (x : Unit {0}). now.kept) r reading) (rw (begins.schema, begins.kept, begins.count) refl) tries.kept

  pub still_rebuilt : IsRebuilt signature empty before taken → Begins empty start before taken number → Tries start now taken bodies number body r → IsRebuilt signature empty (Some now) bodies
  still_rebuilt is begins tries = record {
    signed = is.signed;
    begun = is.begun;
    schema = tries.schema ∙ begins.schema;
    come = subst (λ (bs : List (List ℕ)). replayed empty.schema bs ≡ Ok now.kept) (sym tries.bodies)
        (comes_to empty.schema taken (state_of empty before).kept now.kept body r is.come (gives begins tries) (subst (λ (k : Durable). OnErr r (now.kept ≡ k)) begins.kept tries.same));
  }

  pub answers_well : IsRebuilt signature empty before taken → Begins empty start before taken number → Tries start now taken bodies number body r → Answers r (verdict_on empty.schema taken body)
  answers_well is begins tries = answers_verdict empty.schema taken (state_of empty before).kept now.kept body r is.come (gives begins tries)

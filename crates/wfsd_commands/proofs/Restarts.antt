-- A store that is closed and started again.
use Rattle.std.proofs.Common.{◌≡◌, inl, inr, ℕ, List, [], ◌∷◌, Option, Some, None, Result, Ok, Err, refl, sym, ap, ◌∙◌, subst, All}
use Rattle.std.specs.Prelude.{IfOk}
use Rattle.std.proofs.lemmas.List.Elements.{All-head, All-tail}
use Rattle.disk_core.specs.declared.disk.Disk.{Ghosts as DiskMeaning}
use Rattle.disk_core.specs.declared.pair.Pair.{Pair}
use Rattle.durable_journal.specs.declared.fault.OpenFault.{OpenFault}
use Rattle.durable_journal.specs.Opened.{AreBodiesOf}
use Rattle.durable_journal.specs.Standing.{ComeTo, SaysKept, SaysWith}
use Rattle.feature_journal.specs.Whole.{Says, OneOf}
use Rattle.feature_journal.proofs.Recovered.{says_recovered}
use Rattle.feature_values.specs.declared.schema.Schema.{Schema}
use Rattle.journal_replay.specs.Replayed.{verdict_on}
use Rattle.recovery.specs.Outcome.{Judge, Outcome, outcome_of}
use Rattle.recovery.specs.Outcome.Outcome.{refused, no_side, found}
use Rattle.recovery.proofs.Agrees.{agreed, recovers_found, says_side}
use Rattle.wfs_model.specs.declared.change.Change.{Change}
use Rattle.wfs_model.specs.Played.{played_one}
use Rattle.wfs_model.specs.State.{Durable, State}
use Rattle.wfs_store.specs.Held.{Held, kept_of}
use Rattle.wfs_store.specs.Kept.{next_of, opening_by, opening_on}
use Rattle.wfs_store.specs.Started.{OpensOn}
use Rattle.wfsd_commands.specs.Becoming.{Stands}
use Rattle.wfsd_commands.specs.Restarted.{OpensNext, OpensAgain}
use Rattle.wfsd_commands.specs.Starting.{stated_side, outcome_on, IsStarted}

-- the bodies that are read are those that two files say
said_bodies : (judge : Judge) (limit : ℕ) (a b : List ℕ) (lists : List (List (List ℕ))) (s : Says lists a b) (bodies : List (List ℕ)) (outcome : Outcome) → outcome_of judge limit a b ≡ outcome → AreBodiesOf outcome bodies → bodies ≡ s.bodies
said_bodies judge limit a b lists s bodies (refused fault taken) is are = absurd are
said_bodies judge limit a b lists s bodies no_side is are = absurd (says_side judge limit lists a b s is)
said_bodies judge limit a b lists s bodies (found second generation gate taken) is are =
    let there = recovers_found a b second generation gate taken (agreed judge limit a b second generation gate taken is) in
    let said = says_recovered lists a b s in
    are ∙ (let same = sym there ∙ said in cc)

one_comes : (schema : Schema) (kept : Durable) (lists : List (List (List ℕ))) (bodies : List (List ℕ)) → All (ComeTo schema kept) lists → OneOf lists bodies → ComeTo schema kept bodies
one_comes schema kept [] bodies all one = absurd one
one_comes schema kept (list ∷ lists) bodies all (inl same) = subst (ComeTo schema kept) (sym same) (All-head (ComeTo schema kept) list lists all)
one_comes schema kept (list ∷ lists) bodies all (inr one) = one_comes schema kept lists bodies (All-tail (ComeTo schema kept) list lists all) one

next_by : (schema : Schema) (kept : Durable) (bodies : List (List ℕ)) → ComeTo schema kept bodies → opening_on schema bodies ≡ next_of kept
next_by schema kept bodies come = ap (opening_by schema) come

-- the next opening of what two files say
said_next : (schema : Schema) (kept : Durable) (a b : List ℕ) (opening : State) → SaysKept schema kept a b → OpensOn schema (outcome_on schema a b) opening → opening ≡ next_of kept
said_next schema kept a b opening says opens =
    let same = said_bodies (verdict_on schema) stated_side a b says.lists says.says opens.bodies (outcome_on schema a b) refl opens.are in
    let come : ComeTo schema kept opens.bodies = subst (ComeTo schema kept) (sym same) (one_comes schema kept says.lists says.says.bodies says.come says.says.one) in
    opens.opening_is ∙ next_by schema kept opens.bodies come

said_with : (schema : Schema) (kept : Durable) (begun : Option Change) (a b : List ℕ) (opening : State) → SaysWith schema kept begun a b → OpensOn schema (outcome_on schema a b) opening → OpensNext kept begun opening
said_with schema kept None a b opening says opens = said_next schema kept a b opening says opens
said_with schema kept (Some change) a b opening (inl says) opens = inl (said_next schema kept a b opening says opens)
said_with schema kept (Some change) a b opening (inr says) opens = inr (said_next schema (played_one kept change) a b opening says opens)

pub opens_again : {D : Type 0} (mean : DiskMeaning D) (schema : Schema) (old new : Held D) → ((d : D) (s : List ℕ) → mean.shown d ≡ Some s → mean.images d s)
    → old.schema ≡ schema → Stands mean old → IsStarted mean schema old.disks new → OpensAgain mean old new
opens_again mean schema old new reads same stands started = record {
  opens = λ a b at_a at_b.
      said_with schema (kept_of old) old.begun a b new.opening
      (subst (λ (s : Schema). SaysWith s (kept_of old) old.begun a b) same (stands a b (reads old.disks.a a at_a) (reads old.disks.b b at_b)))
      (started.opens a b at_a at_b);
  same = started.begun.schema_is ∙ sym same;
}

pub all_again : {D : Type 0} (mean : DiskMeaning D) (schema : Schema) (old : Held D) (disks : Pair D) (r : Result (Held D) (Pair D × OpenFault)) → ((d : D) (s : List ℕ) → mean.shown d ≡ Some s → mean.images d s)
    → old.schema ≡ schema → disks ≡ old.disks → Stands mean old → IfOk r (IsStarted mean schema disks) → IfOk r (OpensAgain mean old)
all_again {D} mean schema old disks (Ok new) reads same closed stands started = opens_again mean schema old new reads same stands (subst (λ (p : Pair D). IsStarted mean schema p new) closed started)
all_again mean schema old disks (Err e) reads same closed stands started = tt

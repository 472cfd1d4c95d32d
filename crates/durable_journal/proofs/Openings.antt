-- What is recovered is opened.
use Rattle.std.proofs.Common.{◌≡◌, ◌⊎◌, inl, inr, ℕ, ◌+◌, ◌<◌, ◌==◌, true, false, List, [], ◌∷◌, ◌++◌, length, All, Option, refl, sym, ◌∙◌, subst, arith, Result, Ok, Err}
use Rattle.std.specs.Prelude.{IfOk, IfErr}
use Rattle.std.proofs.lemmas.List.Elements.{All-head, All-tail}
use Rattle.disk_core.specs.Sides.{Within, Always}
use Rattle.disk_core.specs.Sides.Always.{once}
use Rattle.disk_core.specs.declared.pair.Pair.{Pair}
use Rattle.feature_journal.specs.Whole.{Says, OneOf}
use Rattle.feature_journal.specs.Held.{With}
use Rattle.feature_journal.specs.Kept.{Rests, seen, disks_of, generation_in as generation_of, length_of, limit_of}
use Rattle.feature_journal.specs.Nothing.{Unmade}
use Rattle.feature_journal.specs.declared.journal.Journal.{Journal}
use Rattle.feature_journal.proofs.Knowing.{within_more, always_more, always_on}
use Rattle.feature_journal.proofs.Recovered.{says_recovered}
use Rattle.feature_values.specs.declared.schema.Schema.{Schema}
use Rattle.journal_replay.specs.Replayed.{verdict_on}
use Rattle.journal_replay.specs.Written.{body_in, IsReadIn, IsTaken}
use Rattle.journal_replay.proofs.Replaying.{none_taken}
use Rattle.journal_replay.proofs.Taking.{had_again}
use Rattle.recovery.specs.declared.replay.ReplayFault.{ReplayFault}
use Rattle.recovery.specs.declared.fault.RecoverFault.{RecoverFault}
use Rattle.recovery.specs.declared.fault.RecoverFault.TheVariants as recovering
use Rattle.recovery.specs.Answer.{Answered, AnsweredErr}
use Rattle.recovery.specs.Crash.{OnceSynced, AfterSync}
use Rattle.recovery.specs.Outcome.{Judge, Outcome, outcome_of}
use Rattle.recovery.specs.Outcome.Outcome.{refused, no_side, found}
use Rattle.recovery.proofs.Agrees.{agreed, recovers_found, says_side, unmade_side}
use Rattle.wfs_ends.proofs.Turns.{ok_is}
use Rattle.wfs_model.specs.State.{Durable, nothing}
use Rattle.wfs_model.specs.Playable.{is_playable}
use Rattle.wfs_model.specs.Played.{played_one}
use Rattle.durable_journal.specs.declared.fault.OpenFault.{OpenFault}
use Rattle.durable_journal.specs.declared.fault.OpenFault.TheVariants.{DiskFault, NotAJournal, NotOfSchema, Full, OutOfMemory}
use Rattle.durable_journal.specs.Faults.{from_recovery}
use Rattle.durable_journal.specs.Standing.{ComeTo, SaysKept, SaysOpened, next_opening}
use Rattle.durable_journal.specs.Holdable.{IsHoldable}
use Rattle.durable_journal.specs.Kept.{Holds, IsAtRest}
use Rattle.durable_journal.specs.declared.opening.Opened.{Opened}
use Rattle.durable_journal.specs.Opened.{IsOpened, last_opening, AreBodiesOf, CannotOpen, IsFull, IsRefusal, IsOfBytes}
use Rattle.durable_journal.proofs.Saying.{with_says}

-- ---- the record of the next opening

pub next_may : (schema : Schema) (kept : Durable) → is_playable schema kept (next_opening kept) ≡ true
unfolding is_playable
next_may schema kept = grind arith

opening_comes : (schema : Schema) (kept : Durable) (bodies : List (List ℕ)) → ComeTo schema kept bodies → IsReadIn schema (next_opening kept) → ComeTo schema (played_one kept (next_opening kept)) (bodies ++ body_in schema (next_opening kept) ∷ [])
opening_comes schema kept bodies come back =
    let taken : IsTaken schema bodies (body_in schema (next_opening kept)) (played_one kept (next_opening kept)) = had_again schema bodies kept (next_opening kept) come (record { stands = refl; playable = next_may schema kept; texts = tt; read_back = back }) in
    taken.come

opening_holds : (kept : Durable) → kept.opening < last_opening → IsHoldable kept → IsHoldable (played_one kept (next_opening kept))
unfolding played_one
opening_holds kept below hold = record { features = hold.features; stored = hold.stored; opening = omega (arith, below) }

more_is_some : (bodies : List (List ℕ)) (body : List ℕ) → (length (bodies ++ body ∷ []) == 0) ≡ false
more_is_some [] body = grind arith
more_is_some (first ∷ bodies) body = grind arith

module _ {D : Type 0} (images : D → List ℕ → Type 0) (schema : Schema) (kept : Durable) (old new : Journal D) (holds : Holds images schema kept old) (body : List ℕ) (is : body ≡ body_in schema (next_opening kept)) (back : IsReadIn schema (next_opening kept)) where
  pub opening_rests : kept.opening < last_opening → ((bodies : List (List ℕ)) → Rests images bodies (seen old) → Rests images (bodies ++ body ∷ []) (seen new)) → IsAtRest images schema (played_one kept (next_opening kept)) new
  opening_rests below done = record {
    bodies = holds.bodies ++ body ∷ [];
    rests = done holds.bodies holds.rests;
    list = record {
      come = subst (λ b. ComeTo schema (played_one kept (next_opening kept)) (holds.bodies ++ b ∷ [])) (sym is) (opening_comes schema kept holds.bodies holds.come back);
      some = more_is_some holds.bodies body;
      holdable = opening_holds kept below holds.holdable;
    };
  }

  pub opening_goes : (moment : D → ℕ) (since : D → ℕ → List ℕ → Type 0) → ((bodies : List (List ℕ)) → Rests images bodies (seen old) → Within moment since (With bodies body) (disks_of old) (disks_of new)) → Always moment since (SaysOpened schema kept) (disks_of old) (disks_of new)
  opening_goes moment since goes =
      once _ _ (within_more moment since (With holds.bodies (body_in schema (next_opening kept))) (SaysOpened schema kept) (disks_of old) (disks_of new) (with_says schema kept (next_opening kept) holds.bodies holds.come (opening_comes schema kept holds.bodies holds.come back))
      (subst (λ b. Within moment since (With holds.bodies b) (disks_of old) (disks_of new)) is (goes holds.bodies holds.rests)))

-- what is kept, or with the opening
pub kept_opens : {D : Type 0} (moment : D → ℕ) (since : D → ℕ → List ℕ → Type 0) (schema : Schema) (kept : Durable) (old new : Pair D) → Always moment since (SaysKept schema kept) old new → Always moment since (SaysOpened schema kept) old new
kept_opens moment since schema kept old new goes = always_more moment since (SaysKept schema kept) (SaysOpened schema kept) old new (λ x y says. inl says) goes

pub then_opens : {D : Type 0} (moment : D → ℕ) (since : D → ℕ → List ℕ → Type 0) (schema : Schema) (kept : Durable) (old mid new : Pair D) → Always moment since (SaysKept schema kept) old mid → Always moment since (SaysOpened schema kept) mid new → Always moment since (SaysOpened schema kept) old new
then_opens moment since schema kept old mid new first more = always_on moment since (SaysOpened schema kept) old mid new (kept_opens moment since schema kept old mid first) more

-- ---- what the bytes came to

pub told_bodies : {D : Type 0} (journal : Journal D) (outcome : Outcome) (limit : ℕ) (taken : List (List ℕ)) → Answered journal outcome limit taken → AreBodiesOf outcome taken
told_bodies journal (refused fault bodies) limit taken is = absurd is
told_bodies journal no_side limit taken is = is.1
told_bodies journal (found second generation gate bodies) limit taken is = is.1

-- why it is not opened
pub told_full : {D : Type 0} (journal : Journal D) (outcome : Outcome) (schema : Schema) (kept : Durable) (limit sum : ℕ) (taken : List (List ℕ)) → Answered journal outcome limit taken → limit_of journal ≡ limit → ComeTo schema kept taken
    → CannotOpen schema kept (limit_of journal) (length_of journal) (generation_of journal) sum → IsFull schema limit sum outcome
told_full journal (refused fault bodies) schema kept limit sum taken is limit_is come why = absurd is
told_full journal no_side schema kept limit sum taken is limit_is come why =
    IsFull.not_opened taken kept is.1 come
    (subst (λ l. CannotOpen schema kept l 17 1 sum) limit_is (subst (λ n. CannotOpen schema kept (limit_of journal) n 1 sum) is.0.length_is (subst (λ g. CannotOpen schema kept (limit_of journal) (length_of journal) g sum) is.0.generation_is why)))
told_full journal (found second generation gate bodies) schema kept limit sum taken is limit_is come why =
    IsFull.not_opened taken kept is.1 come
    (subst (λ l. CannotOpen schema kept l (gate + 1) generation sum) limit_is (subst (λ n. CannotOpen schema kept (limit_of journal) n generation sum) is.0.length_is (subst (λ g. CannotOpen schema kept (limit_of journal) (length_of journal) g sum) is.0.generation_is why)))

pub not_opened : {D : Type 0} (journal : Journal D) (outcome : Outcome) (schema : Schema) (kept : Durable) (limit : ℕ) (taken : List (List ℕ)) (fault : OpenFault) → Answered journal outcome limit taken → limit_of journal ≡ limit → ComeTo schema kept taken → (IsOfBytes fault → ⊥)
    → ((sum : ℕ) → fault ≡ Full sum → CannotOpen schema kept (limit_of journal) (length_of journal) (generation_of journal) sum) → IsRefusal schema limit outcome fault
not_opened journal outcome schema kept limit taken DiskFault is limit_is come later why = tt
not_opened journal outcome schema kept limit taken (NotAJournal place) is limit_is come later why = absurd (later tt)
not_opened journal outcome schema kept limit taken (NotOfSchema number) is limit_is come later why = absurd (later tt)
not_opened journal outcome schema kept limit taken (Full sum) is limit_is come later why = told_full journal outcome schema kept limit sum taken is limit_is come (why sum refl)
not_opened journal outcome schema kept limit taken OutOfMemory is limit_is come later why = tt

-- a refusal of the recovery
pub not_recovered : (schema : Schema) (outcome : Outcome) (limit : ℕ) (taken : List (List ℕ)) (fault : RecoverFault) → AnsweredErr fault outcome limit taken → IsRefusal schema limit outcome (from_recovery fault)
not_recovered schema outcome limit taken recovering.DiskFault is = tt
not_recovered schema outcome limit taken (recovering.NotAJournal place) is = (taken, is)
not_recovered schema outcome limit taken (recovering.NotOfSchema number) is = (taken, is)
not_recovered schema outcome limit taken (recovering.Full sum) (inl is) = IsFull.too_long taken is
not_recovered schema outcome limit taken (recovering.Full sum) (inr is) = IsFull.no_room is.0 is.1 is.2
not_recovered schema outcome limit taken recovering.OutOfMemory is = tt

-- ---- what the files said

-- the bodies that were recovered are those that two files say
said_bodies : {D : Type 0} (journal : Journal D) (judge : Judge) (limit : ℕ) (a b : List ℕ) (lists : List (List (List ℕ))) (s : Says lists a b) (taken : List (List ℕ)) (outcome : Outcome) → outcome_of judge limit a b ≡ outcome → Answered journal outcome limit taken → taken ≡ s.bodies
said_bodies journal judge limit a b lists s taken (refused fault bodies) is answer = absurd answer
said_bodies journal judge limit a b lists s taken no_side is answer = absurd (says_side judge limit lists a b s is)
said_bodies journal judge limit a b lists s taken (found second generation gate bodies) is answer =
    let there = recovers_found a b second generation gate bodies (agreed judge limit a b second generation gate bodies is) in
    let said = says_recovered lists a b s in
    answer.1 ∙ (let same = sym there ∙ said in cc)

-- none where none says a list
no_bodies : {D : Type 0} (journal : Journal D) (judge : Judge) (limit : ℕ) (a b : List ℕ) (taken : List (List ℕ)) (outcome : Outcome) → Unmade a → Unmade b → outcome_of judge limit a b ≡ outcome → Answered journal outcome limit taken → taken ≡ []
no_bodies journal judge limit a b taken (refused fault bodies) un_a un_b is answer = absurd answer
no_bodies journal judge limit a b taken no_side un_a un_b is answer = answer.1
no_bodies journal judge limit a b taken (found second generation gate bodies) un_a un_b is answer = absurd (unmade_side judge limit a b second generation gate bodies un_a un_b is)

one_comes : (schema : Schema) (kept : Durable) (lists : List (List (List ℕ))) (bodies : List (List ℕ)) → All (ComeTo schema kept) lists → OneOf lists bodies → ComeTo schema kept bodies
one_comes schema kept [] bodies all one = absurd one
one_comes schema kept (list ∷ lists) bodies all (inl same) = subst (ComeTo schema kept) (sym same) (All-head (ComeTo schema kept) list lists all)
one_comes schema kept (list ∷ lists) bodies all (inr one) = one_comes schema kept lists bodies (All-tail (ComeTo schema kept) list lists all) one

same_kept : (schema : Schema) (kept now : Durable) (bodies : List (List ℕ)) → ComeTo schema kept bodies → ComeTo schema now bodies → kept ≡ now
same_kept schema kept now bodies come also = ok_is ReplayFault kept now (sym come ∙ also)

-- what was recovered is what the lists of two files come to
pub said_kept : {D : Type 0} (journal : Journal D) (schema : Schema) (limit : ℕ) (a b : List ℕ) (lists : List (List (List ℕ))) (kept now : Durable) (taken : List (List ℕ)) (s : Says lists a b) → All (ComeTo schema kept) lists
    → Answered journal (outcome_of (verdict_on schema) limit a b) limit taken → ComeTo schema now taken → now ≡ kept
said_kept journal schema limit a b lists kept now taken s all answer come =
    let same : taken ≡ s.bodies = said_bodies journal (verdict_on schema) limit a b lists s taken (outcome_of (verdict_on schema) limit a b) refl answer in
    same_kept schema now kept taken come (subst (ComeTo schema kept) (sym same) (one_comes schema kept lists s.bodies all s.one))

pub nothing_kept : {D : Type 0} (journal : Journal D) (schema : Schema) (limit : ℕ) (a b : List ℕ) (now : Durable) (taken : List (List ℕ)) → Unmade a → Unmade b → Answered journal (outcome_of (verdict_on schema) limit a b) limit taken → ComeTo schema now taken → now ≡ nothing (length schema.types)
nothing_kept journal schema limit a b now taken un_a un_b answer come =
    let same : taken ≡ [] = no_bodies journal (verdict_on schema) limit a b taken (outcome_of (verdict_on schema) limit a b) un_a un_b refl answer in
    same_kept schema now (nothing (length schema.types)) taken come (subst (ComeTo schema (nothing (length schema.types))) (sym same) (none_taken schema))

-- ---- both phases

module _ {D : Type 0} (shown : D → Option (List ℕ)) (moment : D → ℕ) (since : D → ℕ → List ℕ → Type 0) (images : D → List ℕ → Type 0) where
  pub more_synced : (P Q : List ℕ → List ℕ → Type 0) (old new : Pair D) → AfterSync shown moment since images P old new → AfterSync shown moment since images (λ x y. P x y ⊎ Q x y) old new
  more_synced P Q old new (inl within) = inl within
  more_synced P Q old new (inr both) = inr (both.0, both.1, both.2, always_more moment since P (λ x y. P x y ⊎ Q x y) both.0 new (λ x y p. inl p) both.3)

  pub synced_on : (P Q : List ℕ → List ℕ → Type 0) (old mid new : Pair D) → OnceSynced shown moment since images P old mid → Always moment since Q mid new → AfterSync shown moment since images (λ x y. P x y ⊎ Q x y) old new
  synced_on P Q old mid new first more =
      inr (first.0, first.1, first.2, always_on moment since (λ x y. P x y ⊎ Q x y) first.0 mid new (always_more moment since P (λ x y. P x y ⊎ Q x y) first.0 mid (λ x y p. inl p) first.3) (always_more moment since Q (λ x y. P x y ⊎ Q x y) mid new (λ x y q. inr q) more))

-- bytes that are refused are not a failed disk
pub no_disk : (fault : RecoverFault) → IsOfBytes (from_recovery fault) → fault ≡ recovering.DiskFault → ⊥
no_disk fault of_bytes is = subst (λ f. IsOfBytes (from_recovery f)) is of_bytes

-- ---- what is answered

module _ {D E : Type 0} (images : D → List ℕ → Type 0) (schema : Schema) (limit : ℕ) (from : Opened D) (r : Result (Opened D) E) where
  pub is_opened : from.features.schema ≡ schema → ComeTo schema from.features.kept from.bodies → limit_of from.journal ≡ limit → IfOk r (λ o. from.features.kept.opening < last_opening) → IfOk r (λ o. o.features.kept ≡ played_one from.features.kept (next_opening from.features.kept))
      → IfOk r (λ o. o.features.schema ≡ from.features.schema) → IfOk r (λ o. o.bodies ≡ from.bodies) → IfOk r (λ o. IsAtRest images o.features.schema o.features.kept o.journal) → IfOk r (λ o. limit_of o.journal ≡ limit_of from.journal) → IfOk r (IsOpened images schema limit)
  is_opened schema_is come limit_is below now same bodies rests still = by_case r below now same bodies rests still
    where
      by_case : (r : Result (Opened D) E) → IfOk r (λ o. from.features.kept.opening < last_opening) → IfOk r (λ o. o.features.kept ≡ played_one from.features.kept (next_opening from.features.kept))
          → IfOk r (λ o. o.features.schema ≡ from.features.schema) → IfOk r (λ o. o.bodies ≡ from.bodies) → IfOk r (λ o. IsAtRest images o.features.schema o.features.kept o.journal) → IfOk r (λ o. limit_of o.journal ≡ limit_of from.journal) → IfOk r (IsOpened images schema limit)
      by_case (Ok o) below now same bodies rests still = record {
        kept = from.features.kept;
        come = subst (ComeTo schema from.features.kept) (sym bodies) come;
        below = below;
        now = now;
        schema_is = same ∙ schema_is;
        rests = subst (λ s. IsAtRest images s o.features.kept o.journal) (same ∙ schema_is) rests;
        limit_is = still ∙ limit_is;
      }
      by_case (Err e) below now same bodies rests still = tt

pub by_fault : {T A : Type 0} (r : Result T (A × OpenFault)) (C : ℕ → Type 0) (Q : OpenFault → Type 0) → ((fault : OpenFault) → (IsOfBytes fault → ⊥) → ((sum : ℕ) → fault ≡ Full sum → C sum) → Q fault)
    → IfErr r (λ e. IsOfBytes e.1 → ⊥) → ((sum : ℕ) → IfErr r (λ e. e.1 ≡ Full sum → C sum)) → IfErr r (λ e. Q e.1)
by_fault (Ok o) C Q refuses later full = tt
by_fault (Err e) C Q refuses later full = refuses e.1 later full

-- what is kept by other names
pub opens_so : {D : Type 0} (moment : D → ℕ) (since : D → ℕ → List ℕ → Type 0) (schema other : Schema) (kept now : Durable) (old new : Pair D) → other ≡ schema → now ≡ kept → Always moment since (SaysOpened other now) old new → Always moment since (SaysOpened schema kept) old new
opens_so moment since schema other kept now old new same_schema same_kept goes = subst (λ k. Always moment since (SaysOpened schema k) old new) same_kept (subst (λ s. Always moment since (SaysOpened s now) old new) same_schema goes)

-- What a step comes to at each of its ends.
use Rattle.std.proofs.Common.{◌≡◌, inl, ℕ, ◌+◌, ◌≤◌, List, [], ◌∷◌, ◌++◌, length, Option, Some, None, Ok, Err, refl, sym, ap, ◌∙◌, subst, arith}
use Rattle.std.specs.Option.{IfSome, option_to_list}
use Rattle.std.specs.Prelude.{min}
use Rattle.disk_core.specs.declared.pair.Pair.{Pair}
use Rattle.disk_core.specs.Sides.{Always, EveryBoth}
use Rattle.disk_core.specs.Sides.Always.{once}
use Rattle.durable_journal.specs.Current.{current_in}
use Rattle.durable_journal.specs.Kept.{Keeps}
use Rattle.durable_journal.specs.Standing.{SaysEither, SaysWith}
use Rattle.feature_journal.specs.declared.journal.Journal.{Journal}
use Rattle.feature_journal.specs.Faults.{NoneFell, OneRose}
use Rattle.feature_journal.specs.Kept.{disks_of, length_of, limit_of}
use Rattle.feature_journal.proofs.Pairs.{within_still}
use Rattle.feature_values.specs.declared.schema.Schema.{Schema}
use Rattle.wfs_ends.specs.Ends.{last_count}
use Rattle.wfs_model.specs.declared.change.Change.{Change}
use Rattle.wfs_model.specs.declared.entry.Entry.{Entry}
use Rattle.wfs_model.specs.declared.reply.Reply.{Reply}
use Rattle.wfs_model.specs.Full.{full_at}
use Rattle.wfs_model.specs.History.{timed}
use Rattle.wfs_model.specs.Played.{change_of, played}
use Rattle.wfs_model.specs.State.{State, durable, moment_in}
use Rattle.wfs_model.specs.Step.{step}
use Rattle.wfs_store.specs.declared.course.Course.{Course}
use Rattle.wfs_store.specs.declared.course.Ready.{Ready}
use Rattle.wfs_store.specs.declared.fault.StepFault.{StepFault}
use Rattle.wfs_store.specs.declared.fault.StepFault.TheVariants.{StoreFault, Full, OutOfMemory}
use Rattle.wfs_store.specs.Held.{Held, now_of, kept_of}
use Rattle.wfs_store.specs.Judged.{IsFaultOf, added_by}
use Rattle.wfs_store.specs.Kept.{IsCourse, IsStore, body_length, length_after, opening_on, held_of}
use Rattle.wfs_store.specs.Ready.{IsTaken, IsWritable, SamePast}
use Rattle.wfs_store.specs.Stepped.{taken_up, full_for, change_by, SameOpening, IsStepOf, one_more}
use Rattle.wfs_store.specs.Written.{begun_after, WasLeft, longer_by}
use Rattle.wfs_store.proofs.Histories.{longer_with}
use Rattle.wfs_store.proofs.Verdicts.{full_in}
use Rattle.wfs_store.proofs.Recordable.{kept_after}

module _ {D : Type 0} (moment : D → ℕ) (since : D → ℕ → List ℕ → Type 0) (images : D → List ℕ → Type 0) (faults : D → ℕ)
    (counts : (d : D) (t : ℕ) (c : List ℕ) → t ≤ moment d → images d c → since d t c) (only : (d : D) (c : List ℕ) → since d (moment d) c → images d c)
    (old mid : Course) (before : Journal D) (bodies : List (List ℕ)) (side : ℕ) (begun : Option Change) (tally : List ℕ) (entry : Entry)
    (is : IsStore images old before bodies side begun) (same : SamePast old mid) where
  abbrev pub was : Held D
  was = held_of old before bodies side begun tally

  -- the state in memory is the one that the history leaves
  now_is : old.state.state ≡ now_of was
  now_is = is.memory.past.state

  judged_fault : (fault : StepFault) → IsFaultOf (full_in (opening_on old.state.schema bodies) side old entry) fault → IsFaultOf (full_for was entry) fault
  judged_fault fault judged = subst (λ (s : State). IsFaultOf (full_at old.state.schema (body_length old.state.schema) side (opening_on old.state.schema bodies) old.limits old.history.items (timed s entry)) fault) now_is judged

  judged_none : full_in (opening_on old.state.schema bodies) side old entry ≡ None → full_for was entry ≡ None
  judged_none judged = subst (λ (s : State). full_at old.state.schema (body_length old.state.schema) side (opening_on old.state.schema bodies) old.limits old.history.items (timed s entry) ≡ None) now_is judged

  same_opening : (after : Journal D) (left : Option Change) (counted : List ℕ) → current_in after ≡ current_in before → SameOpening was (held_of mid after bodies side left counted)
  same_opening after left counted still = record { schema = same.schema; limits = same.limits; opening = ap (λ (s : Schema). opening_on s bodies) same.schema; side = refl; current = still }

  -- nothing is written
  stays : EveryBoth images (SaysWith old.state.schema (durable old.state.state) begun) (disks_of before)
      → Always moment since (SaysEither old.state.schema (kept_of was) begun (change_by was entry)) (disks_of before) (disks_of before)
  stays stand =
      let disks : Pair D = disks_of before in
      let there : EveryBoth images (SaysWith old.state.schema (kept_of was) begun) disks = subst (λ (s : State). EveryBoth images (SaysWith old.state.schema (durable s) begun) disks) now_is stand in
      once disks disks (within_still moment since images counts only (SaysEither old.state.schema (kept_of was) begun (change_by was entry)) disks (λ x y at_a at_b. inl (there x y at_a at_b)))

  no_fall : NoneFell faults (disks_of before) (disks_of before)
  no_fall = (omega arith, omega arith)

  pub refused_step : (fault : StepFault) → IsFaultOf (full_in (opening_on old.state.schema bodies) side old entry) fault
      → EveryBoth images (SaysWith old.state.schema (durable old.state.state) begun) (disks_of before)
      → IsStepOf moment since faults was entry (Err fault) (held_of mid before bodies side begun tally)
  refused_step StoreFault judged stand = absurd judged
  refused_step (Full at) judged stand = record {
    opening = same_opening before begun tally refl;
    entered = same.entries;
    limited = judged_fault (Full at) judged;
    begun = refl;
    tallied = refl;
    unwritten = refl;
    goes = stays stand;
    count = no_fall;
    cause = λ e. absurd cc;
  }
  refused_step OutOfMemory judged stand = record {
    opening = same_opening before begun tally refl;
    entered = same.entries;
    limited = tt;
    begun = refl;
    tallied = refl;
    unwritten = refl;
    goes = stays stand;
    count = no_fall;
    cause = λ e. absurd cc;
  }

  -- how long the side is, as the journal tells it
  pub side_told : (told : ℕ) → told ≡ min (length_of before) last_count → told ≡ length_of before
  side_told told said =
      let within = is.within in
      let most = old.limits.side_within in
      omega (arith, said, within, most)

  -- ---- what was taken up

  module _ (ready : Ready) (taken : IsTaken entry ready old) where
    abbrev copy : Option Change
    copy = ready.made

    moment_is : ready.moment ≡ (taken_up was entry).moment
    moment_is = taken.moment ∙ ap (λ (s : State). moment_in s entry.moment) now_is

    copy_made : copy ≡ change_of old.state.schema old.state.state ready.moment entry.request
    copy_made = taken.made_is ∙ taken.plan.change

    copy_by : copy ≡ change_by was entry
    copy_by = copy_made ∙ ap (λ (s : State). change_of old.state.schema s ready.moment entry.request) now_is
        ∙ ap (λ (m : ℕ). change_of old.state.schema (now_of was) m entry.request) moment_is

    taken_is : record entry { moment = ready.moment } ≡ taken_up was entry
    taken_is = ap (λ (m : ℕ). record entry { moment = m }) moment_is

    goes_on : (after : Journal D) → Always moment since (SaysEither old.state.schema (durable old.state.state) begun copy) (disks_of before) (disks_of after)
        → Always moment since (SaysEither old.state.schema (kept_of was) begun (change_by was entry)) (disks_of before) (disks_of after)
    goes_on after goes =
        subst (λ (change : Option Change). Always moment since (SaysEither old.state.schema (kept_of was) begun change) (disks_of before) (disks_of after)) copy_by
        (subst (λ (s : State). Always moment since (SaysEither old.state.schema (durable s) begun copy) (disks_of before) (disks_of after)) now_is goes)

    -- a disk failed
    pub failed_step : (after : Journal D) (left : Option Change) (counted : List ℕ) → full_in (opening_on old.state.schema bodies) side old entry ≡ None
        → Always moment since (SaysEither old.state.schema (durable old.state.state) begun copy) (disks_of before) (disks_of after)
        → WasLeft begun copy left → (copy ≡ None → ⊥) → counted ≡ one_more tally entry.seat
        → NoneFell faults (disks_of before) (disks_of after) → OneRose faults (disks_of before) (disks_of after) → current_in after ≡ current_in before
        → IsStepOf moment since faults was entry (Err StoreFault) (held_of mid after bodies side left counted)
    failed_step after left counted full goes was_left some more fell rose still = record {
      opening = same_opening after left counted still;
      entered = same.entries;
      limited = judged_none full;
      begun = subst (λ (made : Option Change). WasLeft begun made left) copy_by was_left;
      tallied = more;
      unwritten = λ none. some (copy_by ∙ none);
      goes = goes_on after goes;
      count = fell;
      cause = λ e. rose;
    }

    -- it is carried out
    pub done_step : (new : Course) (after : Journal D) (left : Option Change) (reply : Reply) → full_in (opening_on old.state.schema bodies) side old entry ≡ None
        → Always moment since (SaysEither old.state.schema (durable old.state.state) begun copy) (disks_of before) (disks_of after)
        → left ≡ begun_after copy begun → (copy ≡ None → after ≡ before) → NoneFell faults (disks_of before) (disks_of after)
        → new.history.items ≡ mid.history.items ++ record entry { moment = ready.moment } ∷ []
        → (reply, new.state.state) ≡ step mid.state.schema mid.state.state ready.moment entry.request
        → new.state.schema ≡ mid.state.schema → new.limits ≡ mid.limits → current_in after ≡ current_in before
        → IsStepOf moment since faults was entry (Ok reply) (held_of new after bodies side left tally)
    done_step new after left reply full goes left_is unwritten fell entries stepped schema limits still = record {
      opening = record { schema = schema ∙ same.schema; limits = limits ∙ same.limits; opening = ap (λ (s : Schema). opening_on s bodies) (schema ∙ same.schema); side = refl; current = still };
      entered = (entries ∙ ap (λ (l : List Entry). l ++ record entry { moment = ready.moment } ∷ []) same.entries ∙ ap (λ (e : Entry). old.history.items ++ e ∷ []) taken_is, reply_is);
      limited = judged_none full;
      begun = left_is ∙ ap (λ (made : Option Change). begun_after made begun) copy_by;
      tallied = refl;
      unwritten = λ none. ap disks_of (unwritten (copy_by ∙ none));
      goes = goes_on after goes;
      count = fell;
      cause = λ e. absurd cc;
    }
      where
        reply_is : reply ≡ (step old.state.schema (now_of was) (taken_up was entry).moment entry.request).0
        reply_is =
            ap (λ (d : Reply × State). d.0) stepped
            ∙ ap (λ (s : Schema). (step s mid.state.state ready.moment entry.request).0) same.schema
            ∙ ap (λ (s : State). (step old.state.schema s ready.moment entry.request).0) (same.state ∙ now_is)
            ∙ ap (λ (m : ℕ). (step old.state.schema (now_of was) m entry.request).0) moment_is

    -- the body of the copy may be written
    pub writable_copy : (told : ℕ) (items body : List ℕ) → told ≡ length_of before → body ≡ items
        → IfSome ready.plan.change (IsWritable old.state.schema (durable old.state.state) told old.limits.side items)
        → IfSome copy (IsWritable old.state.schema (durable old.state.state) (length_of before) old.limits.side body)
    writable_copy told items body said shown spelled =
        let writable = subst (λ (b : List ℕ). IfSome ready.plan.change (IsWritable old.state.schema (durable old.state.state) told old.limits.side b)) (sym shown) spelled in
        subst (λ (made : Option Change). IfSome made (IsWritable old.state.schema (durable old.state.state) (length_of before) old.limits.side body)) (sym taken.made_is)
        (subst (λ (n : ℕ). IfSome ready.plan.change (IsWritable old.state.schema (durable old.state.state) n old.limits.side body)) said writable)

    pub writable_there : (body : List ℕ) → IfSome copy (IsWritable old.state.schema (durable old.state.state) (length_of before) old.limits.side body)
        → IfSome copy (IsWritable old.state.schema (durable old.state.state) (length_of before) (limit_of before) body)
    writable_there body writable = subst (λ (n : ℕ). IfSome copy (IsWritable old.state.schema (durable old.state.state) (length_of before) n body)) (sym is.limit) writable

    -- by how much the side is longer
    longer_is : (body : List ℕ) (side_now limit : ℕ) → IfSome copy (IsWritable old.state.schema (durable old.state.state) side_now limit body)
        → longer_by copy body ≡ added_by (body_length old.state.schema) (option_to_list copy)
    longer_is body side_now limit writable = by_case copy writable
      where
        by_case : (change : Option Change) → IfSome change (IsWritable old.state.schema (durable old.state.state) side_now limit body)
            → longer_by change body ≡ added_by (body_length old.state.schema) (option_to_list change)
        by_case None writable = refl
        by_case (Some change) writable = (let may = ap (λ (b : List ℕ). length b) writable.may.is in omega (arith, may))

    fits_is : (body : List ℕ) (side_now limit : ℕ) → side_now ≤ limit → IfSome copy (IsWritable old.state.schema (durable old.state.state) side_now limit body)
        → side_now + longer_by copy body ≤ limit
    fits_is body side_now limit within writable = by_case copy writable
      where
        by_case : (change : Option Change) → IfSome change (IsWritable old.state.schema (durable old.state.state) side_now limit body) → side_now + longer_by change body ≤ limit
        by_case None writable = omega (arith, within)
        by_case (Some change) writable = (let fits = writable.fits in omega (arith, fits))

    -- what is kept then
    pub done_store : (new : Course) (after : Journal D) (left : Option Change) (reply : Reply) (body : List ℕ)
        → IsCourse (opening_on old.state.schema bodies) new
        → Keeps images old.state.schema (played (durable old.state.state) (option_to_list copy)) left after
        → IfSome copy (IsWritable old.state.schema (durable old.state.state) (length_of before) old.limits.side body)
        → length_of after ≡ length_of before + longer_by copy body → limit_of after ≡ limit_of before
        → new.history.items ≡ mid.history.items ++ record entry { moment = ready.moment } ∷ []
        → (reply, new.state.state) ≡ step mid.state.schema mid.state.state ready.moment entry.request
        → new.state.schema ≡ mid.state.schema → new.limits ≡ mid.limits
        → IsStore images new after bodies side left
    done_store new after left reply body course keeps writable long limit entries stepped schema limits =
        let schema_is : new.state.schema ≡ old.state.schema = schema ∙ same.schema in
        let limits_is : new.limits ≡ old.limits = limits ∙ same.limits in
        let state_is : new.state.state ≡ (step old.state.schema old.state.state ready.moment entry.request).1 =
        ap (λ (d : Reply × State). d.1) stepped ∙ ap (λ (s : Schema). (step s mid.state.state ready.moment entry.request).1) same.schema
        ∙ ap (λ (s : State). (step old.state.schema s ready.moment entry.request).1) same.state in
        let kept_is : durable new.state.state ≡ played (durable old.state.state) (option_to_list copy) =
        ap durable state_is ∙ kept_after old.state.schema old.state.state ready.moment entry.request ready.plan taken.plan
        ∙ ap (λ (c : Option Change). played (durable old.state.state) (option_to_list c)) (sym taken.made_is) in
        let entries_is : new.history.items ≡ old.history.items ++ taken_up was entry ∷ [] =
        entries ∙ ap (λ (l : List Entry). l ++ record entry { moment = ready.moment } ∷ []) same.entries ∙ ap (λ (e : Entry). old.history.items ++ e ∷ []) taken_is in
        let longer : longer_by copy body ≡ added_by (body_length old.state.schema) (option_to_list (change_by was entry)) =
        longer_is body (length_of before) old.limits.side writable ∙ ap (λ (c : Option Change). added_by (body_length old.state.schema) (option_to_list c)) copy_by in
        let after_is : length_after old.state.schema side (opening_on old.state.schema bodies) (old.history.items ++ taken_up was entry ∷ [])
        ≡ length_after old.state.schema side (opening_on old.state.schema bodies) old.history.items + added_by (body_length old.state.schema) (option_to_list (change_by was entry)) =
        longer_with (body_length old.state.schema) old.state.schema side (opening_on old.state.schema bodies) old.history.items (taken_up was entry) in
        let old_length = is.length in
        let fits : length_of before + longer_by copy body ≤ old.limits.side = fits_is body (length_of before) old.limits.side is.within writable in
        record {
          kept = is.kept;
          come = rw schema_is is.come;
          memory = subst (λ (s : Schema). IsCourse (opening_on s bodies) new) (sym schema_is) course;
          keeps = rw (schema_is, kept_is) keeps;
          length = rw (schema_is, entries_is) (long ∙ (omega (arith, after_is, old_length, longer)));
          limit = rw limits_is (limit ∙ is.limit);
          within = rw limits_is (rw long fits);
        }

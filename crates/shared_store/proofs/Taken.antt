-- What a turn comes to for the seat that took it.
use Rattle.std.proofs.Common.{◌≡◌, ◌⊎◌, ℕ, ◌+◌, ◌<◌, ◌≤◌, min, max, set, List, [], ◌∷◌, ◌++◌, length, get_or, Option, Result, Ok, Err, refl, sym, ap, ◌∙◌, subst, arith, inl, inr}
use Rattle.std.specs.Prelude.{All}
use Rattle.std.proofs.lemmas.List.{get_or-set_same, length-replicate, length-append}
use Rattle.std.proofs.lemmas.List.Elements.{All-nil}
use mathlib.Core.List.{IsPrefix}
use Rattle.http_session.specs.declared.message.Message.{Message}
use Rattle.feature_values.specs.declared.schema.Schema.{Schema}
use Rattle.http_requests.specs.Asks.{asked}
use Rattle.http_requests.specs.Verdicts.{entry_of}
use Rattle.service_session.specs.declared.answered.Answered.{Answered}
use Rattle.service_session.specs.declared.answered.Answered.TheVariants as answered
use Rattle.shared_store.specs.declared.counter.Counter.{Counter}
use Rattle.snapshot_reads.specs.declared.book.Pair.{Pair}
use Rattle.snapshot_reads.specs.declared.viewer.Viewer.{Viewer}
use Rattle.service_session.specs.Solo.{answer_of}
use Rattle.shared_store.specs.Counters.{GoesOn, IsSettled, IsViewerAt, IsViewerOf, shown_in}
use Rattle.shared_store.specs.Knowing.{Known, RisesTo, KnowsMore, knows_same, prefix_self}
use Rattle.shared_store.specs.Openings.{HasLegalHistory, having, tally_of, StaysOpen, IsOneOf}
use Rattle.shared_store.specs.Published.{AreOf, FindsOne}
use Rattle.shared_store.specs.Seats.{IsOfOpening, HasViewer, AnswersBy, ReadsInTurn}
use Rattle.shared_store.specs.Turns.{seat_of, Finds, finding, HasOwnMore, having_left, Comes, HasLooked, ReadsAt, Answers, by_bytes, stepped, only_read, no_memory}
use Rattle.turnstile_core.specs.Places.{places_of}
use Rattle.turnstile_core.specs.Steps.{OpensAll, HasAll, grown, saw, shown_at, tallied}
use Rattle.turnstile_core.specs.declared.kept.Kept.{Ghosts as Meaning}
use Rattle.shared_store.proofs.Counting.{of_opening}
use Rattle.shared_store.proofs.Places.{prefix_longer, places_own}
use Rattle.shared_store.proofs.Steps.{opening_both}
use Rattle.wfs_ends.specs.Ends.{risen, last_count}
use Rattle.wfs_ends.specs.Read.{GivesBut, FailsBut}
use Rattle.wfs_model.specs.declared.entry.Entry.{Entry}
use Rattle.wfs_model.specs.declared.fault.AskFault.{AskFault}
use Rattle.wfs_model.specs.declared.fault.AskFault.TheVariants as ask
use Rattle.wfs_model.specs.declared.reply.Refusal.{Refusal}
use Rattle.wfs_model.specs.declared.reply.Reply.{Reply}
use Rattle.wfs_model.specs.declared.reply.Reply.TheVariants.{Refused}
use Rattle.wfs_model.specs.declared.request.Request.{Request}
use Rattle.wfs_model.specs.Changing.{IsChange}
use Rattle.query_docs.specs.Reading.{IsKeptText}
use Rattle.wfs_model.specs.OfSchema.{IsOfSchema, stored_in}
use Rattle.wfs_model.specs.Read.{read}
use Rattle.wfs_model.specs.State.{clamped}
use Rattle.wfs_store.specs.declared.fault.StepFault.{StepFault}
use Rattle.wfs_store.specs.declared.fault.StepFault.TheVariants as fault
use Rattle.wfs_store.specs.Held.{Held, kept_of}
use Rattle.wfs_store.specs.Past.{IsHistory}
use Rattle.wfs_store.specs.Stepped.{SameOpening, IsStepOf, taken_up}

pub same_head : {A : Type 0} (l : List A) (a b : A) → l ≡ a ∷ [] → l ≡ b ∷ [] → a ≡ b
same_head l a b e f = cc

-- the opening that a seat keeps is that of the first value
opened_by : {A : Type 0} (opening : A → A → Type 0) (l : List A) (a x : A) → l ≡ a ∷ [] → OpensAll opening l x → opening a x
opened_by {A} opening l a x e h = let at : OpensAll opening (a ∷ []) x = subst (λ (m : List A). OpensAll opening m x) e h in at.0

-- what a seat finds in its turn
pub record Found {D : Type 0} (faults : D → ℕ) (p : Known D) (x : Held D) : Type 0 where
  pub finds : Finds p x.entries
  pub tally : tally_of x p.number ≡ p.tally
  pub opened : (first : Counter D) → p.origin ≡ first ∷ [] → StaysOpen faults first.store x

-- what the store is to the turnstile
abbrev pub counter_meaning : {D : Type 0} (faults : D → ℕ) → Meaning (Counter D) Entry
counter_meaning faults = record {
  list = λ c. c.store.entries;
  seat_of = λ entry. entry.seat;
  tally = λ c seat. tally_of c.store seat;
  published = shown_in;
  settled = IsSettled;
  opening = GoesOn faults;
}

pub found_by : {D : Type 0} (faults : D → ℕ) (p : Known D) (x : Counter D) → HasAll (counter_meaning faults) x p → Found faults p x.store
found_by faults p x all = record {
  finds = record { begins = all.begins; front = all.front; places = all.places };
  tally = all.tally_is;
  opened = λ first origin. (opened_by (GoesOn faults) p.origin first x origin all.opened).store;
}

-- the publisher is the one with which the turnstile began
pub published_by : {D : Type 0} (faults : D → ℕ) (p : Known D) (x : Counter D) → HasAll (counter_meaning faults) x p → (first : Counter D) → p.origin ≡ first ∷ [] → x.publisher.seen.book ≡ first.publisher.seen.book
published_by faults p x all first origin = (opened_by (GoesOn faults) p.origin first x origin all.opened).publisher

-- ---- what the seat knows in its turn and behind it

module _ {D : Type 0} (p s : Known D) (x : Held D) (shown : ℕ) (found : s ≡ finding p x.entries shown) where
  -- the value has one entry more than the seat has seen, and it is the seat's own
  pub one_more : (x' : Held D) (taken : Entry) → x'.entries ≡ x.entries ++ taken ∷ [] → taken.seat ≡ p.number → HasOwnMore s x'.entries
  one_more x' taken is own = (taken, is ∙ ap (λ (k : Known D). k.seen ++ taken ∷ []) (sym found), own ∙ sym (ap (λ (k : Known D). k.number) found))

  pub number_found : s.number ≡ p.number
  number_found = ap (λ (k : Known D). k.number) found

-- a seat enters, shows and passes on
pub left_shown : {D : Type 0} (s1 s2 s3 s4 : Known D) (x z : Held D) (shown : ℕ) → s2 ≡ grown s1 x.entries → s3 ≡ shown_at s2 shown → z ≡ x → s4 ≡ tallied s3 (tally_of z s3.number)
    → s4 ≡ having_left s1 x s4.shown
left_shown {D} s1 s2 s3 s4 x z shown entered showed same passed =
    let told : s3 ≡ shown_at (grown s1 x.entries) shown = showed ∙ ap (λ (s : Known D). shown_at s shown) entered in
    let whole : s4 ≡ having_left s1 x shown =
    passed ∙ (ap (λ (s : Known D). tallied s (tally_of z s.number)) told ∙ ap (λ (h : Held D). tallied (shown_at (grown s1 x.entries) shown) (tally_of h s1.number)) same) in
    whole ∙ ap (having_left s1 x) (sym (ap (λ (s : Known D). s.shown) whole))

pub passed_entered : {D : Type 0} (p s q : Known D) (x x' : Held D) (before : ℕ) → s ≡ finding p x.entries before → q ≡ having_left s x' q.shown
    → q ≡ tallied (grown (finding p x.entries q.shown) x'.entries) (tally_of x' p.number)
passed_entered {D} p s q x x' before found passed = passed ∙ ap (λ (k : Known D). having_left k x' q.shown) found

module _ {D : Type 0} (p s1 s3 : Known D) (x x' : Held D) (shown : ℕ) where
  pub passed_alone : s1 ≡ finding p x.entries shown → s3 ≡ tallied s1 (tally_of x' s1.number) → s3 ≡ tallied (finding p x.entries shown) (tally_of x' p.number)
  passed_alone found passed = passed ∙ ap (λ (s : Known D). tallied s (tally_of x' s.number)) found

-- ---- the opening

-- a store has what its first has, where a definition reads schema, limits, opening and the current side
is_having : {D : Type 0} (first x : Held D) → SameOpening first x → having first x.entries ≡ record x { begun = first.begun; tally = first.tally; disks = first.disks }
is_having first x same = rw (same.schema, same.limits, same.opening, same.side, same.current) refl

legal_by : {D : Type 0} (faults : D → ℕ) (first x : Held D) → StaysOpen faults first x → first.entries ≡ [] → HasLegalHistory (having first x.entries)
legal_by faults first x kept none =
    let nothing : HasLegalHistory first = rw none (record { legal = tt; fitting = All-nil (λ (e : Entry). IsOfSchema first.schema e.request) }) in
    let now : IsHistory x.schema x.opening x.entries = kept.legal nothing in
    rw (kept.same.schema, kept.same.opening) at now

pub schema_found : {D : Type 0} (faults : D → ℕ) (schema : Schema) (p : Known D) (x : Held D) → IsOfOpening schema p → Found faults p x → x.schema ≡ schema
schema_found faults schema p x of found = (found.opened of.first of.origin).same.schema ∙ of.schema_is

-- what is asked of a request holds of the store's schema, and of the entry's request
pub fits_there : (schema there : Schema) (r r' : Request) → there ≡ schema → r' ≡ r → IsOfSchema schema r → IsOfSchema there r'
fits_there schema there r r' same is fits = subst (λ (s : Schema). IsOfSchema s r') (sym same) (subst (λ (q : Request). IsOfSchema schema q) (sym is) fits)

pub texts_there : (schema there : Schema) (r r' : Request) → there ≡ schema → r' ≡ r → All (IsKeptText schema) (stored_in r) → All (IsKeptText there) (stored_in r')
texts_there schema there r r' same is texts = subst (λ (s : Schema). All (IsKeptText s) (stored_in r')) (sym same) (subst (λ (q : Request). All (IsKeptText schema) (stored_in q)) (sym is) texts)

pub first_schema : {D : Type 0} (schema : Schema) (p : Known D) (first : Counter D) → IsOfOpening schema p → p.origin ≡ first ∷ [] → first.store.schema ≡ schema
first_schema schema p first of origin = ap (λ (c : Counter _). c.store.schema) (same_head p.origin first of.first origin of.origin) ∙ of.schema_is

-- the tally has a place for the seat
has_place : {D : Type 0} (faults : D → ℕ) (schema : Schema) (p : Known D) (x : Held D) → IsOfOpening schema p → Found faults p x → p.number < length x.tally
has_place faults schema p x of found =
    let long = (found.opened of.first of.origin).seats ∙ (ap length of.tally ∙ length-replicate {A = ℕ} 17 0) in
    let few = of.number in
    omega arith

-- ---- what a seat knows

knows_at : {D : Type 0} (p : Known D) (es : List Entry) (places : List ℕ) (tally shown : ℕ) → IsPrefix p.seen es → p.front ≤ length es → IsPrefix p.places places
    → places_of seat_of p.number es ≡ places → (p.tally ≤ last_count → RisesTo p.tally tally)
    → ((first : Counter D) → p.origin ≡ first ∷ [] → first.store.entries ≡ [] → HasLegalHistory (having first.store es))
    → KnowsMore p (record p { seen = es; front = length es; places = places; tally = tally; shown = shown })
knows_at p es places tally shown begins front kept own rises legal = record {
  number = refl;
  given = refl;
  origin = refl;
  seen = begins;
  front = front;
  kept = kept;
  places = λ before. own;
  tally = rises;
  legal = λ before. legal;
}

stays_risen : (n : ℕ) → n ≤ last_count → RisesTo n n
stays_risen n most = record { rises = omega arith; most = most }

module _ {D : Type 0} (faults : D → ℕ) (p : Known D) (x : Held D) (found : Found faults p x) (shown : ℕ) where
  -- behind a turn in which nothing was entered
  pub knows_found : (tally : ℕ) → (p.tally ≤ last_count → RisesTo p.tally tally) → KnowsMore p (tallied (finding p x.entries shown) tally)
  knows_found tally rises = knows_at p x.entries p.places tally shown found.finds.begins found.finds.front (prefix_self p.places) found.finds.places rises
      (λ first origin none. legal_by faults first.store x (found.opened first origin) none)

  -- behind a turn in which the seat entered an entry
  knows_entered : (x' : Held D) (e : Entry) → IsOneOf faults x p.number x' → x'.entries ≡ x.entries ++ e ∷ [] → e.seat ≡ p.number
      → KnowsMore p (grown (finding p x.entries shown) (x.entries ++ e ∷ []))
  knows_entered x' e one is own = knows_at p (x.entries ++ e ∷ []) (p.places ++ length x.entries ∷ []) p.tally shown
      (prefix_longer p.seen x.entries (e ∷ []) found.finds.begins)
      (let longer = length-append x.entries (e ∷ []) in let front = found.finds.front in omega arith)
      (prefix_longer p.places p.places (length x.entries ∷ []) (prefix_self p.places))
      (places_own seat_of p.number 0 x.entries e own ∙ (ap (λ (l : List ℕ). l ++ (0 + length x.entries) ∷ []) found.finds.places ∙ ap (λ (n : ℕ). p.places ++ n ∷ []) (let z : 0 + length x.entries ≡ length x.entries = omega arith in z)))
      (stays_risen p.tally)
      (λ first origin none. subst (λ (es : List Entry). HasLegalHistory (having first.store es)) is (legal_by faults first.store x' (one.opening first.store (found.opened first origin)) none))

-- ---- a step

-- what a step came to, told of the opening with the history that was found
comes_of : {D : Type 0} (first x : Held D) (p : Known D) (entry : Entry) (result : Result Reply StepFault) (shown : ℕ) (q : Known D) → SameOpening first x
    → Comes x p entry result shown q → Comes (having first x.entries) p entry result shown q
comes_of first x p entry (Ok reply) shown q same comes = subst (λ h. Comes h p entry (Ok reply) shown q) (sym (is_having first x same)) comes
comes_of first x p entry (Err fault.StoreFault) shown q same comes = subst (λ h. Comes h p entry (Err fault.StoreFault) shown q) (sym (is_having first x same)) comes
comes_of first x p entry (Err (fault.Full full)) shown q same comes = subst (λ h. Comes h p entry (Err (fault.Full full)) shown q) (sym (is_having first x same)) comes
comes_of first x p entry (Err fault.OutOfMemory) shown q same comes = comes

module _ {D : Type 0} (moment_of : D → ℕ) (since : D → ℕ → List ℕ → Type 0) (faults : D → ℕ) (schema : Schema) (p : Known D) (x x' : Held D) (of : IsOfOpening schema p) (found : Found faults p x) (entry : Entry) (own : entry.seat ≡ p.number) (shown : ℕ) where
  -- the tally of the seat, where no store fault came
  tally_kept : x'.tally ≡ x.tally → tally_of x' p.number ≡ p.tally
  tally_kept same = ap (λ (l : List ℕ). get_or l p.number 0) same ∙ found.tally

  comes_entered : (reply : Reply) (q : Known D) → IsStepOf moment_of since faults x entry (Ok reply) x'
      → q ≡ tallied (grown (finding p x.entries shown) x'.entries) (tally_of x' p.number) → Comes x p entry (Ok reply) shown q
  comes_entered reply q is knows = (
    is.limited,
    is.entered.1,
    knows
        ∙ (ap (λ (es : List Entry). tallied (grown (finding p x.entries shown) es) (tally_of x' p.number)) is.entered.0
        ∙ ap (λ (n : ℕ). tallied (grown (finding p x.entries shown) (x.entries ++ taken_up x entry ∷ [])) n) (tally_kept is.tallied)),
  )

  tally_risen : IsStepOf moment_of since faults x entry (Err fault.StoreFault) x' → tally_of x' p.number ≡ risen p.tally
  tally_risen is =
      let inside = has_place faults schema p x of found in
      let told : x'.tally ≡ set x.tally p.number (min (tally_of x p.number + 1) last_count) = rw own at is.tallied in
      ap (λ (l : List ℕ). get_or l p.number 0) told ∙ (get_or-set_same x.tally p.number (risen (tally_of x p.number)) 0 inside ∙ ap risen found.tally)

  -- behind a step that came to nothing
  comes_faulted : (e : StepFault) (q : Known D) → IsStepOf moment_of since faults x entry (Err e) x' → q ≡ tallied (finding p x.entries shown) (tally_of x' p.number) → Comes x p entry (Err e) shown q
  comes_faulted fault.StoreFault q is knows = (is.limited, is.unwritten, knows ∙ ap (λ (n : ℕ). tallied (finding p x.entries shown) n) (tally_risen is))
  comes_faulted (fault.Full full) q is knows = (is.limited, knows ∙ ap (λ (n : ℕ). tallied (finding p x.entries shown) n) (tally_kept is.tallied))
  comes_faulted fault.OutOfMemory q is knows = knows ∙ ap (λ (n : ℕ). tallied (finding p x.entries shown) n) (tally_kept is.tallied)

  rises_by : (n : ℕ) → n ≡ risen p.tally → p.tally ≤ last_count → RisesTo p.tally n
  rises_by n is most = record { rises = omega arith; most = omega arith }

  rises_kept : (n : ℕ) → n ≡ p.tally → p.tally ≤ last_count → RisesTo p.tally n
  rises_kept n is most = record { rises = omega arith; most = omega arith }

  rises_faulted : (e : StepFault) → IsStepOf moment_of since faults x entry (Err e) x' → p.tally ≤ last_count → RisesTo p.tally (tally_of x' p.number)
  rises_faulted fault.StoreFault is most = rises_by (tally_of x' p.number) (tally_risen is) most
  rises_faulted (fault.Full full) is most = rises_kept (tally_of x' p.number) (tally_kept is.tallied) most
  rises_faulted fault.OutOfMemory is most = rises_kept (tally_of x' p.number) (tally_kept is.tallied) most

  pub knows_faulted : (e : StepFault) (q : Known D) → IsStepOf moment_of since faults x entry (Err e) x' → q ≡ tallied (finding p x.entries shown) (tally_of x' p.number) → KnowsMore p q
  knows_faulted e q is knows = rw knows (knows_found faults p x found shown (tally_of x' p.number) (rises_faulted e is))

  pub knows_stepped : (reply : Reply) (q : Known D) → IsStepOf moment_of since faults x entry (Ok reply) x' → IsOneOf faults x entry.seat x'
      → q ≡ tallied (grown (finding p x.entries shown) x'.entries) (tally_of x' p.number) → KnowsMore p q
  knows_stepped reply q is one knows = rw (comes_entered reply q is knows).2 (knows_entered faults p x found shown x' (taken_up x entry) (rw own at one) is.entered.0 own)

  module _ (m : Message) (moment : ℕ) (request : Request) (is_entry : entry ≡ entry_of p.number request m moment) (asks : asked m schema ≡ Ok request) (change : IsChange request) (found' : List Pair) (known : AreOf x' found') where
    step_answers : (result : Result Reply StepFault) (answer : Answered) (q : Known D) → Comes x p entry result shown q → answer ≡ answer_of result → x'.entries ≡ q.seen → SameOpening x x'
        → AnswersBy p found' m moment answer q found'
    step_answers result answer q comes answer_is seen opening first origin =
        let same = (found.opened first origin).same in
        let known' : AreOf (having first.store q.seen) found' = subst (λ (es : List Entry). AreOf (having first.store es) found') seen (of_opening first.store x' found' (opening_both first.store x x' same opening) known) in
        stepped request x.entries result shown (rw (first_schema schema p first of origin) asks) change found.finds
        (subst (λ (e : Entry). Comes (having first.store x.entries) p e result shown q) is_entry (comes_of first.store x p entry result shown q same comes)) answer_is refl known'

    pub answers_entered : (reply : Reply) (answer : Answered) (q : Known D) → IsStepOf moment_of since faults x entry (Ok reply) x' → answer ≡ answered.Reply reply
        → q ≡ tallied (grown (finding p x.entries shown) x'.entries) (tally_of x' p.number) → AnswersBy p found' m moment answer q found'
    answers_entered reply answer q is answer_is knows = step_answers (Ok reply) answer q (comes_entered reply q is knows) answer_is (sym (ap (λ (s : Known D). s.seen) knows)) is.opening

    pub answers_faulted : (e : StepFault) (answer : Answered) (q : Known D) → IsStepOf moment_of since faults x entry (Err e) x' → answer ≡ answer_of (Err e)
        → q ≡ tallied (finding p x.entries shown) (tally_of x' p.number) → AnswersBy p found' m moment answer q found'
    answers_faulted e answer q is answer_is knows = step_answers (Err e) answer q (comes_faulted e q is knows) answer_is (is.entered ∙ sym (ap (λ (s : Known D). s.seen) knows)) is.opening

-- ---- a read

module _ {D : Type 0} (faults : D → ℕ) (schema : Schema) (p : Known D) (x : Held D) (of : IsOfOpening schema p) (found : Found faults p x) (shown : ℕ) (q : Known D) (knows : q ≡ tallied (finding p x.entries shown) (tally_of x p.number)) where
  found_as : q ≡ finding p x.entries shown
  found_as = knows ∙ ap (λ (n : ℕ). tallied (finding p x.entries shown) n) found.tally

  pub knows_read : KnowsMore p q
  knows_read = rw found_as (knows_found faults p x found shown p.tally (stays_risen p.tally))

  module _ (m : Message) (moment : ℕ) (request : Request) (asks : asked m schema ≡ Ok request) (reads : IsChange request → ⊥) (found' : List Pair) (known : AreOf x found') where
    reads_at : (answer : Answered) → (first : Counter D) → p.origin ≡ first ∷ []
        → (answer ≡ answered.Reply (read first.store.schema (kept_of (having first.store x.entries)) (clamped moment) request)) ⊎ (answer ≡ answered.OutOfMemory)
        → ReadsAt first.store p m moment answer q found'
    reads_at answer first origin is = record {
      request = request;
      entries = x.entries;
      shown = shown;
      asks = rw (first_schema schema p first of origin) asks;
      reads = reads;
      finds = found.finds;
      answers = is;
      knows = found_as;
      known = of_opening first.store x found' (found.opened first origin).same known;
    }

    pub answers_read : (reply : Reply) (answer : Answered) → reply ≡ read x.schema (kept_of x) (clamped moment) request → answer ≡ answered.Reply reply → ReadsInTurn p m moment answer q found'
    answers_read reply answer is answer_is first origin =
        let same = (found.opened first origin).same in
        let told : reply ≡ read first.store.schema (kept_of (having first.store x.entries)) (clamped moment) request = rw (same.schema, same.opening) at is in
        reads_at answer first origin (inl (answer_is ∙ ap (λ (r : Reply). answered.Reply r) told))

    pub answers_none : (answer : Answered) → answer ≡ answered.OutOfMemory → ReadsInTurn p m moment answer q found'
    answers_none answer answer_is first origin = reads_at answer first origin (inr answer_is)

-- ---- what needs no turn

-- the opening is still the seat's
pub opening_still : {D : Type 0} (schema : Schema) (p q : Known D) → IsOfOpening schema p → KnowsMore p q → IsOfOpening schema q
opening_still schema p q of more = record {
  first = of.first;
  origin = more.origin ∙ of.origin;
  schema_is = of.schema_is;
  rules = of.rules;
  tally = of.tally;
  number = rw more.number of.number;
}

pub refused_by : (schema : Schema) (m : Message) (r : Result Request AskFault) (e : AskFault) (refusal : Refusal) → GivesBut ask.OutOfMemory (λ (q : Request). q) r (asked m schema)
    → r ≡ Err e → e ≡ ask.Refused refusal → asked m schema ≡ Err (ask.Refused refusal)
refused_by schema m r e refusal read is is_e =
    let told : FailsBut ask.OutOfMemory (ask.Refused refusal) (asked m schema) = subst (λ (x : Result Request AskFault). GivesBut ask.OutOfMemory (λ (q : Request). q) x (asked m schema)) (is ∙ ap (λ (x : AskFault). Err x) is_e) read in
    told (λ z. cc)

pub answers_by_bytes : {D : Type 0} (schema : Schema) (p : Known D) (found : List Pair) (m : Message) (moment : ℕ) (refusal : Refusal) (answer : Answered) → IsOfOpening schema p → asked m schema ≡ Err (ask.Refused refusal)
    → answer ≡ answered.Reply (Refused refusal) → AnswersBy p found m moment answer p found
answers_by_bytes schema p found m moment refusal answer of asks is first origin = by_bytes refusal (rw (first_schema schema p first of origin) asks) is refl refl

pub answers_not : {D : Type 0} (p : Known D) (found found' : List Pair) (m : Message) (moment : ℕ) → FindsOne found found' → AnswersBy p found m moment answered.OutOfMemory p found'
answers_not p found found' m moment one first origin = no_memory [] 0 refl (inl refl) one

-- ---- a look at what is published

knows_looked : {D : Type 0} (p : Known D) (shown : ℕ) → KnowsMore p (saw p shown)
knows_looked p shown = record {
  number = refl;
  given = refl;
  origin = refl;
  seen = prefix_self p.seen;
  front = omega arith;
  kept = prefix_self p.places;
  places = λ own. own;
  tally = λ most. stays_risen p.tally most;
  legal = λ legal. legal;
}

pub knows_looks : {D : Type 0} (p q : Known D) → HasLooked p q → KnowsMore p q
knows_looks p q (inl same) = rw same (knows_same p)
knows_looks p q (inr looked) = rw looked.1 (knows_looked p looked.0)

finds_looked : {D : Type 0} (p q : Known D) (es : List Entry) → HasLooked p q → Finds q es → Finds p es
finds_looked {D} p q es (inl same) finds = subst (λ (k : Known D). Finds k es) same finds
finds_looked {D} p q es (inr looked) finds =
    let here : Finds (saw p looked.0) es = subst (λ (k : Known D). Finds k es) looked.1 finds in
    let low : p.front ≤ max p.front looked.0 = omega arith in
    let most = here.front in
    record { begins = here.begins; front = omega arith; places = here.places }

finding_looked : {D : Type 0} (p q : Known D) (es : List Entry) (shown : ℕ) → HasLooked p q → finding q es shown ≡ finding p es shown
finding_looked {D} p q es shown (inl same) = ap (λ (k : Known D). finding k es shown) same
finding_looked {D} p q es shown (inr looked) = ap (λ (k : Known D). finding k es shown) looked.1

answers_read_at : {D : Type 0} (first : Held D) (p q : Known D) (found found' : List Pair) (m : Message) (moment : ℕ) (answer : Answered) (request : Request) (entries : List Entry) (shown : ℕ)
    → asked m first.schema ≡ Ok request → (IsChange request → ⊥) → Finds p entries → q ≡ finding p entries shown → FindsOne found found' → AreOf (having first entries) found'
    → (answer ≡ answered.Reply (read first.schema (kept_of (having first entries)) (clamped moment) request)) ⊎ (answer ≡ answered.OutOfMemory) → Answers first p found m moment answer q found'
answers_read_at first p q found found' m moment answer request entries shown asks reads finds knows one known (inl is) = only_read request entries shown asks reads finds is knows one known
answers_read_at first p q found found' m moment answer request entries shown asks reads finds knows one known (inr is) = no_memory entries shown is (inr (finds, knows)) one

-- a read in a turn behind a look
pub answers_behind : {D : Type 0} (p p' : Known D) (found found' : List Pair) (m : Message) (moment : ℕ) (answer : Answered) (q : Known D) → HasLooked p p' → FindsOne found found'
    → ReadsInTurn p' m moment answer q found' → AnswersBy p found m moment answer q found'
answers_behind p p' found found' m moment answer q looked one reads first origin =
    let is = reads first ((knows_looks p p' looked).origin ∙ origin) in
    answers_read_at first.store p q found found' m moment answer is.request is.entries is.shown is.asks is.reads (finds_looked p p' is.entries looked is.finds)
    (is.knows ∙ finding_looked p p' is.entries is.shown looked) one is.known is.answers

-- ---- viewers in a turn

-- a desk's viewer views what the value in its turn publishes
pub viewer_at : {D : Type 0} (schema : Schema) (p : Known D) (viewer : Option Viewer) (y : Counter D) → IsOfOpening schema p → HasViewer schema p viewer
    → ((first : Counter D) → p.origin ≡ first ∷ [] → y.publisher.seen.book ≡ first.publisher.seen.book) → IsViewerAt y viewer
viewer_at schema p viewer y of has same = λ v is. has.at of.first of.origin v is ∙ sym (same of.first of.origin)

-- and goes on to be the viewer of a desk whose seat knows more
pub viewer_still : {D : Type 0} (schema : Schema) (p q : Known D) (viewer viewer' : Option Viewer) (y : Counter D) → HasViewer schema p viewer → KnowsMore p q
    → ((first : Counter D) → p.origin ≡ first ∷ [] → y.publisher.seen.book ≡ first.publisher.seen.book)
    → IsViewerAt y viewer' → ((s : Schema) → IsViewerOf s viewer → IsViewerOf s viewer') → HasViewer schema q viewer'
viewer_still schema p q viewer viewer' y has more same at of = record {
  of = of schema has.of;
  at = λ first origin v is. at v is ∙ same first (sym more.origin ∙ origin);
}

-- what a step of a store leaves has the opening that the store had
pub opening_kept : {D : Type 0} (faults : D → ℕ) (x y : Counter D) (seat : ℕ) → IsOneOf faults x.store seat y.store → y.publisher.seen.book ≡ x.publisher.seen.book → (z : Counter D) → GoesOn faults z x → GoesOn faults z y
opening_kept faults x y seat one same z h = record { store = one.opening z.store h.store; publisher = same ∙ h.publisher }

-- and so has a counter of the same store
pub opening_same : {D : Type 0} (faults : D → ℕ) (x y : Counter D) → y.store ≡ x.store → y.publisher.seen.book ≡ x.publisher.seen.book → (z : Counter D) → GoesOn faults z x → GoesOn faults z y
opening_same {D} faults x y same book z h = record { store = subst (λ (s : Held D). StaysOpen faults z.store s) (sym same) h.store; publisher = book ∙ h.publisher }

-- ---- what was found

pub found_same : (found found' : List Pair) → found' ≡ found → IsPrefix found found'
found_same found found' same = rw same (prefix_self found)

pub found_more : (found found' : List Pair) → FindsOne found found' → IsPrefix found found'
found_more found found' (inl same) = found_same found found' same
found_more found found' (inr one) = (one.0 ∷ [], sym one.1)

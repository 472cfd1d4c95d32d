-- A store and its publisher, as the history grows and as it is published.
use Rattle.std.proofs.Common.{◌≡◌, ◌⊎◌, inl, inr, ℕ, zero, suc, ◌+◌, ◌<◌, ◌≤◌, min, List, [], ◌∷◌, ◌++◌, length, take, take_all, Some, Result, Ok, Err, refl, sym, ap, ◌∙◌, arith, length-append}
use Rattle.std.specs.Prelude.{slice_get, All, OnOk, OnErr}
use Rattle.std.specs.Option.{option_to_list}
use Rattle.std.proofs.lemmas.List.{take-append-le}
use Rattle.std.proofs.lemmas.Option.{none-some, same_Some, slice_get_within}
use Rattle.feature_values.specs.declared.schema.Schema.{Schema}
use Rattle.snapshot_reads.specs.declared.book.Pair.{Pair}
use Rattle.snapshot_reads.specs.declared.publisher.Publisher.{Publisher}
use Rattle.snapshot_reads.specs.Content.{Content}
use Rattle.snapshot_reads.specs.Pairs.{pair, Stands, schema_in}
use Rattle.snapshot_reads.specs.Publishers.{given_of, shown_of, IsAbreast, IsBehind}
use Rattle.shared_store.specs.declared.counter.Counter.{Counter}
use Rattle.shared_store.specs.Counters.{IsSettled, Owes, shown_in}
use Rattle.shared_store.specs.Openings.{having}
use Rattle.shared_store.specs.Published.{pair_at, ArePairsOf, AreOf}
use Rattle.wfs_ends.specs.declared.fault.OutOfMemory.{OutOfMemory}
use Rattle.wfs_model.specs.declared.entry.Entry.{Entry}
use Rattle.wfs_model.specs.declared.reply.Reply.{Reply}
use Rattle.wfs_model.specs.History.{after_all, stepped}
use Rattle.wfs_model.specs.Kept.{IsKept}
use Rattle.wfs_model.specs.Played.{change_of, played}
use Rattle.wfs_model.specs.State.{Durable, durable}
use Rattle.wfs_model.proofs.Stepping.{step_follows, sound_kept}
use Rattle.wfs_store.specs.declared.fault.StepFault.{StepFault}
use Rattle.wfs_store.specs.Held.{Held, now_of, kept_of}
use Rattle.wfs_store.specs.Past.{last_made}
use Rattle.wfs_store.specs.Stepped.{SameOpening, IsStepOf, taken_up}
use Rattle.wfs_store.proofs.Histories.{after_more, last_more}

-- ---- pairs of a history

module _ {D : Type 0} where
  -- the same opening with the same first entries has the same pair
  same_pair : (x x' : Held D) (n : ℕ) → SameOpening x x' → take n x'.entries ≡ take n x.entries → pair_at x n ≡ pair_at x' n
  same_pair x x' n same e = rw (same.schema, same.opening, e) refl

  -- a history that goes on has the pairs that it had
  pub pairs_later : (x x' : Held D) (given : List Pair) (more : List Entry) → length given ≤ length x.entries + 1 → SameOpening x x' → x'.entries ≡ x.entries ++ more
      → ArePairsOf x given → ArePairsOf x' given
  pairs_later x x' given more few same is are n p at =
      let inside = slice_get_within given n p at in
      let first : take n x'.entries ≡ take n x.entries = ap (take n) is ∙ take-append-le n x.entries more (omega arith) in
      are n p at ∙ same_pair x x' n same first

  -- the pair of the whole history
  pub whole_pair : (x : Held D) (n : ℕ) → n ≡ length x.entries → pair_at x n ≡ pair n (record { schema = x.schema; kept = kept_of x })
  whole_pair x n long = ap (λ (es : List Entry). pair n (record { schema = x.schema; kept = kept_of (having x es) })) (take_all n x.entries (omega (arith, long)))

  -- pairs that stand among those that were given are of the history
  pub stand_of : (x : Held D) (given pairs : List Pair) → length given ≤ length x.entries + 1 → ArePairsOf x given → All (Stands given) pairs → AreOf x pairs
  stand_of x given pairs few are stand = λ k d h.
      let at = stand k d h in
      let inside = slice_get_within given _ _ at in
      record { within = omega arith; there = are _ _ at }

  -- told of the opening with the same history
  pub of_opening : (first x : Held D) (pairs : List Pair) → SameOpening first x → AreOf x pairs → AreOf (having first x.entries) pairs
  of_opening first x pairs same are = λ k d h.
      let one = are k d h in
      let opening : SameOpening (having first x.entries) x = record { schema = same.schema; limits = same.limits; opening = same.opening; side = same.side; current = same.current } in
      record { within = one.within; there = one.there ∙ sym (same_pair (having first x.entries) x _ opening refl) }

-- ---- a pair more

at_more : {A : Type 0} (xs : List A) (x : A) (n : ℕ) (y : A) → slice_get (xs ++ x ∷ []) n ≡ Some y → (slice_get xs n ≡ Some y) ⊎ ((n ≡ length xs) × (y ≡ x))
at_more [] x zero y e = inr (refl, sym (same_Some x y e))
at_more [] x (suc n) y e = absurd (none-some y e)
at_more (z ∷ xs) x zero y e = inl e
at_more (z ∷ xs) x (suc n) y e = later (at_more xs x n y e)
  where
    later : (slice_get xs n ≡ Some y) ⊎ ((n ≡ length xs) × (y ≡ x)) → (slice_get xs n ≡ Some y) ⊎ ((suc n ≡ suc (length xs)) × (y ≡ x))
    later (inl h) = inl h
    later (inr h) = inr (ap suc h.0, h.1)

pub pairs_given : {D : Type 0} (x : Held D) (given : List Pair) (p : Pair) → length given ≡ length x.entries → p ≡ pair_at x (length x.entries) → ArePairsOf x given → ArePairsOf x (given ++ p ∷ [])
pairs_given x given p long is are n q at = by_place (at_more given p n q at)
  where
    by_place : (slice_get given n ≡ Some q) ⊎ ((n ≡ length given) × (q ≡ p)) → q ≡ pair_at x n
    by_place (inl h) = are n q h
    by_place (inr h) = h.1 ∙ (is ∙ ap (pair_at x) (sym (h.0 ∙ long)))

-- ---- an entry more

module _ {D : Type 0} (moment_of : D → ℕ) (since : D → ℕ → List ℕ → Type 0) (faults : D → ℕ) (x x' : Held D) (entry : Entry) (given : List Pair) (few : length given ≤ length x.entries + 1) (are : ArePairsOf x given) where
  pairs_after : (r : Result Reply StepFault) → IsStepOf moment_of since faults x entry r x' → ArePairsOf x' given
  pairs_after (Ok reply) is = pairs_later x x' given (taken_up x entry ∷ []) few is.opening is.entered.0 are
  pairs_after (Err fault) is = λ n p at. are n p at ∙ same_pair x x' n is.opening (ap (take n) is.entered)

  -- the change of the last entry is still to be published
  change_owed : (reply : Reply) (shown : Pair) → IsStepOf moment_of since faults x entry (Ok reply) x' → IsKept x.schema (kept_of x) → Stands given shown → shown.front ≡ length x.entries
      → kept_of x' ≡ played shown.content.kept (option_to_list (last_made x'.schema x'.opening x'.entries))
  change_owed reply shown is well stands even =
      let taken : Entry = taken_up x entry in
      let before : shown.content.kept ≡ kept_of x = ap (λ (p : Pair). p.content.kept) (are shown.front shown stands ∙ whole_pair x shown.front even) in
      let step : durable (stepped x.schema (now_of x) taken) ≡ played (kept_of x) (option_to_list (change_of x.schema (now_of x) taken.moment taken.request)) =
      (step_follows x.schema (now_of x) taken.moment taken.request (sound_kept x.schema (kept_of x) well)).is in
      let after : durable (after_all x.schema x.opening (x.entries ++ taken ∷ [])) ≡ played (kept_of x) (option_to_list (last_made x.schema x.opening (x.entries ++ taken ∷ []))) =
      ap durable (after_more x.schema x.opening x.entries taken) ∙ (step ∙ ap (λ c. played (kept_of x) (option_to_list c)) (sym (last_more x.schema x.opening x.entries taken))) in
      rw (is.opening.schema, is.opening.opening, is.entered.0, before) after

module _ {D : Type 0} (moment_of : D → ℕ) (since : D → ℕ → List ℕ → Type 0) (faults : D → ℕ) (c c' : Counter D) (entry : Entry) (settled : IsSettled c) (same : c'.publisher ≡ c.publisher) where
  few : length (given_of c.publisher) ≤ length c.store.entries + 1
  few = omega (arith, settled.given)

  pub owes_after : (r : Result Reply StepFault) → IsStepOf moment_of since faults c.store entry r c'.store → IsKept c.store.schema (kept_of c.store) → Stands (given_of c.publisher) (shown_of c.publisher) → OnOk r (Owes c')
  owes_after (Ok reply) is well stands = record {
    pairs = rw same (pairs_after moment_of since faults c.store c'.store entry (given_of c.publisher) few settled.pairs (Ok reply) is);
    given = rw same (let longer = ap length is.entered.0 ∙ length-append c.store.entries (taken_up c.store entry ∷ []) in omega (arith, settled.given));
    change = rw same (λ abreast. change_owed moment_of since faults c.store c'.store entry (given_of c.publisher) few settled.pairs reply (shown_of c.publisher) is well stands (settled.shown abreast));
  }
  owes_after (Err fault) is well stands = tt

  pub settled_after : (r : Result Reply StepFault) → IsStepOf moment_of since faults c.store entry r c'.store → OnErr r (IsSettled c')
  settled_after (Ok reply) is = tt
  settled_after (Err fault) is = record {
    pairs = rw same (pairs_after moment_of since faults c.store c'.store entry (given_of c.publisher) few settled.pairs (Err fault) is);
    given = rw (same, is.entered) settled.given;
    shown = rw (same, is.entered) settled.shown;
  }

-- ---- what is shown

module _ {D : Type 0} (x x' : Counter D) (same : x'.publisher ≡ x.publisher) where
  -- an entry more takes nothing from what is shown
  pub shown_grows : (taken : Entry) → x'.store.entries ≡ x.store.entries ++ taken ∷ [] → shown_in x ≤ shown_in x'
  shown_grows taken is =
      let fronts = ap (λ (p : Publisher). (shown_of p).front) same in
      let longer = ap length is ∙ length-append x.store.entries (taken ∷ []) in
      omega (arith, fronts, longer)

  pub shown_stays : x'.store.entries ≡ x.store.entries → shown_in x' ≡ shown_in x
  shown_stays is = ap (λ (p : Publisher). min (shown_of p).front (length x'.store.entries)) same ∙ ap (λ (es : List Entry). min (shown_of x.publisher).front (length es)) is

-- ---- the first pair

-- a store without a history has the pair of front 0
pub first_pairs : {D : Type 0} (x : Held D) (given : List Pair) → x.entries ≡ [] → given ≡ pair 0 (record { schema = x.schema; kept = kept_of x }) ∷ [] → ArePairsOf x given
first_pairs x given none is n p at = by_place (at_more [] _ n p (ap (λ (l : List Pair). slice_get l n) (sym is) ∙ at))
  where
    by_place : (slice_get [] n ≡ Some p) ⊎ ((n ≡ 0) × (p ≡ pair 0 (record { schema = x.schema; kept = kept_of x }))) → p ≡ pair_at x n
    by_place (inl h) = absurd (none-some p h)
    by_place (inr h) = h.1 ∙ (sym (whole_pair x 0 (sym (ap length none))) ∙ ap (pair_at x) (sym h.0))

-- ---- what was owed is published

-- all given pairs are of the store's schema
pub schema_given : {D : Type 0} (x : Held D) (given : List Pair) → ArePairsOf x given → 0 < length given → schema_in given ≡ x.schema
schema_given x [] are some = absurd (omega arith)
schema_given x (p ∷ ps) are some = ap (λ (q : Pair). q.content.schema) (are 0 p refl)

-- the pair of the whole history, told of what is kept
pub pair_now : {D : Type 0} (x : Held D) (front : ℕ) (content : Content) → front ≡ length x.entries → content.schema ≡ x.schema → content.kept ≡ kept_of x → pair front content ≡ pair_at x (length x.entries)
pair_now x front content long same is =
    let there : pair front content ≡ pair front (record { schema = x.schema; kept = kept_of x }) =
    ap (λ (s : Schema). pair front (record { schema = s; kept = content.kept })) same ∙ ap (λ (k : Durable). pair front (record { schema = x.schema; kept = k })) is in
    there ∙ (sym (whole_pair x front long) ∙ ap (pair_at x) long)

module _ (old new : Publisher) (front : ℕ) (content : Content) where
  pub abreast_shown : (r : Result (Unit {0}) OutOfMemory) → OnOk r (shown_of new ≡ pair front content) → OnErr r (IsBehind new) → IsAbreast new → (shown_of new).front ≡ front
  abreast_shown (Ok done) ok err abreast = ap (λ (p : Pair). p.front) ok
  abreast_shown (Err e) ok err abreast = absurd (let bad = err in let is = abreast in cc)

  -- what is shown rises, to the new front at the most
  pub shown_rises : (r : Result (Unit {0}) OutOfMemory) → (shown_of old).front ≤ front → OnOk r (shown_of new ≡ pair front content) → OnErr r ((shown_of new ≡ shown_of old) ⊎ (shown_of new ≡ pair front content))
      → ((shown_of old).front ≤ (shown_of new).front) × ((shown_of new).front ≤ front)
  shown_rises r low ok err = by_front r ok err
    where
      to : (shown_of new ≡ pair front content) → ((shown_of old).front ≤ (shown_of new).front) × ((shown_of new).front ≤ front)
      to e = let same = ap (λ (p : Pair). p.front) e in (omega (arith, low, same), omega (arith, same))

      stays : (shown_of new ≡ shown_of old) → ((shown_of old).front ≤ (shown_of new).front) × ((shown_of new).front ≤ front)
      stays e = let same = ap (λ (p : Pair). p.front) e in (omega (arith, same), omega (arith, low, same))

      by_front : (r : Result (Unit {0}) OutOfMemory) → OnOk r (shown_of new ≡ pair front content) → OnErr r ((shown_of new ≡ shown_of old) ⊎ (shown_of new ≡ pair front content))
          → ((shown_of old).front ≤ (shown_of new).front) × ((shown_of new).front ≤ front)
      by_front (Ok done) ok err = to ok
      by_front (Err e) ok (inl same) = stays same
      by_front (Err e) ok (inr is) = to is

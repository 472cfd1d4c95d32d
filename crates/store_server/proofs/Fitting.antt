-- All workers have left their seats, and the turnstile has given the store back: they fit its history.
use Rattle.std.proofs.Common.{◌≡◌, ℕ, zero, suc, ◌+◌, ◌<◌, ◌≤◌, List, [], ◌∷◌, length, map, get_or, replicate, Option, Some, refl, sym, ap, ◌∙◌, subst, arith}
use Rattle.std.specs.Prelude.{slice_get, All}
use Rattle.std.specs.List.{range_with_len}
use Rattle.std.proofs.lemmas.Option.{same_Some, slice_get_within, slice_get-get_or, get_or_from_slice_get}
use Rattle.std.proofs.lemmas.List.{length-replicate, length-map, get_or-replicate}
use Rattle.std.proofs.lemmas.List.Elements.{All-nil, All-map}
use Rattle.std.proofs.lemmas.List.FromFn.{length-range_with_len, get_or-range_with_len, length-map-range_with_len, get_or-map-range_with_len}
use Rattle.atomic_table.specs.Seated.{TableId}
use Rattle.feature_schema.specs.Rules.{KeepsRules}
use Rattle.feature_values.specs.declared.schema.Schema.{Schema}
use Rattle.service_doors.specs.Accepting.{Accepting}
use Rattle.snapshot_reads.specs.declared.book.Pair.{Pair}
use Rattle.store_server.specs.declared.slot.Ended.{Ended}
use Rattle.store_server.specs.declared.slot.Slot.{Slot}
use Rattle.store_server.specs.Giving.{given_by, fresh_seat, fresh_seats}
use Rattle.store_server.specs.Seating.{AreInOrder, HaveWorked}
use Rattle.store_server.specs.Serving.{Works, WorkerFits, RunFits}
use Rattle.store_server.proofs.Lists.{get_within, elem_at, get_at}
use Rattle.shared_store.proofs.Taken.{counter_meaning, Found, found_by, published_by}
use Rattle.shared_store.specs.declared.counter.Counter.{Counter}
use Rattle.shared_store.specs.Knowing.{Known, KnowsMore}
use Rattle.shared_store.specs.Openings.{HasLegalHistory, StaysOpen, tally_of}
use Rattle.shared_store.specs.Published.{AreOf}
use Rattle.shared_store.specs.Seats.{IsOfOpening}
use Rattle.shared_store.specs.Turns.{seat_of}
use Rattle.turnstile_core.specs.Closing.{AreAllSeats, Ends}
use Rattle.turnstile_core.specs.Places.{places_of}
use Rattle.turnstile_core.specs.declared.view.Past.{Past}
use Rattle.turnstile_core.proofs.Callers.{all_in_order}
use Rattle.wfs_model.specs.declared.entry.Entry.{Entry}
use Rattle.wfs_model.specs.OfSchema.{IsOfSchema}

-- ---- seats that have seen nothing

module _ {T E : Type 0} (origin : List T) (many : ℕ) where
  pub fresh_at : (k : ℕ) → k < many → slice_get (fresh_seats {T = T} {E = E} origin many) k ≡ Some (fresh_seat origin many k)
  fresh_at k h =
      let seat = fresh_seat {T = T} {E = E} origin many in
      let inside : k < length (map seat (range_with_len 0 many)) = let l = length-map-range_with_len seat 0 many in omega arith in
      slice_get-get_or (map seat (range_with_len 0 many)) k (seat k) inside ∙ ap (λ (p : Past T E). Some p) (get_or-map-range_with_len seat 0 many k k (seat k) h (omega arith))

  pub fresh_in_order : AreInOrder (fresh_seats {T = T} {E = E} origin many)
  fresh_in_order k p e =
      let h : k < many = let i = slice_get_within (fresh_seats {T = T} {E = E} origin many) k p e in let l = length-map-range_with_len (fresh_seat {T = T} {E = E} origin many) 0 many in omega arith in
      sym (ap (λ (q : Past T E). q.number) (same_Some (fresh_seat origin many k) p (sym (fresh_at k h) ∙ e)))

-- they are of the turnstile that began with this
pub fresh_began : {D : Type 0} (first : Counter D) (many : ℕ) → All (λ (p : Known D). p.origin ≡ first ∷ []) (fresh_seats (first ∷ []) many)
fresh_began first many = All-map (λ (p : Known _). p.origin ≡ first ∷ []) (fresh_seat (first ∷ []) many) (range_with_len 0 many) (λ k d h. refl)

-- they are of the opening of a store that has taken no step
pub fresh_open : {D : Type 0} (schema : Schema) (first : Counter D) (many : ℕ) → first.store.schema ≡ schema → KeepsRules first.store.schema → first.store.tally ≡ replicate 17 0 → many ≤ 16
    → All (IsOfOpening schema) (fresh_seats (first ∷ []) many)
fresh_open schema first many same rules tally few = All-map (IsOfOpening schema) (fresh_seat (first ∷ []) many) (range_with_len 0 many) (λ k d h.
    let inside : k < many = let l = length-range_with_len 0 many in omega arith in
    let at : get_or (range_with_len 0 many) k d ≡ 0 + k = get_or-range_with_len 0 many k d inside in
    let number : get_or (range_with_len 0 many) k d ≤ 16 = omega arith in record {
      first = first;
      origin = refl;
      schema_is = same;
      rules = subst KeepsRules same rules;
      tally = tally;
      number = number;
    })

-- no step of a fresh store has ended in a store fault
none_of : (xs : List ℕ) (n : ℕ) → ((k : ℕ) → k < length xs → get_or xs k 0 ≡ 0) → get_or xs n 0 ≡ 0
none_of [] n all = refl
none_of (x ∷ xs) zero all = all 0 (omega arith)
none_of (x ∷ xs) (suc n) all = none_of xs n (λ k h. all (suc k) (omega arith))

pub no_tally : (tally : List ℕ) → tally ≡ replicate 17 0 → (n : ℕ) → get_or tally n 0 ≡ 0
no_tally tally zeros n = subst (λ (l : List ℕ). get_or l n 0 ≡ 0) (sym zeros)
    (none_of (replicate 17 0) n (λ k h. get_or-replicate 17 k 0 0 (let long : length (replicate {A = ℕ} 17 0) ≡ 17 = length-replicate {A = ℕ} 17 0 in omega arith)))

-- the seats that were given to a run
pub given_all : {D : Type 0} (seats : List (Known D)) (origin : List (Counter D)) (first : Counter D) (n many : ℕ) → seats ≡ fresh_seats origin n → origin ≡ first ∷ [] → n ≡ many
    → seats ≡ fresh_seats (first ∷ []) many
given_all {D} seats origin first n many all same count =
    let told : List (Counter D) → ℕ → List (Known D) = λ l k. fresh_seats l k in
    all ∙ (ap (λ (l : List (Counter D)). told l n) same ∙ ap (told (first ∷ [])) count)

pub given_many : {S T E : Type 0} (past : S → Past T E) (seats : List S) (origin : List T) (n : ℕ) → map past seats ≡ fresh_seats origin n → length seats ≡ n
given_many {S} {T} {E} past seats origin n all = sym (length-map seats past) ∙ (ap length all ∙ length-map-range_with_len (fresh_seat {T = T} {E = E} origin n) 0 n)

-- ---- the end

module _ {A C G D : Type 0} (faults : D → ℕ) (accepting : A → Accepting) (moments : C → Option (List ℕ)) (limit : Option ℕ) (name : TableId) (first : Counter D) (slots : List (Slot A C G)) (ended : List (Ended A C G))
    (seats : List (Known D)) (views : List (List Pair)) (worked : HaveWorked accepting moments limit name first.store.schema slots (fresh_seats (first ∷ []) (length slots)) ended seats views) where
  did : (k : ℕ) (slot : Slot A C G) (e : Ended A C G) (p : Known D) (pairs : List Pair) → slice_get slots k ≡ Some slot → slice_get ended k ≡ Some e → slice_get seats k ≡ Some p → slice_get views k ≡ Some pairs
      → Works accepting moments limit name first.store.schema slot (fresh_seat (first ∷ []) (length slots) k) e p pairs
  did k slot e p pairs s at there f = worked.each k slot (fresh_seat (first ∷ []) (length slots) k) e p pairs s (fresh_at (first ∷ []) (length slots) k (slice_get_within slots k slot s)) at there f

  -- what a seat knows at the end
  knows : (k : ℕ) (p : Known D) → slice_get seats k ≡ Some p → KnowsMore (fresh_seat (first ∷ []) (length slots) k) p
  knows k p there =
      let i = slice_get_within seats k p there in
      let many = worked.seats in let most = worked.as_many in
      let slot = get_within slots k (omega arith) in
      let e = get_within ended k (omega arith) in
      let f = let views_many = worked.views in get_within views k (omega arith) in
      (did k slot.0 e.0 p f.0 slot.1 e.1 there f.1).becomes.leads.knows

  pub all_seats : 0 < length slots → AreAllSeats seats
  all_seats some_slot =
      let many = worked.seats in
      let zeroth = get_within seats 0 (omega arith) in
      let gave : zeroth.0.given ≡ given_by (length slots) 0 = (knows 0 zeroth.0 zeroth.1).given in
      all_in_order seats zeroth.0 (elem_at seats 0 zeroth.0 zeroth.1) (omega arith) (λ k p at. (knows k p (get_at seats k p at)).number)

  -- all seats are of the turnstile that began with this
  pub all_began : All (λ (p : Known D). p.origin ≡ first ∷ []) seats
  all_began k d h = (knows k (get_or seats k d) (slice_get-get_or seats k d h)).origin

  module _ (last : Counter D) (none : first.store.entries ≡ []) (some_slot : 0 < length slots) (ends : Ends (counter_meaning faults) seats last) (known : All (AreOf last.store) views) where
    found : (k : ℕ) (p : Known D) → slice_get seats k ≡ Some p → Found faults p last.store
    found k p there = found_by faults p last (ends.each p (k, elem_at seats k p there))

    opened : StaysOpen faults first.store last.store
    opened = let many = worked.seats in let zeroth = get_within seats 0 (omega arith) in
        (found 0 zeroth.0 zeroth.1).opened first (knows 0 zeroth.0 zeroth.1).origin

    nothing : HasLegalHistory first.store
    nothing = rw none (record { legal = tt; fitting = All-nil (λ (e : Entry). IsOfSchema first.store.schema e.request) })

    fits : (k : ℕ) (slot : Slot A C G) (e : Ended A C G) → slice_get slots k ≡ Some slot → slice_get ended k ≡ Some e → WorkerFits accepting moments limit name first last.store (length slots) k slot e
    fits k slot e s at =
        let i = slice_get_within slots k slot s in let many = worked.seats in let views_many = worked.views in
        let p = get_within seats k (omega arith) in
        let f = get_within views k (omega arith) in
        let it = found k p.0 p.1 in
        let inside = slice_get_within views k f.0 f.1 in
        let published : AreOf last.store f.0 = subst (AreOf last.store) (get_or_from_slice_get views k f.0 f.0 f.1) (known k f.0 inside) in
        let number : p.0.number ≡ k = (knows k p.0 p.1).number in record {
          knows = p.0;
          found = f.0;
          worked = did k slot e p.0 f.0 s at p.1 f.1;
          begins = it.finds.begins;
          published = published;
          places = ap (λ (n : ℕ). places_of seat_of n last.store.entries) (sym number) ∙ it.finds.places;
          tally = ap (tally_of last.store) (sym number) ∙ it.tally;
        }

    run_fits : RunFits accepting moments limit faults first.store slots last.store ended
    run_fits = record {
      name = name;
      counter = first;
      began = refl;
      legal = opened.legal nothing;
      opening = opened;
      as_many = worked.as_many;
      each = fits;
      others = λ n most. ends.none n (λ p has same.
          let there = get_at seats has.0 p has.1 in
          let inside = slice_get_within seats has.0 p there in
          let number : p.number ≡ has.0 = (knows has.0 p there).number in
          let many = worked.seats in omega arith);
    }

-- the same, told of the seats as they were given, and of the schema that is served
module _ {A C G D : Type 0} (faults : D → ℕ) (accepting : A → Accepting) (moments : C → Option (List ℕ)) (limit : Option ℕ) (name : TableId) (schema : Schema) (first : Counter D) (slots : List (Slot A C G)) (ended : List (Ended A C G))
    (old new : List (Known D)) (views : List (List Pair)) (same : first.store.schema ≡ schema) (given : old ≡ fresh_seats (first ∷ []) (length slots)) (worked : HaveWorked accepting moments limit name schema slots old ended new views) where
  worked_fresh : HaveWorked accepting moments limit name first.store.schema slots (fresh_seats (first ∷ []) (length slots)) ended new views
  worked_fresh = subst (λ (x : Schema). HaveWorked accepting moments limit name x slots (fresh_seats (first ∷ []) (length slots)) ended new views) (sym same)
      (subst (λ (l : List (Known D)). HaveWorked accepting moments limit name schema slots l ended new views) given worked)

  pub all_back : 0 < length slots → AreAllSeats new
  all_back some_slot = all_seats faults accepting moments limit name first slots ended new views worked_fresh some_slot

  -- the publisher at the end is the one with which the turnstile began
  pub publisher_back : (last : Counter D) → 0 < length slots → Ends (counter_meaning faults) new last → last.publisher.seen.book ≡ first.publisher.seen.book
  publisher_back last some_slot ends =
      let many = worked.seats in
      let zeroth = get_within new 0 (omega arith) in
      published_by faults zeroth.0 last (ends.each zeroth.0 (0, elem_at new 0 zeroth.0 zeroth.1)) first
      (knows faults accepting moments limit name first slots ended new views worked_fresh 0 zeroth.0 zeroth.1).origin

  pub all_fit : (last : Counter D) → first.store.entries ≡ [] → 0 < length slots → Ends (counter_meaning faults) new last → All (AreOf last.store) views
      → RunFits accepting moments limit faults first.store slots last.store ended
  all_fit last none some_slot ends known = run_fits faults accepting moments limit name first slots ended new views worked_fresh last none some_slot ends known

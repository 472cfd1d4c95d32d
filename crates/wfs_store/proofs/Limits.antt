-- Which limit an entry would pass, by its parts.
use Rattle.std.proofs.Common.{◌≡◌, ℕ, ◌+◌, ◌≤◌, Bool, true, false, List, [], ◌∷◌, ◌++◌, length, Option, Some, None, refl, sym, subst, length-append, arith}
use Rattle.std.specs.Prelude.{◌&&◌, if◌then◌else◌, nat_lt}
use Rattle.std.specs.Option.{option_or, option_to_list}
use Rattle.feature_values.specs.declared.schema.Schema.{Schema}
use Rattle.lock_table.specs.Held.{live, first_of}
use Rattle.service_state.specs.Passed.{passed_between}
use Rattle.wfs_model.specs.declared.change.Change.{Change}
use Rattle.wfs_model.specs.declared.entry.Entry.{Entry}
use Rattle.wfs_model.specs.declared.limits.Limits.{Limits}
use Rattle.wfs_model.specs.declared.limits.LimitName.TheVariants.{Entries, Bytes, Features, Ids, Locks, Stored}
use Rattle.wfs_model.specs.declared.limits.FullAt.{FullAt}
use Rattle.wfs_model.specs.Full.{Quantities, quantities, passes, some_passes, at_limit, first_passed, full_at}
use Rattle.wfs_model.specs.History.{after_all, stepped, timed}
use Rattle.wfs_model.specs.Played.{accepted, change_of}
use Rattle.wfs_model.specs.State.{State, moment_in}
use Rattle.wfs_model.specs.Step.{step}
use Rattle.wfs_store.specs.Judged.{passed_by_count, passed_by_side, added_by}
use Rattle.wfs_store.specs.Past.{bytes_of, IsPast}
use Rattle.wfs_store.proofs.Histories.{after_more, bytes_more, added_more}

-- quantities as a store has them
abbrev pub measured : (count bytes side moment : ℕ) → State → Quantities
measured count bytes side moment state = record {
  entries = count;
  bytes = bytes;
  features = length state.features;
  ids = state.counters;
  locks = length (live moment state.locks);
  stored = length state.stored;
  side = side;
}

six_and_side : (a b c d e f s : Option FullAt)
    → first_of (λ passed. passed) (a ∷ b ∷ c ∷ d ∷ e ∷ f ∷ s ∷ [])
    ≡ option_or (option_or a b) (option_or (first_of (λ passed. passed) (None ∷ None ∷ c ∷ d ∷ e ∷ f ∷ None ∷ [])) s)
unfolding first_of
six_and_side None None None None None None None = refl
six_and_side None None None None None None (Some s) = refl
six_and_side None None None None None (Some f) s = refl
six_and_side None None None None (Some e) f s = refl
six_and_side None None None (Some d) e f s = refl
six_and_side None None (Some c) d e f s = refl
six_and_side None (Some b) c d e f s = refl
six_and_side (Some a) b c d e f s = refl

first_by_parts : (limits : Limits) (body : Change → ℕ) (count bytes size side moment : ℕ) (change : Option Change) (before after : State)
    → first_passed limits (measured count bytes side moment before)
    (measured (count + 1) (bytes + size) (side + added_by body (option_to_list change)) moment after)
    ≡ option_or (passed_by_count limits count bytes size)
    (option_or (passed_between limits moment before after) (passed_by_side limits.side body side change))
unfolding first_passed
first_by_parts limits body count bytes size side moment change before after =
    six_and_side (at_limit Entries (passes limits.entries count (count + 1))) (at_limit Bytes (passes limits.bytes bytes (bytes + size)))
    (at_limit Features (passes limits.features (length before.features) (length after.features)))
    (at_limit Ids (some_passes limits.ids before.counters after.counters))
    (at_limit Locks (passes limits.locks (length (live moment before.locks)) (length (live moment after.locks))))
    (at_limit Stored (passes limits.stored (length before.stored) (length after.stored)))
    (passed_by_side limits.side body side change)

-- the limit that one more entry would pass: by the count of entries and of their bytes, by the state, by the journal's side
pub full_by_parts : (schema : Schema) (body : Change → ℕ) (start : ℕ) (opening : State) (limits : Limits) (entries : List Entry) (entry : Entry)
    → (let now : State = after_all schema opening entries in
    full_at schema body start opening limits entries entry
    ≡ option_or (passed_by_count limits (length entries) (bytes_of entries) entry.size)
    (option_or (passed_between limits entry.moment now (stepped schema now entry))
    (passed_by_side limits.side body (start + added_by body (accepted schema opening entries)) (change_of schema now entry.moment entry.request))))
unfolding full_at quantities
full_by_parts schema body start opening limits entries entry =
    let now : State = after_all schema opening entries in
    let change : Option Change = change_of schema now entry.moment entry.request in
    let past : ℕ = added_by body (accepted schema opening entries) in
    let longer : start + added_by body (accepted schema opening (entries ++ entry ∷ [])) ≡ (start + past) + added_by body (option_to_list change) =
    (let more = added_more body schema opening entries entry in omega (arith, more)) in
    rw (after_more schema opening entries entry, bytes_more entries entry, length-append entries (entry ∷ []), longer)
    (first_by_parts limits body (length entries) (bytes_of entries) entry.size (start + past) entry.moment change now (stepped schema now entry))

-- the same of what stands in memory, for an entry that is taken up there
pub full_for_past : (schema : Schema) (body : Change → ℕ) (start : ℕ) (opening now : State) (limits : Limits) (entries : List Entry) (size : ℕ) (made : Option Change) (entry : Entry) (moment : ℕ)
    → IsPast schema opening now entries size made → moment ≡ moment_in now entry.moment
    → full_at schema body start opening limits entries (timed now entry)
    ≡ option_or (passed_by_count limits (length entries) size entry.size)
    (option_or (passed_between limits moment now (step schema now moment entry.request).1)
    (passed_by_side limits.side body (start + added_by body (accepted schema opening entries)) (change_of schema now moment entry.request)))
full_for_past schema body start opening now limits entries size made entry moment past at =
    let Judged : State → Type 0 = λ s.
    full_at schema body start opening limits entries (timed s entry)
    ≡ option_or (passed_by_count limits (length entries) (bytes_of entries) entry.size)
    (option_or (passed_between limits (moment_in s entry.moment) s (step schema s (moment_in s entry.moment) entry.request).1)
    (passed_by_side limits.side body (start + added_by body (accepted schema opening entries)) (change_of schema s (moment_in s entry.moment) entry.request))) in
    let there : Judged (after_all schema opening entries) = full_by_parts schema body start opening limits entries (timed (after_all schema opening entries) entry) in
    rw (past.bytes, at) (subst Judged (sym past.state) there)

-- a size that passes no limit is within it
pub few_more : (limits : Limits) (count bytes size : ℕ) → bytes ≤ limits.bytes → passed_by_count limits count bytes size ≡ None → bytes + size ≤ limits.bytes
few_more limits count bytes size few is = by_test (nat_lt bytes (bytes + size)) (nat_lt limits.bytes (bytes + size)) refl refl (second_none (at_limit Entries (passes limits.entries count (count + 1))) _ is)
  where
    second_none : (a b : Option FullAt) → option_or a b ≡ None → b ≡ None
    second_none None b is = is
    second_none (Some at) b is = absurd cc

    by_test : (p q : Bool) → nat_lt bytes (bytes + size) ≡ p → nat_lt limits.bytes (bytes + size) ≡ q
        → at_limit Bytes (if p && q then Some bytes else None) ≡ None → bytes + size ≤ limits.bytes
    by_test true true p q is = absurd cc
    by_test true false p q is = grind (arith, q)
    by_test false q p other is = let same : size ≡ 0 = grind (arith, p) in omega (arith, same, few)

-- where no limit is passed, none of the parts passes one
pub none_passed : (a b c : Option FullAt) → option_or a (option_or b c) ≡ None → (a ≡ None) × ((b ≡ None) × (c ≡ None))
none_passed None None None is = (refl, (refl, refl))
none_passed None None (Some at) is = absurd cc
none_passed None (Some at) c is = absurd cc
none_passed (Some at) b c is = absurd cc

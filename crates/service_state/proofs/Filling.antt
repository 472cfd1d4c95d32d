-- The first limit that one more entry would pass, by what is judged one after the other: entries, their bytes, what the state tells, and the side.
use Rattle.std.proofs.Common.{◌≡◌, ℕ, ◌+◌, List, [], ◌∷◌, ◌++◌, length, Option, Some, None, refl, sym, ap, ◌∙◌, append_assoc, length-append, arith}
use Rattle.std.specs.List.{sum_by}
use Rattle.std.specs.Option.{option_or, option_to_list}
use Rattle.std.proofs.lemmas.List.Sums.{fold-append, sum_by-append, sum_by-cons}
use Rattle.feature_values.specs.declared.schema.Schema.{Schema}
use Rattle.lock_table.specs.Held.{first_of, live}
use Rattle.service_state.specs.Passed.{passed_between}
use Rattle.wfs_model.specs.declared.change.Change.{Change}
use Rattle.wfs_model.specs.declared.entry.Entry.{Entry}
use Rattle.wfs_model.specs.declared.limits.FullAt.{FullAt}
use Rattle.wfs_model.specs.declared.limits.LimitName.TheVariants.{Entries, Bytes, Features, Ids, Locks, Stored, Side}
use Rattle.wfs_model.specs.declared.limits.Limits.{Limits}
use Rattle.wfs_model.specs.Full.{Quantities, at_limit, first_passed, full_at, passes, quantities, some_passes}
use Rattle.wfs_model.specs.History.{after_all, stepped}
use Rattle.wfs_model.specs.Played.{accepted, change_of}
use Rattle.wfs_model.specs.State.{State}
use Rattle.wfs_model.specs.Step.{step}
use Rattle.wfs_model.proofs.Middle.{append_none}

-- ---- one entry more

after_last : (schema : Schema) (opening : State) (entries : List Entry) (entry : Entry) → after_all schema opening (entries ++ entry ∷ []) ≡ stepped schema (after_all schema opening entries) entry
after_last schema opening entries entry = fold-append (stepped schema) opening entries (entry ∷ [])

accepted_last : (schema : Schema) (opening : State) (entries : List Entry) (entry : Entry)
    → accepted schema opening (entries ++ entry ∷ []) ≡ accepted schema opening entries ++ option_to_list (change_of schema (after_all schema opening entries) entry.moment entry.request)
accepted_last schema opening [] entry = append_none (option_to_list (change_of schema opening entry.moment entry.request))
accepted_last schema opening (first ∷ entries) entry =
    let made : List Change = option_to_list (change_of schema opening first.moment first.request) in
    ap (λ (changes : List Change). made ++ changes) (accepted_last schema (stepped schema opening first) entries entry)
    ∙ sym (append_assoc made (accepted schema (stepped schema opening first) entries) (option_to_list (change_of schema (after_all schema (stepped schema opening first) entries) entry.moment entry.request)))

sum_one : {X : Type 0} (f : X → ℕ) (xs : List X) (x : X) → sum_by f (xs ++ x ∷ []) ≡ sum_by f xs + f x
sum_one f xs x = let more = sum_by-append f xs (x ∷ []) in let one = sum_by-cons f x [] in omega (arith, more, one)

sum_more : {X : Type 0} (f : X → ℕ) (before : ℕ) (all xs ys : List X) → all ≡ xs ++ ys → before + sum_by f all ≡ (before + sum_by f xs) + sum_by f ys
sum_more f before all xs ys is = let more = ap (sum_by f) is ∙ sum_by-append f xs ys in omega (arith, more)

-- ---- limits in their order

in_order : (a b c d e f g : Option FullAt)
    → first_of (λ passed. passed) (a ∷ b ∷ c ∷ d ∷ e ∷ f ∷ g ∷ []) ≡ option_or a (option_or b (option_or (first_of (λ passed. passed) (None ∷ None ∷ c ∷ d ∷ e ∷ f ∷ None ∷ [])) g))
unfolding first_of
in_order (Some at) b c d e f g = refl
in_order None (Some at) c d e f g = refl
in_order None None (Some at) d e f g = refl
in_order None None None (Some at) e f g = refl
in_order None None None None (Some at) f g = refl
in_order None None None None None (Some at) g = refl
in_order None None None None None None (Some at) = refl
in_order None None None None None None None = refl

abbrev all_of : ℕ → State → (entries bytes side : ℕ) → Quantities
all_of moment state entries bytes side = record {
  entries = entries;
  bytes = bytes;
  features = length state.features;
  ids = state.counters;
  locks = length (live moment state.locks);
  stored = length state.stored;
  side = side;
}

judged : (limits : Limits) (moment : ℕ) (before after : State) (entries entries_now bytes bytes_now side side_now : ℕ)
    → first_passed limits (all_of moment before entries bytes side) (all_of moment after entries_now bytes_now side_now)
    ≡ option_or (at_limit Entries (passes limits.entries entries entries_now)) (option_or (at_limit Bytes (passes limits.bytes bytes bytes_now))
    (option_or (passed_between limits moment before after) (at_limit Side (passes limits.side side side_now))))
unfolding first_passed
judged limits moment before after entries entries_now bytes bytes_now side side_now =
    in_order (at_limit Entries (passes limits.entries entries entries_now)) (at_limit Bytes (passes limits.bytes bytes bytes_now))
    (at_limit Features (passes limits.features (length before.features) (length after.features))) (at_limit Ids (some_passes limits.ids before.counters after.counters))
    (at_limit Locks (passes limits.locks (length (live moment before.locks)) (length (live moment after.locks)))) (at_limit Stored (passes limits.stored (length before.stored) (length after.stored)))
    (at_limit Side (passes limits.side side side_now))

-- how long the side is after entries
abbrev pub side_after : Schema → (Change → ℕ) → ℕ → State → List Entry → ℕ
side_after schema body side opening entries = side + sum_by (λ change. 5 + body change) (accepted schema opening entries)

-- What is judged of one more entry after others: its number, its bytes, then what the state tells, then the side with its change.
pub full_is : (schema : Schema) (body : Change → ℕ) (side : ℕ) (opening : State) (limits : Limits) (entries : List Entry) (entry : Entry)
    → full_at schema body side opening limits entries entry
    ≡ option_or (at_limit Entries (passes limits.entries (length entries) (length entries + 1))) (option_or (at_limit Bytes (passes limits.bytes (sum_by (λ e. e.size) entries) (sum_by (λ e. e.size) entries + entry.size)))
    (option_or (passed_between limits entry.moment (after_all schema opening entries) (step schema (after_all schema opening entries) entry.moment entry.request).1)
    (at_limit Side (passes limits.side (side_after schema body side opening entries)
    (side_after schema body side opening entries + sum_by (λ change. 5 + body change) (option_to_list (change_of schema (after_all schema opening entries) entry.moment entry.request)))))))
unfolding full_at quantities
full_is schema body side opening limits entries entry =
    let state : State = after_all schema opening entries in
    let bytes : ℕ = sum_by (λ (e : Entry). e.size) entries in
    let now : ℕ = side_after schema body side opening entries in
    let made : List Change = option_to_list (change_of schema state entry.moment entry.request) in
    let before : Quantities = all_of entry.moment state (length entries) bytes now in
    let all : List Entry = entries ++ entry ∷ [] in
    ap (λ (s : State). first_passed limits before (all_of entry.moment s (length all) (sum_by (λ (e : Entry). e.size) all) (side_after schema body side opening all))) (after_last schema opening entries entry)
    ∙ ap (λ (n : ℕ). first_passed limits before (all_of entry.moment (stepped schema state entry) n (sum_by (λ (e : Entry). e.size) all) (side_after schema body side opening all))) (length-append entries (entry ∷ []))
    ∙ ap (λ (n : ℕ). first_passed limits before (all_of entry.moment (stepped schema state entry) (length entries + 1) n (side_after schema body side opening all))) (sum_one (λ (e : Entry). e.size) entries entry)
    ∙ ap (λ (n : ℕ). first_passed limits before (all_of entry.moment (stepped schema state entry) (length entries + 1) (bytes + entry.size) n)) (sum_more (λ (change : Change). 5 + body change) side (accepted schema opening all) (accepted schema opening entries) made (accepted_last schema opening entries entry))
    ∙ judged limits entry.moment state (stepped schema state entry) (length entries) (length entries + 1) bytes (bytes + entry.size) now (now + sum_by (λ (change : Change). 5 + body change) made)

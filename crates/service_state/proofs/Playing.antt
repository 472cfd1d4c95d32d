-- What a change that a request makes leaves of what outlives the process, part by part.
use Rattle.std.proofs.Common.{◌≡◌, ℕ, ◌+◌, ◌≤◌, Bool, true, false, cond, List, [], ◌∷◌, ◌++◌, length, get_or, All, Option, Some, None, refl, sym, ap, ◌∙◌, length-append, arith}
use Rattle.std.specs.Prelude.{nat_le, nat_lt, max, ◌==◌}
use Rattle.std.specs.List.{filter, fold, list_all}
use Rattle.std.specs.Option.{option_to_list}
use Rattle.std.proofs.lemmas.Bool.{and_parts}
use Rattle.std.proofs.lemmas.Bool.Decides.{nat_tests}
use Rattle.std.proofs.lemmas.List.{get_or_past}
use Rattle.std.proofs.lemmas.List.Elements.{All-nil, All-cons, All-set}
use Rattle.feature_values.specs.declared.schema.Schema.{Schema}
use Rattle.feature_values.specs.Fits.{feature_fits}
use Rattle.feature_versions.specs.Types.{counted}
use Rattle.request_plans.specs.Plan.{CanPlay}
use Rattle.service_state.specs.Passed.{counters_after, made_by}
use Rattle.wfs_model.specs.declared.change.Change.{Change}
use Rattle.wfs_model.specs.declared.change.Change.TheVariants.{Opening, Rows, Created, Dropped, Base}
use Rattle.wfs_model.specs.declared.change.Part.{Part}
use Rattle.wfs_model.specs.declared.change.Part.TheVariants.{Put, Remove}
use Rattle.wfs_model.specs.declared.stored.StoredQuery.{StoredQuery}
use Rattle.wfs_model.specs.Full.{passes}
use Rattle.wfs_model.specs.Playable.{most_number, is_number, is_ok, is_part, are_parts, is_playable}
use Rattle.wfs_model.specs.Played.{part_played, played_one, played, raised}
use Rattle.wfs_model.specs.State.{Durable}
use Rattle.wfs_model.specs.Stored.{without_query}

-- ---- parts

-- what else is kept stays
record SameRest (old new : Durable) : Type 0 where
  pub stored : new.stored ≡ old.stored
  pub opening : new.opening ≡ old.opening

part_rest : (kept : Durable) (part : Part) → SameRest kept (part_played kept part)
unfolding part_played
part_rest kept (Put f) = record { stored = refl; opening = refl }
part_rest kept (Remove id) = record { stored = refl; opening = refl }

rows_rest : (kept : Durable) (parts : List Part) → SameRest kept (fold part_played kept parts)
rows_rest kept [] = record { stored = refl; opening = refl }
rows_rest kept (part ∷ parts) =
    let one = part_rest kept part in
    let rest = rows_rest (part_played kept part) parts in
    record { stored = rest.stored ∙ one.stored; opening = rest.opening ∙ one.opening }

part_counters : (kept : Durable) (part : Part) → (part_played kept part).counters ≡ counted kept.counters part
unfolding part_played
part_counters kept (Put f) = refl
part_counters kept (Remove id) = refl

rows_counters : (kept : Durable) (parts : List Part) → (fold part_played kept parts).counters ≡ fold counted kept.counters parts
rows_counters kept [] = refl
rows_counters kept (part ∷ parts) = rows_counters (part_played kept part) parts ∙ ap (λ (cs : List ℕ). fold counted cs parts) (part_counters kept part)

-- ---- changes that requests make

pub played_counters : (kept : Durable) (change : Option Change) → CanPlay kept.stored change → (played kept (option_to_list change)).counters ≡ counters_after kept.counters change
unfolding played_one
played_counters kept None can = refl
played_counters kept (Some (Rows parts)) can = rows_counters kept parts
played_counters kept (Some (Created queries)) can = refl
played_counters kept (Some (Dropped id)) can = refl
played_counters kept (Some (Opening opening)) can = absurd can
played_counters kept (Some (Base opening counters)) can = absurd can

pub played_opening : (kept : Durable) (change : Option Change) → CanPlay kept.stored change → (played kept (option_to_list change)).opening ≡ kept.opening
unfolding played_one
played_opening kept None can = refl
played_opening kept (Some (Rows parts)) can = (rows_rest kept parts).opening
played_opening kept (Some (Created queries)) can = refl
played_opening kept (Some (Dropped id)) can = refl
played_opening kept (Some (Opening opening)) can = absurd can
played_opening kept (Some (Base opening counters)) can = absurd can

-- ---- how many stored queries there are

pub no_more_passes : (limit before now : ℕ) → now ≤ before → passes limit before now ≡ None
no_more_passes limit before now le = at (nat_lt before now) refl
  where
    at : (b : Bool) → nat_lt before now ≡ b → passes limit before now ≡ None
    at true is = absurd (grind (arith, nat_tests, is, le))
    at false is = rw is refl

left_at : (b : Bool) (query : StoredQuery) (xs ys : List StoredQuery) → length xs ≤ length ys → length (cond b (query ∷ xs) xs) ≤ length (query ∷ ys)
left_at true query xs ys le = omega (arith, le)
left_at false query xs ys le = omega (arith, le)

left_length : (q : StoredQuery → Bool) (stored : List StoredQuery) → length (filter q stored) ≤ length stored
left_length q [] = omega arith
left_length q (query ∷ stored) = left_at (q query) query (filter q stored) stored (left_length q stored)

same_passes : (limit before now other : ℕ) → now ≡ other → passes limit before now ≡ passes limit before other
same_passes limit before now other is = ap (passes limit before) is

pub played_stored : (limit : ℕ) (kept : Durable) (change : Option Change) → CanPlay kept.stored change → passes limit (length kept.stored) (length (played kept (option_to_list change)).stored) ≡ passes limit (length kept.stored) (length kept.stored + made_by change)
unfolding played_one
played_stored limit kept None can = same_passes limit (length kept.stored) (length kept.stored) (length kept.stored + 0) (omega arith)
played_stored limit kept (Some (Rows parts)) can =
    let same = (rows_rest kept parts).stored in
    same_passes limit (length kept.stored) (length (fold part_played kept parts).stored) (length kept.stored + 0) (rw same (omega arith))
played_stored limit kept (Some (Created queries)) can = same_passes limit (length kept.stored) (length (kept.stored ++ queries)) (length kept.stored + length queries) (length-append kept.stored queries)
played_stored limit kept (Some (Dropped id)) can =
    no_more_passes limit (length kept.stored) (length (without_query kept.stored id)) (left_length _ kept.stored)
    ∙ sym (no_more_passes limit (length kept.stored) (length kept.stored + 0) (omega arith))
played_stored limit kept (Some (Opening opening)) can = absurd can
played_stored limit kept (Some (Base opening counters)) can = absurd can

-- ---- numbers stay within their limit

found_at : (counters : List ℕ) (k : ℕ) (b : Bool) → nat_lt k (length counters) ≡ b → All (λ n. n ≤ most_number) counters → get_or counters k 0 ≤ most_number
found_at counters k true is are = are k 0 (grind (arith, nat_tests, is))
found_at counters k false is are = let past : get_or counters k 0 ≡ 0 = get_or_past counters k 0 (grind (arith, nat_tests, is)) in omega (arith, past)

raised_within : (counters : List ℕ) (kind number : ℕ) → number ≤ most_number → All (λ n. n ≤ most_number) counters → All (λ n. n ≤ most_number) (raised counters kind number)
raised_within counters kind number low are =
    let there : get_or counters kind 0 ≤ most_number = found_at counters kind (nat_lt kind (length counters)) refl are in
    All-set (λ n. n ≤ most_number) counters kind (max (get_or counters kind 0) number) (omega (arith, there, low)) are

part_within : (schema : Schema) (kept : Durable) (part : Part) → is_part schema kept part ≡ true → All (λ n. n ≤ most_number) kept.counters → All (λ n. n ≤ most_number) (part_played kept part).counters
unfolding is_part part_played
part_within schema kept (Put f) may are =
    let number = (and_parts (is_ok (feature_fits schema f)) (is_number f.id.number) may).1 in
    raised_within kept.counters f.id.kind f.id.number (grind (arith, nat_tests, number)) are
part_within schema kept (Remove id) may are = are

parts_within : (schema : Schema) (kept : Durable) (parts : List Part) → are_parts schema kept parts ≡ true → All (λ n. n ≤ most_number) kept.counters → All (λ n. n ≤ most_number) (fold part_played kept parts).counters
unfolding are_parts
parts_within schema kept [] may are = are
parts_within schema kept (part ∷ parts) may are =
    let both = and_parts (is_part schema kept part) (are_parts schema (part_played kept part) parts) may in
    parts_within schema (part_played kept part) parts both.1 (part_within schema kept part both.0 are)

listed_within : (counters : List ℕ) → list_all (λ n. nat_le n most_number) counters ≡ true → All (λ n. n ≤ most_number) counters
listed_within [] may = All-nil (λ n. n ≤ most_number)
listed_within (n ∷ counters) may =
    let both = and_parts (nat_le n most_number) (list_all (λ m. nat_le m most_number) counters) may in
    let first = both.0 in
    All-cons (λ m. m ≤ most_number) n counters (grind (arith, nat_tests, first)) (listed_within counters both.1)

-- a change that may be played gives no number beyond the limit
pub playing_within : (schema : Schema) (kept : Durable) (change : Change) → is_playable schema kept change ≡ true → All (λ n. n ≤ most_number) kept.counters → All (λ n. n ≤ most_number) (played_one kept change).counters
unfolding is_playable played_one
playing_within schema kept (Opening opening) may are = are
playing_within schema kept (Rows parts) may are = parts_within schema kept parts may are
playing_within schema kept (Created queries) may are = are
playing_within schema kept (Dropped id) may are = are
playing_within schema kept (Base opening counters) may are =
    listed_within counters (and_parts (length counters == length schema.types) (list_all (λ n. nat_le n most_number) counters) (and_parts _ _ may).1).1

-- A checkpoint plays to what it was made of, and each of its changes may be played in turn.
use Rattle.std.proofs.Common.{◌≡◌, ℕ, ◌*◌, ◌<◌, ◌≤◌, Bool, true, false, List, [], ◌∷◌, ◌++◌, length, get_or, take, drop, map, filter, All, Some, Ok, refl, sym, ap, ◌∙◌, subst, append_assoc, set, arith}
use Rattle.std.specs.Prelude.{zero, suc, max, replicate, ◌==◌, nat_le, nat_lt}
use Rattle.std.specs.List.{AllPairs, fold, list_all, list_any}
use Rattle.std.specs.Simd.{first_chunks}
use Rattle.std.specs.Slice.Iter.{chunk_count}
use Rattle.std.specs.Str.{bytes_eq}
use Rattle.std.proofs.lemmas.List.{append-nil, map-append, take-append-drop, set-get_or}
use Rattle.std.proofs.lemmas.List.Elements.{All-nil, All-cons, All-head, All-tail, All-take, All-drop, filter-append}
use Rattle.std.proofs.lemmas.List.Sums.{fold-append}
use Rattle.std.proofs.lemmas.List.Folds.{list_any_none}
use Rattle.wfs_ends.specs.Read.{each}
use Rattle.feature_values.specs.declared.feature.Feature.{Feature}
use Rattle.feature_values.specs.declared.feature.Rid.{Rid}
use Rattle.feature_values.specs.declared.schema.Schema.{Schema}
use Rattle.feature_values.specs.Fits.{feature_fits}
use Rattle.fes_filter.specs.View.{is_before, IsInOrder}
use Rattle.feature_overlay.specs.Laid.{laid}
use Rattle.feature_overlay.proofs.Ordered.{not_before_itself}
use Rattle.wfs_model.specs.declared.change.Part.TheVariants.{Put}
use Rattle.wfs_model.specs.declared.change.Change.{Change}
use Rattle.wfs_model.specs.declared.change.Change.TheVariants.{Base}
use Rattle.wfs_model.specs.declared.stored.StoredQuery.{StoredQuery}
use Rattle.wfs_model.specs.State.{Durable, nothing}
use Rattle.wfs_model.specs.Stored.{is_id_query, has_id, is_there, created_one as created_behind, created}
use Rattle.wfs_model.specs.Expand.{is_same_name}
use Rattle.wfs_model.specs.OfSchema.{IsStoredOf}
use Rattle.wfs_model.specs.Kept.{IsGiven, IsKept}
use Rattle.wfs_model.specs.Playable.{most_number, is_number, is_part, are_parts, are_names, is_playable}
use Rattle.wfs_model.specs.Played.{raised, part_played, played_one, played}
use Rattle.wfs_model.proofs.Middle.{middle_laid}
use Rattle.journal_replay.specs.Checkpoint.{most_rows, put_all, rows_of, created_one, checkpoint_of, ArePlayable}
use Rattle.journal_replay.proofs.Runs.{fewer, enough_runs, pairs_head, pairs_tail, pairs_middle, low_at, low_all}

-- ---- features are put behind those that are there

-- a front of features in order is in order
front_in_order : (fs gs : List Feature) → IsInOrder (fs ++ gs) → IsInOrder fs
front_in_order [] gs order = tt
front_in_order (f ∷ fs) gs order = (front_all fs order.0, front_in_order fs gs order.1)
  where
    front_all : (hs : List Feature) → All (λ g. is_before f.id g.id ≡ true) (hs ++ gs) → All (λ g. is_before f.id g.id ≡ true) hs
    front_all [] all = All-nil (λ (g : Feature). is_before f.id g.id ≡ true)
    front_all (h ∷ hs) all = All-cons (λ (g : Feature). is_before f.id g.id ≡ true) h hs (All-head (λ (g : Feature). is_before f.id g.id ≡ true) h (hs ++ gs) all) (front_all hs (All-tail (λ (g : Feature). is_before f.id g.id ≡ true) h (hs ++ gs) all))

-- a feature is neither before nor behind itself
one_passed : (p : Feature → Bool) (fs : List Feature) (f : Feature) → p f ≡ false → filter p (fs ++ f ∷ []) ≡ filter p fs
one_passed p fs f none = filter-append p fs (f ∷ []) ∙ ap (λ l. filter p fs ++ l) (rw none refl) ∙ append-nil (filter p fs)

last_laid : (fs : List Feature) (f : Feature) → IsInOrder (fs ++ f ∷ []) → laid fs f.id (Some f) ≡ fs ++ f ∷ []
unfolding laid
last_laid fs f order =
    let before : filter (λ (g : Feature). is_before g.id f.id) (fs ++ f ∷ []) ≡ filter (λ (g : Feature). is_before g.id f.id) fs = one_passed (λ g. is_before g.id f.id) fs f (not_before_itself f.id) in
    let behind : filter (λ (g : Feature). is_before f.id g.id) (fs ++ f ∷ []) ≡ filter (λ (g : Feature). is_before f.id g.id) fs = one_passed (λ g. is_before f.id g.id) fs f (not_before_itself f.id) in
    rw (← before, ← behind) (middle_laid fs f [] (Some f) order)

-- a number that was given raises no counter
same_raised : (counters : List ℕ) (id : Rid) → IsGiven counters id → raised counters id.kind id.number ≡ counters
same_raised counters id given =
    let same : max (get_or counters id.kind 0) id.number ≡ get_or counters id.kind 0 = omega (arith, given) in
    ap (set counters id.kind) same ∙ set-get_or counters id.kind 0

put_last : (kept : Durable) (f : Feature) → IsInOrder (kept.features ++ f ∷ []) → IsGiven kept.counters f.id → part_played kept (Put f) ≡ record kept { features = kept.features ++ f ∷ [] }
unfolding part_played
put_last kept f order given = rw (last_laid kept.features f order, same_raised kept.counters f.id given) refl

puts_play : (kept : Durable) (fs : List Feature) → IsInOrder (kept.features ++ fs) → All (λ f. IsGiven kept.counters f.id) fs → fold part_played kept (map Put fs) ≡ record kept { features = kept.features ++ fs }
puts_play kept [] order given = ap (λ l. record kept { features = l }) (sym (append-nil kept.features))
puts_play kept (f ∷ fs) order given =
    let order_now : IsInOrder ((kept.features ++ f ∷ []) ++ fs) = subst (λ (l : List Feature). IsInOrder l) (sym (append_assoc kept.features (f ∷ []) fs)) order in
    let one = put_last kept f (front_in_order (kept.features ++ f ∷ []) fs order_now) (All-head (λ (g : Feature). IsGiven kept.counters g.id) f fs given) in
    ap (λ (k : Durable). fold part_played k (map Put fs)) one
    ∙ puts_play (record kept { features = kept.features ++ f ∷ [] }) fs order_now (All-tail (λ (g : Feature). IsGiven kept.counters g.id) f fs given)
    ∙ ap (λ l. record kept { features = l }) (append_assoc kept.features (f ∷ []) fs)

-- ---- all features, in runs

-- features that may be put
abbrev MayPut : Schema → Feature → Type 0
MayPut schema f = (feature_fits schema f ≡ Ok tt) × (is_number f.id.number ≡ true)

may_put : (schema : Schema) (kept : Durable) (fs : List Feature) → All (MayPut schema) fs → are_parts schema kept (map Put fs) ≡ true
unfolding are_parts is_part
may_put schema kept [] all = refl
may_put schema kept (f ∷ fs) all =
    let one = All-head (MayPut schema) f fs all in
    rw (one.0, one.1) (may_put schema (part_played kept (Put f)) fs (All-tail (MayPut schema) f fs all))

-- runs of features are played as the features are that stand in them
runs_play : (kept : Durable) (n k : ℕ) (fs : List Feature) → length fs ≤ k * n → fold played_one kept (map put_all (first_chunks n k fs)) ≡ fold part_played kept (map Put fs)
unfolding played_one
runs_play kept n zero [] le = refl
runs_play kept n zero (f ∷ fs) le = absurd (omega (arith, le))
runs_play kept n (suc k) fs le =
    let less : length (drop n fs) ≤ k * n = fewer n k fs le in
    runs_play (fold part_played kept (map Put (take n fs))) n k (drop n fs) less
    ∙ sym (fold-append part_played kept (map Put (take n fs)) (map Put (drop n fs)))
    ∙ ap (fold part_played kept) (sym (map-append Put (take n fs) (drop n fs)) ∙ ap (map Put) (take-append-drop n fs))

runs_may : (schema : Schema) (kept : Durable) (n k : ℕ) (fs : List Feature) (changes : List Change) → All (MayPut schema) fs → ArePlayable schema (fold played_one kept (map put_all (first_chunks n k fs))) changes → ArePlayable schema kept (map put_all (first_chunks n k fs) ++ changes)
unfolding is_playable
runs_may schema kept n zero fs changes all rest = rest
runs_may schema kept n (suc k) fs changes all rest =
    (may_put schema kept (take n fs) (All-take (MayPut schema) n fs all), runs_may schema (played_one kept (put_all (take n fs))) n k (drop n fs) changes (All-drop (MayPut schema) n fs all) rest)

rows_play : (kept : Durable) (fs : List Feature) → fold played_one kept (rows_of fs) ≡ fold part_played kept (map Put fs)
rows_play kept fs = runs_play kept most_rows (chunk_count (length fs) most_rows) fs (enough_runs (length fs))

-- ---- stored queries, one by one

-- names that may stand together pass the test
named : (names : List (List ℕ)) → All (λ name. 0 < length name) names → AllPairs (λ a b. is_same_name a b ≡ false) names → are_names names ≡ true
unfolding are_names
named [] some different = refl
named (name ∷ names) some different =
    let first : nat_lt 0 (length name) ≡ true = (let more = All-head (λ (n : List ℕ). 0 < length n) name names some in grind (arith, more)) in
    let others : list_any (is_same_name name) names ≡ false = list_any_none (is_same_name name) names (pairs_head (λ (a : List ℕ) (b : List ℕ). is_same_name a b ≡ false) name names different) in
    rw (first, others) (named names (All-tail (λ (n : List ℕ). 0 < length n) name names some) (pairs_tail (λ (a : List ℕ) (b : List ℕ). is_same_name a b ≡ false) name names different))

abbrev Apart : StoredQuery → StoredQuery → Type 0
Apart a b = bytes_eq a.id b.id ≡ false

abbrev IsMade : StoredQuery → Type 0
IsMade stored = is_id_query stored.id ≡ false

one_may : (schema : Schema) (kept : Durable) (one : StoredQuery) → IsStoredOf schema one → All (λ other. Apart other one) kept.stored → IsMade one → is_playable schema kept (created_one one) ≡ true
unfolding is_playable created each created_behind
one_may schema kept one allowed apart made =
    let new : is_there kept.stored one.id ≡ false = list_any_none (has_id one.id) kept.stored apart in
    rw (made, new, named one.parameters allowed.names allowed.different) refl

-- what is kept, with more stored queries
abbrev with_more : Durable → List StoredQuery → Durable
with_more kept stored = record kept { stored = kept.stored ++ stored }

ones_play : (kept : Durable) (stored : List StoredQuery) → fold played_one kept (map created_one stored) ≡ with_more kept stored
unfolding played_one
ones_play kept [] = ap (λ l. record kept { stored = l }) (sym (append-nil kept.stored))
ones_play kept (one ∷ stored) = ones_play (with_more kept (one ∷ [])) stored ∙ ap (λ l. record kept { stored = l }) (append_assoc kept.stored (one ∷ []) stored)

ones_may : (schema : Schema) (kept : Durable) (stored : List StoredQuery) → All (IsStoredOf schema) stored → AllPairs Apart (kept.stored ++ stored) → All IsMade stored → ArePlayable schema kept (map created_one stored)
unfolding played_one
ones_may schema kept [] allowed apart made = tt
ones_may schema kept (one ∷ stored) allowed apart made =
    let rest : AllPairs Apart ((kept.stored ++ one ∷ []) ++ stored) = subst (λ (l : List StoredQuery). AllPairs Apart l) (sym (append_assoc kept.stored (one ∷ []) stored)) apart in (
      one_may schema kept one (All-head (IsStoredOf schema) one stored allowed) (pairs_middle Apart kept.stored one stored apart) (All-head IsMade one stored made),
      ones_may schema (with_more kept (one ∷ [])) stored (All-tail (IsStoredOf schema) one stored allowed) rest (All-tail IsMade one stored made),
    )

-- ---- the whole

-- what the beginning of a checkpoint leaves
abbrev based : Durable → Durable
based kept = record { features = []; counters = kept.counters; stored = []; opening = kept.opening }

-- the features behind it
abbrev peopled : Durable → Durable
peopled kept = record (based kept) { features = kept.features }

numbered : (counters : List ℕ) (id : Rid) → All (λ n. n ≤ most_number) counters → IsGiven counters id → is_number id.number ≡ true
numbered counters id low given =
    let most : get_or counters id.kind 0 ≤ most_number = low_at most_number counters id.kind low in
    let first : nat_le 1 id.number ≡ true = grind (arith, given.0) in
    let last : nat_le id.number most_number ≡ true = grind (arith, given.1, most) in
    rw (first, last) refl

all_may_put : (schema : Schema) (counters : List ℕ) (fs : List Feature) → All (λ n. n ≤ most_number) counters → All (λ f. feature_fits schema f ≡ Ok tt) fs → All (λ f. IsGiven counters f.id) fs → All (MayPut schema) fs
all_may_put schema counters fs low fitting given k d lt = (fitting k d lt, numbered counters (get_or fs k d).id low (given k d lt))

rows_leave : (schema : Schema) (kept : Durable) → IsKept schema kept → fold played_one (based kept) (rows_of kept.features) ≡ peopled kept
rows_leave schema kept is = rows_play (based kept) kept.features ∙ puts_play (based kept) kept.features is.order is.given

pub checkpoint_plays : (schema : Schema) (kept : Durable) → IsKept schema kept → played (nothing (length schema.types)) (checkpoint_of kept) ≡ kept
unfolding checkpoint_of played_one
checkpoint_plays schema kept is =
    fold-append played_one (based kept) (rows_of kept.features) (map created_one kept.stored)
    ∙ ap (λ (k : Durable). fold played_one k (map created_one kept.stored)) (rows_leave schema kept is)
    ∙ ones_play (peopled kept) kept.stored

none_given : (types : ℕ) → list_all (λ n. n == 0) (replicate types 0) ≡ true
none_given zero = refl
none_given (suc types) = none_given types

base_may : (schema : Schema) (kept : Durable) → IsKept schema kept → All (λ n. n ≤ most_number) kept.counters → is_playable schema (nothing (length schema.types)) (Base kept.opening kept.counters) ≡ true
unfolding is_playable
base_may schema kept is low =
    let same : (length schema.types == length schema.types) ≡ true = grind arith in
    rw (low_all most_number kept.counters low, is.counters, none_given (length schema.types), same) refl

pub checkpoint_may : (schema : Schema) (kept : Durable) → IsKept schema kept → All (λ n. n ≤ most_number) kept.counters → ArePlayable schema (nothing (length schema.types)) (checkpoint_of kept)
unfolding checkpoint_of played_one
checkpoint_may schema kept is low = (
  base_may schema kept is low,
  runs_may schema (based kept) most_rows (chunk_count (length kept.features) most_rows) kept.features (map created_one kept.stored) (all_may_put schema kept.counters kept.features low is.fitting is.given)
      (subst (λ (k : Durable). ArePlayable schema k (map created_one kept.stored)) (sym (rows_leave schema kept is)) (ones_may schema (peopled kept) kept.stored is.stored is.different is.made)),
)

-- Names of parameters, judged one after the other, and whether stored queries are new.
use Rattle.std.proofs.Common.{◌≡◌, ℕ, ◌+◌, ◌-◌, ◌<◌, ◌≤◌, Bool, true, false, not, List, [], ◌∷◌, Option, Some, None, Err, length, get_or, take, drop, length-drop, refl, sym, ap, ◌∙◌, arith}
use Rattle.std.specs.Prelude.{◌&&◌, nat_lt, is_none}
use Rattle.std.specs.List.{list_any}
use Rattle.std.proofs.lemmas.List.{at_drop_more, at_drop_all, take_all}
use Rattle.wfs_model.specs.Expand.{is_same_name}
use Rattle.wfs_model.specs.declared.stored.StoredQuery.{StoredQuery}
use Rattle.wfs_model.specs.declared.fault.StoredFault.TheVariants.{DuplicateId}
use Rattle.wfs_model.specs.Playable.{is_ok, are_names}
use Rattle.wfs_model.specs.Stored.{created}
use Rattle.stored_queries.specs.Listed.{IsFirstKnown}

regroup : (a b c : Bool) → (a && (b && c)) ≡ ((a && b) && c)
regroup true b c = refl
regroup false b c = refl

-- a name and those behind it
pub name_step : (names : List (List ℕ)) (i : ℕ) (name : List ℕ) → i < length names → name ≡ get_or names i name → are_names (drop i names) ≡ ((nat_lt 0 (length name) && not (list_any (is_same_name name) (drop (i + 1) names))) && are_names (drop (i + 1) names))
unfolding are_names
name_step names i name lt is =
    at_drop_more are_names names i name lt
    ∙ ap (λ (n : List ℕ). nat_lt 0 (length n) && (not (list_any (is_same_name n) (drop (i + 1) names)) && are_names (drop (i + 1) names))) (sym is)
    ∙ regroup (nat_lt 0 (length name)) (not (list_any (is_same_name name) (drop (i + 1) names))) (are_names (drop (i + 1) names))

pub no_more_names : (names : List (List ℕ)) (i : ℕ) → length names ≤ i → are_names (drop i names) ≡ true
unfolding are_names
no_more_names names i le = at_drop_all are_names names i le

-- the names behind a place, as a slice has them
abbrev behind : List (List ℕ) → ℕ → List (List ℕ)
behind names i = take (length names - (i + 1)) (drop (i + 1) names)

behind_is : (names : List (List ℕ)) (i : ℕ) → behind names i ≡ drop (i + 1) names
behind_is names i = take_all (length names - (i + 1)) (drop (i + 1) names) (omega (arith, length-drop (i + 1) names))

abbrev judged : List (List ℕ) → List ℕ → Bool
judged others name = nat_lt 0 (length name) && not (list_any (is_same_name name) others)

judged_is : (names : List (List ℕ)) (i : ℕ) (name item : List ℕ) (test t : Bool) → name ≡ item → test ≡ judged (behind names i) name → test ≡ t → judged (drop (i + 1) names) item ≡ t
judged_is names i name item test t same says is =
    sym (ap (judged (behind names i)) same ∙ ap (λ (others : List (List ℕ)). judged others item) (behind_is names i)) ∙ sym says ∙ is

pub stops_at : (names : List (List ℕ)) (i : ℕ) (name item : List ℕ) (test : Bool) → are_names (drop i names) ≡ are_names names → i < length names → name ≡ item → item ≡ get_or names i item → test ≡ judged (behind names i) name → test ≡ false → false ≡ are_names names
stops_at names i name item test rest lt same is says fails =
    sym (sym rest ∙ name_step names i item lt is ∙ ap (λ b. b && are_names (drop (i + 1) names)) (judged_is names i name item test false same says fails))

pub goes_past : (names : List (List ℕ)) (i : ℕ) (name item : List ℕ) (test : Bool) → are_names (drop i names) ≡ are_names names → i < length names → name ≡ item → item ≡ get_or names i item → test ≡ judged (behind names i) name → test ≡ true → are_names (drop (i + 1) names) ≡ are_names names
goes_past names i name item test rest lt same is says passes =
    sym (name_step names i item lt is ∙ ap (λ b. b && are_names (drop (i + 1) names)) (judged_is names i name item test true same says passes)) ∙ rest

-- ---- stored queries

-- all are new where none is known
pub are_new_if : (stored queries : List StoredQuery) (first : Option ℕ) → IsFirstKnown stored queries first → is_none first ≡ is_ok (created stored queries)
are_new_if stored queries None first = rw first refl
are_new_if stored queries (Some i) first = by_fault queries first.0 first.1
  where
    by_fault : (all : List StoredQuery) → i < length all → ((d : StoredQuery) → created stored queries ≡ Err (DuplicateId (get_or all i d).id)) → false ≡ is_ok (created stored queries)
    by_fault [] lt is = absurd (omega (arith, lt))
    by_fault (query ∷ all) lt is = rw (is query) refl

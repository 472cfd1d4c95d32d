-- New stored queries, judged one after the other.
use Rattle.std.proofs.Common.{◌≡◌, ℕ, ◌+◌, ◌<◌, ◌≤◌, Bool, true, false, ◌||◌, List, [], ◌∷◌, ◌++◌, length, get_or, take, drop, Option, Some, None, Result, Ok, Err, refl, sym, ap, ◌∙◌, append_assoc, append-nil, arith}
use Rattle.std.specs.Prelude.{is_none}
use Rattle.std.proofs.lemmas.List.{take_more, take_all, at_drop_more, at_drop_all}
use Rattle.std.proofs.lemmas.List.Folds.{list_any-append}
use Rattle.wfs_ends.specs.Read.{◌>>=◌, each}
use Rattle.wfs_model.specs.declared.stored.StoredQuery.{StoredQuery}
use Rattle.wfs_model.specs.declared.fault.StoredFault.{StoredFault}
use Rattle.wfs_model.specs.declared.fault.StoredFault.TheVariants.{DuplicateId}
use Rattle.wfs_model.specs.Playable.{is_ok}
use Rattle.wfs_model.specs.Stored.{created, created_one, is_known, is_there, is_id_query, has_id}
use Rattle.stored_queries.specs.Listed.{IsFirstKnown}

or_more : (a b c : Bool) → (a || (b || c)) ≡ ((a || b) || c)
or_more true b c = refl
or_more false b c = refl

pub known_behind : (stored before : List StoredQuery) (id : List ℕ) → is_known (stored ++ before) id ≡ (is_known stored id || is_there before id)
known_behind stored before id = ap (λ b. is_id_query id || b) (list_any-append (has_id id) stored before) ∙ or_more (is_id_query id) (is_there stored id) (is_there before id)

-- what is left to be judged behind so many
abbrev pub Left : List StoredQuery → List StoredQuery → ℕ → Type 0
Left stored queries i = each created_one (stored ++ take i queries) (drop i queries) ≡ created stored queries

pub none_judged : (stored queries : List StoredQuery) → Left stored queries 0
unfolding created
none_judged stored queries = ap (λ l. each created_one l queries) (append-nil stored)

turn : (stored queries : List StoredQuery) (i : ℕ) (d : StoredQuery) → i < length queries → each created_one (stored ++ take i queries) (drop i queries) ≡ (created_one (stored ++ take i queries) (get_or queries i d) >>= λ more. each created_one more (drop (i + 1) queries))
unfolding each
turn stored queries i d lt = at_drop_more (λ ys. each created_one (stored ++ take i queries) ys) queries i d lt

pub is_refused : (stored queries : List StoredQuery) (i : ℕ) (d : StoredQuery) → i < length queries → is_known (stored ++ take i queries) (get_or queries i d).id ≡ true → Left stored queries i → created stored queries ≡ Err (DuplicateId (get_or queries i d).id)
unfolding created_one
is_refused stored queries i d lt known so_far = sym so_far ∙ turn stored queries i d lt ∙ rw known refl

pub goes_on : (stored queries : List StoredQuery) (i : ℕ) (d : StoredQuery) → i < length queries → is_known (stored ++ take i queries) (get_or queries i d).id ≡ false → Left stored queries i → Left stored queries (i + 1)
unfolding created_one
goes_on stored queries i d lt known so_far =
    ap (λ l. each created_one l (drop (i + 1) queries)) (ap (λ l. stored ++ l) (take_more queries i d lt) ∙ sym (append_assoc stored (take i queries) (get_or queries i d ∷ [])))
    ∙ sym (turn stored queries i d lt ∙ rw known refl) ∙ so_far

pub all_new : (stored queries : List StoredQuery) (i : ℕ) → length queries ≤ i → Left stored queries i → created stored queries ≡ Ok (stored ++ queries)
unfolding each
all_new stored queries i le so_far =
    sym so_far ∙ at_drop_all (λ ys. each created_one (stored ++ take i queries) ys) queries i le
    ∙ ap (λ l. let r : Result (List StoredQuery) StoredFault = Ok (stored ++ l) in r) (take_all i queries le)

-- whether all are new is whether none is known
pub is_accepted : (stored queries : List StoredQuery) (first : Option ℕ) → IsFirstKnown stored queries first → is_none first ≡ is_ok (created stored queries)
is_accepted stored queries None first = rw first refl
is_accepted stored queries (Some i) first = by_fault queries first.0 first.1
  where
    by_fault : (all : List StoredQuery) → i < length all → ((d : StoredQuery) → created stored queries ≡ Err (DuplicateId (get_or all i d).id)) → false ≡ is_ok (created stored queries)
    by_fault [] lt is = absurd (omega (arith, lt))
    by_fault (query ∷ all) lt is = rw (is query) refl

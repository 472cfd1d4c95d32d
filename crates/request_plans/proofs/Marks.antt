-- What the tests need: three marks that may be kept, and requests that their schema allows.
use Rattle.std.proofs.Common.{◌≡◌, ℕ, ◌<◌, ◌≤◌, false, List, [], ◌∷◌, ◌++◌, Option, Some, Ok, refl, sym, subst, arith}
use Rattle.std.specs.Prelude.{All, IfSome, codes}
use Rattle.std.specs.List.{AllPairs}
use Rattle.std.proofs.lemmas.List.Elements.{All-nil, All-cons, All-append}
use Rattle.feature_values.specs.declared.feature.Feature.{Feature}
use Rattle.feature_values.specs.declared.schema.Schema.{Schema}
use Rattle.feature_values.specs.Fits.{feature_fits}
use Rattle.fes_filter.specs.Check.{check_of}
use Rattle.fes_filter.specs.declared.filter.Filter.{Filter}
use Rattle.fes_filter.specs.declared.query.Query.{Query}
use Rattle.feature_overlay.specs.Laid.{laid}
use Rattle.feature_overlay.proofs.Ordered.{Before}
use Rattle.lock_table.specs.declared.id.LockId.{LockId}
use Rattle.lock_table.specs.declared.words.Release.{Release}
use Rattle.wfs_model.specs.declared.action.Action.{Action}
use Rattle.wfs_model.specs.declared.asked.Asked.{Asked}
use Rattle.wfs_model.specs.declared.asked.Asked.TheVariants.{Plain}
use Rattle.wfs_model.specs.declared.asked.Present.{Present}
use Rattle.wfs_model.specs.declared.request.Take.{Take}
use Rattle.wfs_model.specs.declared.request.Request.TheVariants.{GetLocked, Lock, Renew, Transact, CreateStored, DropStored}
use Rattle.wfs_model.specs.declared.stored.StoredQuery.{StoredQuery}
use Rattle.wfs_model.specs.Kept.{IsGiven}
use Rattle.wfs_model.specs.Stored.{is_id_query}
use Rattle.feature_values.specs.declared.feature.Rid.{Rid}
use Rattle.wfs_model.specs.Expand.{is_same_name}
use Rattle.std.specs.Str.{bytes_eq}
use Rattle.wfs_model.specs.OfSchema.{IsType, IsFilterOf, IsQueryOf, IsActionOf, IsStoredOf, IsOfSchema}
use Rattle.request_plans.specs.Marks.{AreAsked, AreMarks, AreThree, IsOne}

none_paired : {X : Type 0} (R : X → X → Type 0) → AllPairs R []
none_paired R i j d lt within = absurd (omega (arith, within))

pub alone : {X : Type 0} (P : X → Type 0) (x : X) → P x → All P (x ∷ [])
alone P x p = All-cons P x [] p (All-nil P)

pub all_none : {X : Type 0} (P : X → Type 0) → All P []
all_none P = All-nil P

pub all_more : {X : Type 0} (P : X → Type 0) (xs : List X) (x : X) → All P xs → P x → All P (xs ++ x ∷ [])
all_more P xs x all p = All-append P xs (x ∷ []) all (alone P x p)

three : {X : Type 0} (P : X → Type 0) (x y z : X) → P x → P y → P z → All P (x ∷ y ∷ z ∷ [])
three P x y z p q r = All-cons P x (y ∷ z ∷ []) p (All-cons P y (z ∷ []) q (alone P z r))

-- ---- requests

pub one_is_of : (schema : Schema) (filter : Filter) → AreMarks schema → IsOne filter → check_of schema (Some 0) filter ≡ Ok tt → IsFilterOf schema (Some 0) 0 filter
one_is_of schema filter marks one checked = record {
  checked = checked;
  ids = λ k d lt. rw marks (one.0 k d lt);
  places = rw one.1 (All-nil (λ place. place < 0));
}

pub kind_is_of : (schema : Schema) → AreMarks schema → IsType schema 0
kind_is_of schema marks = rw marks (omega arith)

pub query_is_of : (schema : Schema) (filter : Option Filter) → AreMarks schema → IfSome filter (IsFilterOf schema (Some 0) 0) → IsQueryOf schema 0 (record { kind = Some 0; filter = filter; sort = [] })
query_is_of schema filter marks fits = record {
  kind = alone (IsType schema) 0 (kind_is_of schema marks);
  filter = fits;
  sort = All-nil _;
}

pub are_asked : (schema : Schema) (query : Query) → IsQueryOf schema 0 query → AreAsked schema (Plain query ∷ [])
are_asked schema query fits = record { queries = alone (IsQueryOf schema 0) query fits; names = refl }

pub lock_is_of : (schema : Schema) (asked : List Asked) (take : Take) (period : ℕ) → AreAsked schema asked → 1 ≤ period → IsOfSchema schema (Lock asked take period)
lock_is_of schema asked take period are le = record {
  types = All-nil _;
  queries = are.queries;
  names = rw are.names (All-nil _);
  values = tt;
  actions = All-nil _;
  stored = All-nil _;
  periods = alone (λ p. 1 ≤ p) period le;
  kept = All-nil _;
}

pub page_is_of : (schema : Schema) (present : Present) (asked : List Asked) (take : Take) (period : ℕ) → AreAsked schema asked → 1 ≤ period → IsOfSchema schema (GetLocked present asked take period)
page_is_of schema present asked take period are le = record {
  types = All-nil _;
  queries = are.queries;
  names = rw are.names (All-nil _);
  values = tt;
  actions = All-nil _;
  stored = All-nil _;
  periods = alone (λ p. 1 ≤ p) period le;
  kept = All-nil _;
}

pub renewal_is_of : (schema : Schema) (lock : LockId) → IsOfSchema schema (Renew lock (Some 100))
renewal_is_of schema lock = record {
  types = All-nil _;
  queries = All-nil _;
  names = All-nil _;
  values = tt;
  actions = All-nil _;
  stored = All-nil _;
  periods = alone (λ p. 1 ≤ p) 100 (omega arith);
  kept = All-nil _;
}

pub transaction_is_of : (schema : Schema) (lock : Option LockId) (release : Release) (actions : List Action) → All (IsActionOf schema) actions → IsOfSchema schema (Transact lock release actions)
transaction_is_of schema lock release actions all = record {
  types = All-nil _;
  queries = All-nil _;
  names = All-nil _;
  values = tt;
  actions = all;
  stored = All-nil _;
  periods = All-nil _;
  kept = All-nil _;
}

pub stored_is_of : (schema : Schema) (stored : StoredQuery) → stored.parameters ≡ [] → stored.queries ≡ [] → IsStoredOf schema stored
stored_is_of schema stored none nothing = record {
  queries = rw nothing (All-nil _);
  names = rw none (All-nil _);
  different = rw none (none_paired (λ (a b : List ℕ). is_same_name a b ≡ false));
}

pub creation_is_of : (schema : Schema) (definitions : List StoredQuery) → All (IsStoredOf schema) definitions → IsOfSchema schema (CreateStored definitions)
creation_is_of schema definitions all = record {
  types = All-nil _;
  queries = All-nil _;
  names = All-nil _;
  values = tt;
  actions = All-nil _;
  stored = all;
  periods = All-nil _;
  kept = All-nil _;
}

pub drop_is_of : (schema : Schema) (id : List ℕ) → id ≡ codes "urn:x:by" → IsOfSchema schema (DropStored id)
unfolding is_id_query
drop_is_of schema id is = record {
  types = All-nil _;
  queries = All-nil _;
  names = All-nil _;
  values = tt;
  actions = All-nil _;
  stored = All-nil _;
  periods = All-nil _;
  kept = alone (λ id. is_id_query id ≡ false) id (rw is refl);
}

-- ---- three marks

abbrev id : ℕ → Rid
id number = record { kind = 0; number = number }

listed : (f g h : Feature) → f.id ≡ id 1 → g.id ≡ id 2 → h.id ≡ id 3 → laid (laid (laid [] f.id (Some f)) g.id (Some g)) h.id (Some h) ≡ f ∷ g ∷ h ∷ []
unfolding laid
listed f g h a b c = rw (a, b, c) refl

pub are_three : (schema : Schema) (f g h : Feature) → AreMarks schema → f.id ≡ id 1 → g.id ≡ id 2 → h.id ≡ id 3 → feature_fits schema f ≡ Ok tt → feature_fits schema g ≡ Ok tt → feature_fits schema h ≡ Ok tt
    → AreThree schema (laid (laid (laid [] f.id (Some f)) g.id (Some g)) h.id (Some h))
are_three schema f g h marks a b c fits_f fits_g fits_h = subst (AreThree schema) (sym (listed f g h a b c)) (record {
  order = (
    All-cons (Before f) g (h ∷ []) (rw (a, b) refl) (alone (Before f) h (rw (a, c) refl)),
    (alone (Before g) h (rw (b, c) refl), (All-nil (Before h), tt)),
  );
  fitting = three (λ (x : Feature). feature_fits schema x ≡ Ok tt) f g h fits_f fits_g fits_h;
  given = three (λ x. IsGiven (3 ∷ []) x.id) f g h (rw a (omega arith)) (rw b (omega arith)) (rw c (omega arith));
  counters = rw marks refl;
  stored = All-nil _;
  different = none_paired (λ (a b : StoredQuery). bytes_eq a.id b.id ≡ false);
  made = All-nil _;
})

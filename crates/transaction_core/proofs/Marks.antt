-- What the tests need: requests that the schema of marks allows.
use Rattle.std.proofs.Common.{◌≡◌, ℤ, ◌<◌, List, [], ◌∷◌, ◌++◌, Option, Some, Ok, refl, arith, zero, suc}
use Rattle.std.specs.Prelude.{All}
use Rattle.std.proofs.lemmas.List.Elements.{All-append}
use Rattle.feature_values.specs.declared.schema.Schema.{Schema}
use Rattle.feature_values.specs.declared.value.Value.TheVariants.{Whole}
use Rattle.feature_values.specs.Fits.{value_fits, is_of_kind}
use Rattle.fes_filter.specs.Check.{check_of}
use Rattle.fes_filter.specs.declared.filter.Filter.{Filter}
use Rattle.lock_table.specs.declared.id.LockId.{LockId}
use Rattle.lock_table.specs.declared.words.Release.{Release}
use Rattle.wfs_model.specs.declared.action.Action.{Action}
use Rattle.wfs_model.specs.declared.request.Request.TheVariants.{Transact}
use Rattle.wfs_model.specs.OfSchema.{IsType, IsFilterOf, IsSetOf, IsActionOf, IsOfSchema}
use Rattle.transaction_core.specs.Marks.{AreMarks, IsOne}

pub alone : {X : Type 0} (P : X → Type 0) (x : X) → P x → All P (x ∷ [])
alone P x p zero d lt = p
alone P x p (suc k) d lt = absurd (omega (arith, lt))

none : {X : Type 0} (P : X → Type 0) → All P []
none P k d lt = absurd (omega (arith, lt))

pub all_more : {X : Type 0} (P : X → Type 0) (xs : List X) (x : X) → All P xs → P x → All P (xs ++ x ∷ [])
all_more P xs x all p = All-append P xs (x ∷ []) all (alone P x p)

pub all_none : {X : Type 0} (P : X → Type 0) → All P []
all_none P = none P

pub one_is_of : (schema : Schema) (filter : Filter) → AreMarks schema → IsOne filter → check_of schema (Some 0) filter ≡ Ok tt → IsFilterOf schema (Some 0) 0 filter
one_is_of schema filter marks one checked = record {
  checked = checked;
  ids = λ k d lt. rw marks (one.0 k d lt);
  places = rw one.1 (none (λ place. place < 0));
}

pub kind_is_of : (schema : Schema) → AreMarks schema → IsType schema 0
kind_is_of schema marks = rw marks (omega arith)

pub size_is_of : (schema : Schema) (size : ℤ) → AreMarks schema → IsSetOf schema 0 (0, Whole size)
unfolding value_fits is_of_kind
size_is_of schema size marks = rw marks refl

pub transaction_is_of : (schema : Schema) (lock : Option LockId) (release : Release) (actions : List Action) → All (IsActionOf schema) actions → IsOfSchema schema (Transact lock release actions)
transaction_is_of schema lock release actions all = record {
  types = none _;
  queries = none _;
  names = none _;
  values = tt;
  actions = all;
  stored = none _;
  periods = none _;
  kept = none _;
}

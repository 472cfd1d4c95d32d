-- The bodies of a checkpoint come to what it was made of.
use Rattle.std.proofs.Common.{◌≡◌, ℕ, true, false, List, [], ◌++◌, length, map, All, Ok, refl, ap, ◌∙◌}
use Rattle.std.specs.Simd.{first_chunks}
use Rattle.std.specs.Slice.Iter.{chunk_count}
use Rattle.std.proofs.lemmas.List.Elements.{All-nil, All-cons, All-head, All-tail, All-append, All-map, All-weaker}
use Rattle.wfs_ends.specs.Read.{◌>>=◌}
use Rattle.feature_values.specs.declared.feature.Feature.{Feature}
use Rattle.feature_values.specs.declared.schema.Schema.{Schema}
use Rattle.wfs_model.specs.declared.change.Change.{Change}
use Rattle.wfs_model.specs.declared.change.Change.TheVariants.{Base}
use Rattle.wfs_model.specs.declared.stored.StoredQuery.{StoredQuery}
use Rattle.wfs_model.specs.State.{Durable, nothing}
use Rattle.wfs_model.specs.Played.{played_one}
use Rattle.query_docs.specs.Reading.{IsKeptText}
use Rattle.journal_replay.specs.Replayed.{may_stand, kept_after_all, replayed}
use Rattle.journal_replay.specs.Checkpoint.{most_rows, put_all, rows_of, created_one, checkpoint_of, ArePlayable}
use Rattle.journal_replay.specs.Written.{body_in, IsReadIn, HasKeptTexts, IsRestorable}
use Rattle.journal_replay.proofs.Checkpoints.{checkpoint_plays, checkpoint_may}
use Rattle.journal_replay.proofs.Taking.{taken_one, taken_all}

module _ (P : Change → Type 0) where
  runs_all : (fs : List Feature) (n k : ℕ) → ((gs : List Feature) → P (put_all gs)) → All P (map put_all (first_chunks n k fs))
  runs_all fs n k each = All-map P put_all (first_chunks n k fs) (λ i d lt. each _)

  ones_all : (stored : List StoredQuery) → All (λ one. P (created_one one)) stored → All P (map created_one stored)
  ones_all stored each = All-map P created_one stored each

  -- what holds of the runs and of the stored queries holds of all that stands behind the beginning
  rest_all : (kept : Durable) → ((gs : List Feature) → P (put_all gs)) → All (λ one. P (created_one one)) kept.stored → All P (rows_of kept.features ++ map created_one kept.stored)
  rest_all kept rows ones = All-append P (rows_of kept.features) (map created_one kept.stored) (runs_all kept.features most_rows (chunk_count (length kept.features) most_rows) rows) (ones_all kept.stored ones)

one_told : (schema : Schema) (one : StoredQuery) → IsKeptText schema one → HasKeptTexts schema (created_one one)
one_told schema one told = All-cons (IsKeptText schema) one [] told (All-nil (IsKeptText schema))

pub checkpoint_again : (schema : Schema) (kept : Durable) → IsRestorable schema kept → All (IsReadIn schema) (checkpoint_of kept) → replayed schema (map (body_in schema) (checkpoint_of kept)) ≡ Ok kept
unfolding replayed kept_after_all checkpoint_of
checkpoint_again schema kept is back =
    let base : Change = Base kept.opening kept.counters in
    let rest : List Change = rows_of kept.features ++ map created_one kept.stored in
    let may : ArePlayable schema (nothing (length schema.types)) (checkpoint_of kept) = checkpoint_may schema kept is.well is.numbers in
    let stand : All (λ change. may_stand false change ≡ true) rest = rest_all (λ change. may_stand false change ≡ true) kept (λ gs. refl) (λ i d lt. refl) in
    let told : All (HasKeptTexts schema) rest = rest_all (HasKeptTexts schema) kept (λ gs. tt) (All-weaker (IsKeptText schema) (λ (one : StoredQuery). HasKeptTexts schema (created_one one)) (λ one t. one_told schema one t) kept.stored is.texts) in
    ap (λ r. r >>= λ now. kept_after_all schema false now (map (body_in schema) rest)) (taken_one schema true (nothing (length schema.types)) base refl may.0 tt (All-head (IsReadIn schema) base rest back))
    ∙ taken_all schema (played_one (nothing (length schema.types)) base) rest stand may.1 told (All-tail (IsReadIn schema) base rest back)
    ∙ ap Ok (checkpoint_plays schema kept is.well)

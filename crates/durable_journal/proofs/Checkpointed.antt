-- The records of a checkpoint read back, so that they come to what it was made of.
use Rattle.std.proofs.Common.{◌≡◌, ℕ, ◌<◌, ◌≤◌, List, [], ◌∷◌, ◌++◌, length, take, drop, map, All, Option, Some, None, Ok, refl, subst, arith}
use Rattle.std.specs.Prelude.{zero, suc, ◌==◌, slice_get}
use Rattle.std.specs.List.{AllByRecursion}
use Rattle.std.specs.Simd.{first_chunks}
use Rattle.std.specs.Slice.Iter.{chunk_count}
use Rattle.std.proofs.lemmas.Option.{slice_get_within, get_or_from_slice_get}
use Rattle.std.proofs.lemmas.List.Elements.{All-nil, All-cons, All-head, All-tail, All-append, All-map, All-weaker, All-take, All-drop, All-get_or}
use Rattle.wfs_ends.proofs.Turns.{if_ok}
use Rattle.feature_journal.specs.Whole.{Fits}
use Rattle.feature_values.specs.declared.fault.ValueFault.TheVariants.{Unknown}
use Rattle.feature_values.specs.declared.feature.Feature.{Feature}
use Rattle.feature_values.specs.declared.schema.FeatureType.{FeatureType}
use Rattle.feature_values.specs.declared.schema.Schema.{Schema}
use Rattle.feature_values.specs.declared.value.Value.{Value}
use Rattle.feature_values.specs.Fits.{values_fit, type_fits, type_fits_if, feature_fits}
use Rattle.feature_schema.specs.Rules.{IsType, KeepsRules}
use Rattle.feature_schema.specs.Signature.{signature_text}
use Rattle.wfs_model.specs.declared.change.Part.TheVariants.{Put}
use Rattle.wfs_model.specs.declared.change.Change.{Change}
use Rattle.wfs_model.specs.declared.change.Change.TheVariants.{Base}
use Rattle.wfs_model.specs.declared.stored.StoredQuery.{StoredQuery}
use Rattle.wfs_model.specs.State.{Durable}
use Rattle.wfs_model.specs.Playable.{most_number}
use Rattle.journal_format.specs.Spelling.{IsShort, AreShort}
use Rattle.journal_format.specs.Writable.{IsCounter, IsPart, IsStored, IsWritable}
use Rattle.journal_format.proofs.Changes.{reads_back}
use Rattle.journal_replay.specs.Checkpoint.{most_rows, put_all, rows_of, created_one, checkpoint_of}
use Rattle.journal_replay.specs.Written.{body_in, IsReadIn, IsRestorable}
use Rattle.journal_replay.proofs.Again.{checkpoint_again}
use Rattle.durable_journal.specs.Holdable.{IsHoldable}
use Rattle.durable_journal.specs.Standing.{ComeTo}

-- ---- numbers stand in two bytes

type_few : (of_type : FeatureType) (values : List Value) → IsType of_type → type_fits of_type values ≡ Ok tt → length values ≤ 65_535
unfolding type_fits
type_few of_type values is fits =
    let same = (if_ok (length of_type.properties == length values) (values_fit of_type.properties values) Unknown tt fits).0 in
    let few = is.few in
    grind (arith, same, few)

feature_short : (schema : Schema) (f : Feature) → KeepsRules schema → feature_fits schema f ≡ Ok tt → IsShort (Put f)
unfolding feature_fits
feature_short schema f rules fits = by_type (slice_get schema.types f.id.kind) refl fits
  where
    by_type : (of_type : Option FeatureType) → slice_get schema.types f.id.kind ≡ of_type → type_fits_if of_type f.values ≡ Ok tt → IsShort (Put f)
    by_type None is fits = absurd cc
    by_type (Some of_type) is fits =
        let within : f.id.kind < length schema.types = slice_get_within schema.types f.id.kind of_type is in
        let rule : IsType of_type = subst IsType (get_or_from_slice_get schema.types f.id.kind of_type of_type is) (All-get_or IsType schema.types f.id.kind of_type within rules.types) in
        (omega (arith, within, rules.few_types), type_few of_type f.values rule fits)

-- ---- each change of a checkpoint

-- a change that is written such as it is, in the bytes that its numbers have
abbrev IsGood : Schema → Change → Type 0
IsGood schema change = AreShort change × IsWritable change (signature_text schema)

module _ (schema : Schema) (rules : KeepsRules schema) (kept : Durable) (is : IsRestorable schema kept) (hold : IsHoldable kept) where
  run_good : (gs : List Feature) → All (λ f. IsShort (Put f)) gs → All (λ f. IsPart (Put f)) gs → IsGood schema (put_all gs)
  run_good gs short parts = (All-map IsShort Put gs short, All-map IsPart Put gs parts)

  rows_good : All (IsGood schema) (rows_of kept.features)
  rows_good =
      let short : All (λ f. IsShort (Put f)) kept.features = All-weaker (λ (f : Feature). feature_fits schema f ≡ Ok tt) (λ (f : Feature). IsShort (Put f)) (λ f fits. feature_short schema f rules fits) kept.features is.well.fitting in
      All-map (IsGood schema) put_all (first_chunks most_rows (chunk_count (length kept.features) most_rows) kept.features)
      (both_good most_rows (chunk_count (length kept.features) most_rows) kept.features short hold.features)
    where
      both_good : (n k : ℕ) (fs : List Feature) → All (λ f. IsShort (Put f)) fs → All (λ f. IsPart (Put f)) fs → All (λ gs. IsGood schema (put_all gs)) (first_chunks n k fs)
      both_good n zero fs short parts = All-nil (λ (gs : List Feature). IsGood schema (put_all gs))
      both_good n (suc k) fs short parts =
          All-cons (λ (gs : List Feature). IsGood schema (put_all gs)) (take n fs) (first_chunks n k (drop n fs))
          (run_good (take n fs) (All-take (λ (f : Feature). IsShort (Put f)) n fs short) (All-take (λ (f : Feature). IsPart (Put f)) n fs parts))
          (both_good n k (drop n fs) (All-drop (λ (f : Feature). IsShort (Put f)) n fs short) (All-drop (λ (f : Feature). IsPart (Put f)) n fs parts))

  one_good : (one : StoredQuery) → IsStored one → IsGood schema (created_one one)
  one_good one stored = (tt, All-cons IsStored one [] stored (All-nil IsStored))

  base_good : IsGood schema (Base kept.opening kept.counters)
  base_good = (omega (arith, is.well.counters, rules.few_types), (hold.opening, All-weaker (λ (n : ℕ). n ≤ most_number) IsCounter (λ n low. omega (arith, low)) kept.counters is.numbers))

  all_good : All (IsGood schema) (checkpoint_of kept)
  unfolding checkpoint_of
  all_good =
      All-cons (IsGood schema) (Base kept.opening kept.counters) (rows_of kept.features ++ map created_one kept.stored) base_good
      (All-append (IsGood schema) (rows_of kept.features) (map created_one kept.stored) rows_good
      (All-map (IsGood schema) created_one kept.stored (All-weaker IsStored (λ (one : StoredQuery). IsGood schema (created_one one)) one_good kept.stored hold.stored)))

  all_read : (changes : List Change) → All (IsGood schema) changes → AllByRecursion Fits (map (body_in schema) changes) → All (IsReadIn schema) changes
  all_read [] good fit = All-nil (IsReadIn schema)
  all_read (change ∷ changes) good fit =
      let first = All-head (IsGood schema) change changes good in
      let fits : Fits (body_in schema change) = fit.0 in
      All-cons (IsReadIn schema) change changes (reads_back change (signature_text schema) (record { long = omega (arith, fits); short = first.0 }) first.1)
      (all_read changes (All-tail (IsGood schema) change changes good) fit.1)

  -- where each of its records fits into a side, they come to what it was made of
  pub checkpoint_comes : AllByRecursion Fits (map (body_in schema) (checkpoint_of kept)) → ComeTo schema kept (map (body_in schema) (checkpoint_of kept))
  checkpoint_comes fit = checkpoint_again schema kept is (all_read (checkpoint_of kept) all_good fit)

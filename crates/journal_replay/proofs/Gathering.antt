-- Features that are gathered one by one, each behind the one before.
use Rattle.std.proofs.Common.{◌≡◌, ℕ, ◌+◌, ◌-◌, ◌<◌, ◌≤◌, List, [], ◌∷◌, ◌++◌, length, take, drop, map, Option, Some, None, refl, sym, ap, ◌∙◌, append_assoc, arith}
use Rattle.std.specs.Prelude.{suc}
use Rattle.std.specs.Simd.{first_chunks}
use Rattle.std.specs.Slice.Iter.{chunk_count}
use Rattle.std.proofs.Math.Seq.{take-nil, drop-nil}
use Rattle.std.proofs.lemmas.List.{append-nil, length-append, length-drop}
use Rattle.feature_values.specs.declared.feature.Feature.{Feature}
use Rattle.feature_values.specs.declared.feature.Rid.{Rid}
use Rattle.fes_filter.specs.View.{IsInOrder, next_after}
use Rattle.query_core.proofs.Walks.{next_found, next_none}
use Rattle.wfs_model.specs.declared.change.Part.{Part}
use Rattle.wfs_model.specs.declared.change.Part.TheVariants.{Put}
use Rattle.wfs_model.specs.declared.change.Change.{Change}
use Rattle.wfs_model.specs.declared.change.Change.TheVariants.{Rows}
use Rattle.wfs_model.specs.State.{Durable}
use Rattle.journal_replay.specs.Checkpoint.{most_rows, put_all, rows_of, created_one}
use Rattle.journal_replay.specs.Left.{behind}

-- the first of the features behind a place are put, so many at the most, and the others stand behind the last
pub record Gathers (most : ℕ) (features : List Feature) (after last : Option Rid) (parts : List Part) : Type 0 where
  pub few : length parts ≤ most
  pub puts : parts ++ map Put (take (most - length parts) (behind last features)) ≡ map Put (take most (behind after features))
  pub rest : drop (most - length parts) (behind last features) ≡ drop most (behind after features)

pub gathers_none : (most : ℕ) (features : List Feature) (after : Option Rid) → Gathers most features after after []
gathers_none most features after =
    let all : most - 0 ≡ most = omega arith in
    record {
      few = omega arith;
      puts = ap (λ n. map Put (take n (behind after features))) all;
      rest = ap (λ n. drop n (behind after features)) all;
    }

pub gathers_more : (most : ℕ) (features : List Feature) (after last : Option Rid) (parts : List Part) (f : Feature) → IsInOrder features → Some f ≡ next_after last features → length parts < most
    → Gathers most features after last parts → Gathers most features after (Some f.id) (parts ++ Put f ∷ [])
gathers_more most features after last parts f order next less so_far =
    let first : behind last features ≡ f ∷ behind (Some f.id) features = next_found last features f order next in
    let one : length (parts ++ Put f ∷ []) ≡ length parts + 1 = length-append parts (Put f ∷ []) in
    let left : most - length parts ≡ suc (most - length (parts ++ Put f ∷ [])) = omega (arith, one, less) in
    let puts : parts ++ map Put (take (suc (most - length (parts ++ Put f ∷ []))) (f ∷ behind (Some f.id) features)) ≡ map Put (take most (behind after features)) =
    sym (rw (left, first) refl) ∙ so_far.puts in
    let rest : drop (suc (most - length (parts ++ Put f ∷ []))) (f ∷ behind (Some f.id) features) ≡ drop most (behind after features) = sym (rw (left, first) refl) ∙ so_far.rest in
    record { few = omega (arith, one, less); puts = append_assoc parts (Put f ∷ []) _ ∙ puts; rest = rest }

-- what was gathered at the end
pub record Gathered (most : ℕ) (features : List Feature) (after last : Option Rid) (parts : List Part) : Type 0 where
  pub puts : parts ≡ map Put (take most (behind after features))
  pub rest : behind last features ≡ drop most (behind after features)

pub gathered_all : (most : ℕ) (features : List Feature) (after last : Option Rid) (parts : List Part) → most ≤ length parts → Gathers most features after last parts → Gathered most features after last parts
gathered_all most features after last parts full so_far =
    let none : most - length parts ≡ 0 = omega (arith, full) in
    record {
      puts = sym (append-nil parts) ∙ sym (ap (λ n. parts ++ map Put (take n (behind last features))) none) ∙ so_far.puts;
      rest = sym (ap (λ n. drop n (behind last features)) none) ∙ so_far.rest;
    }

pub gathered_end : (most : ℕ) (features : List Feature) (after last : Option Rid) (parts : List Part) → None ≡ next_after last features → Gathers most features after last parts → Gathered most features after last parts
gathered_end most features after last parts next so_far =
    let none : behind last features ≡ [] = next_none last features next in
    record {
      puts = sym (append-nil parts) ∙ sym (ap (λ l. parts ++ map Put l) (ap (take (most - length parts)) none ∙ take-nil (most - length parts))) ∙ so_far.puts;
      rest = none ∙ sym (ap (drop (most - length parts)) none ∙ drop-nil (most - length parts)) ∙ so_far.rest;
    }

-- ---- what is left behind a record

module _ (kept : Durable) where
  abbrev ones : List Change
  ones = map created_one kept.stored

  -- features in runs, by the first run
  rows_first : (f : Feature) (fs : List Feature) → rows_of (f ∷ fs) ≡ put_all (take most_rows (f ∷ fs)) ∷ rows_of (drop most_rows (f ∷ fs))
  rows_first f fs =
      let fewer : length (drop most_rows (f ∷ fs)) ≡ length (f ∷ fs) - most_rows = length-drop most_rows (f ∷ fs) in
      let one : chunk_count (length (f ∷ fs)) most_rows ≡ suc (chunk_count (length (drop most_rows (f ∷ fs))) most_rows) = omega (arith, fewer) in
      ap (λ k. map put_all (first_chunks most_rows k (f ∷ fs))) one

  -- some features were put
  pub rows_behind : (fs rest : List Feature) (parts : List Part) → parts ≡ map Put (take most_rows fs) → rest ≡ drop most_rows fs → (length parts ≡ 0 → ⊥) → rows_of fs ++ ones ≡ Rows parts ∷ (rows_of rest ++ ones)
  rows_behind [] rest parts puts left some = absurd (some (ap length puts ∙ ap (λ l. length (map Put l)) (take-nil most_rows)))
  rows_behind (f ∷ fs) rest parts puts left some = rw (rows_first f fs, left, puts) refl

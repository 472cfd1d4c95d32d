-- What is published of a store's history, and what viewers have found of it.
use Rattle.std.specs.Prelude.{◌≡◌, ◌⊎◌, ℕ, ◌≤◌, List, [], ◌∷◌, ◌++◌, length, take, slice_get, Option, Some, All}
use Rattle.snapshot_reads.specs.declared.book.Pair.{Pair}
use Rattle.snapshot_reads.specs.declared.viewer.Viewer.{Viewer}
use Rattle.snapshot_reads.specs.Pairs.{pair}
use Rattle.snapshot_reads.specs.Viewers.{entered_of}
use Rattle.snapshot_reads.specs.Whole.{of_some}
use Rattle.shared_store.specs.Openings.{having}
use Rattle.wfs_store.specs.Held.{Held, kept_of}

module _ {D : Type 0} where
  -- the pair of front n: what outlives the process after the first n entries of the history
  abbrev pub pair_at : Held D → ℕ → Pair
  pair_at held n = pair n (record { schema = held.schema; kept = kept_of (having held (take n held.entries)) })

  -- each of these pairs is that of its place
  abbrev pub ArePairsOf : Held D → List Pair → Type 0
  ArePairsOf held pairs = (n : ℕ) (p : Pair) → slice_get pairs n ≡ Some p → p ≡ pair_at held n

  -- a pair that was found is a front in the history, and what outlives the process there
  pub record IsOf (held : Held D) (p : Pair) : Type 0 where
    pub within : p.front ≤ length held.entries
    pub there : p ≡ pair_at held p.front

  abbrev pub AreOf : Held D → List Pair → Type 0
  AreOf held pairs = All (IsOf held) pairs

-- ---- viewers

-- what a viewer has found, in the order of its reads; nothing, where there is none
abbrev pub pairs_of : Option Viewer → List Pair
pairs_of viewer = of_some viewer [] entered_of

-- what was found is one pair more, or no more
abbrev pub FindsOne : List Pair → List Pair → Type 0
FindsOne before after = (after ≡ before) ⊎ ((p : Pair) × (after ≡ before ++ p ∷ []))

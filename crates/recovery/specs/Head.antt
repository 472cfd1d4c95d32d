-- What the first bytes of a side tell.
use Rattle.std.specs.Prelude.{◌≡◌, ◌<◌, ◌^◌, ℕ, List, [], ◌∷◌, length, Some}
use Rattle.disk_core.specs.Disk.{Begins}
use Rattle.feature_journal.specs.Refused.{Able}
use Rattle.feature_journal.specs.Whole.{Marked}
use Rattle.feature_journal.specs.Recover.{foreign_at}
use Rattle.recovery.specs.declared.head.Kind.{Kind}
use Rattle.recovery.specs.declared.head.Kind.TheVariants.{Short, Shut, Foreign, Open, Stale}
use Rattle.recovery.specs.declared.head.Head.{Head}

-- Mark, version and this generation stand behind a byte 0 that reads neither 0 nor 1.
pub record IsStale (generation : ℕ) (c : List ℕ) : Type 0 where
  pub fits : generation < 2 ^ 64
  pub marked : Marked generation c
  pub not_closed : marked.gate ≡ 0 → ⊥
  pub not_open : marked.gate ≡ 1 → ⊥

abbrev pub KindIs : Kind → ℕ → List ℕ → Type 0
KindIs Short generation c = length c < 17
KindIs Shut generation c = Begins (0 ∷ []) c
KindIs (Foreign place) generation c = foreign_at c ≡ Some place
KindIs Open generation c = Able generation c
KindIs Stale generation c = IsStale generation c

abbrev pub Tells : Head → List ℕ → Type 0
Tells h c = KindIs h.kind h.generation c

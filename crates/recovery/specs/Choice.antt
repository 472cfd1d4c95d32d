-- What is known of two sides, once it is chosen which one is current.
use Rattle.std.specs.Prelude.{◌≡◌, ◌<◌, ℕ, List, [], ◌∷◌, length, Bool, true, false, not}
use Rattle.disk_core.specs.Disk.{Begins}
use Rattle.feature_journal.specs.Refused.{Able}
use Rattle.feature_journal.specs.Recover.{foreign_at}
use Rattle.recovery.specs.declared.choose.Choice.{Choice}
use Rattle.recovery.specs.declared.choose.Choice.TheVariants.{Foreign, Nothing, Current}
use Rattle.recovery.specs.Head.{IsStale}
use Rattle.recovery.specs.Outcome.{Outcome, unless_foreign, not_a_journal}

-- a side that cannot be current: stale, or short, or with byte 0 equal to 0
pub data IsResting (is_stale : Bool) (c : List ℕ) : Type 0 where
  stale : (own : ℕ) → is_stale ≡ true → IsStale own c → IsResting is_stale c
  short : is_stale ≡ false → length c < 17 → IsResting is_stale c
  shut : is_stale ≡ false → Begins (0 ∷ []) c → IsResting is_stale c

-- a side beside the current one, of this generation
pub data IsBeside (is_stale is_b : Bool) (generation : ℕ) (c : List ℕ) : Type 0 where
  rests : IsResting is_stale c → IsBeside is_stale is_b generation c
  older : (own : ℕ) → is_stale ≡ false → own < generation → Able own c → IsBeside is_stale is_b generation c
  tied : is_stale ≡ false → is_b ≡ true → Able generation c → IsBeside is_stale is_b generation c

abbrev pub SideIs : (is_current is_stale is_b : Bool) (generation : ℕ) → List ℕ → Type 0
SideIs true is_stale is_b generation c = Able generation c
SideIs false is_stale is_b generation c = IsBeside is_stale is_b generation c

abbrev pub FirstIs : Choice → List ℕ → Type 0
FirstIs (Foreign place) x = Unit {0}
FirstIs (Nothing first_is_stale second_is_stale) x = IsResting first_is_stale x
FirstIs (Current second generation is_stale) x = SideIs (not second) is_stale false generation x

abbrev pub SecondIs : Choice → List ℕ → Type 0
SecondIs (Foreign place) y = Unit {0}
SecondIs (Nothing first_is_stale second_is_stale) y = IsResting second_is_stale y
SecondIs (Current second generation is_stale) y = SideIs second is_stale true generation y

-- where a side is said to be no journal's, it is so, side a before side b
abbrev pub IsForeign : Choice → List ℕ → List ℕ → Type 0
IsForeign (Foreign place) x y = (other : Outcome) → unless_foreign (foreign_at x) (foreign_at y) other ≡ not_a_journal place.second_side place.at []
IsForeign (Nothing first_is_stale second_is_stale) x y = Unit {0}
IsForeign (Current second generation is_stale) x y = Unit {0}

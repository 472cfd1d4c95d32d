-- What two sides together say.
use Rattle.std.specs.Prelude.{◌≡◌, ◌⊎◌, ◌<◌, ◌^◌, ℕ, List, [], ◌∷◌, ◌++◌, length, drop, Bool, true, false, not, cond}
use Rattle.std.specs.List.{AllByRecursion}
use Rattle.std.specs.Int.{to_be_bytes, w64}
use Rattle.disk_core.specs.Disk.{Begins, Every}
use Rattle.feature_journal.specs.Side.{mark, side, behind, Closed}

abbrev pub Fits : List ℕ → Type 0
Fits body = length body < 2 ^ 32

-- what a side can say
pub record IsList (generation : ℕ) (bodies : List (List ℕ)) : Type 0 where
  pub generation_fits : generation < 2 ^ 64
  pub bodies_fit : AllByRecursion Fits bodies

-- one of these lists
abbrev pub OneOf : List (List (List ℕ)) → List (List ℕ) → Type 0
OneOf [] bodies = ⊥
OneOf (list ∷ lists) bodies = (bodies ≡ list) ⊎ OneOf lists bodies

-- At least 17 bytes with mark and version, and this generation.
pub record Marked (generation : ℕ) (c : List ℕ) : Type 0 where
  pub gate : ℕ
  pub first : ℕ
  pub is : Begins (gate ∷ (mark ++ to_be_bytes w64 generation ++ first ∷ [])) c

-- The side that is not current does no harm beside one of this generation, which says one of these lists.
pub data Harmless (is_b : Bool) (generation : ℕ) (lists : List (List (List ℕ))) (c : List ℕ) : Type 0 where
  short : length c < 17 → Harmless is_b generation lists c
  shut : Begins (0 ∷ []) c → Harmless is_b generation lists c
  older : (own : ℕ) → Marked own c → own < generation → Harmless is_b generation lists c
  tied : is_b ≡ true → Marked generation c → Harmless is_b generation lists c
  equal : (gate own : ℕ) (bodies : List (List ℕ)) → (gate ≡ 1 → ⊥) → IsList own bodies → OneOf lists bodies → Begins (gate ∷ (drop 1 (side own bodies) ++ 0 ∷ [])) c → Harmless is_b generation lists c

-- What each image of the side that is not current is: all short, or all closed, or all marked with one generation that does no harm.
-- An image that is one beside an image that is another would not do: byte 0 is written 0 only where it does not read so.
pub data Idle (is_b : Bool) (generation : ℕ) (images : List ℕ → Type 0) : Type 0 where
  idle_short : Every images (λ c. length c < 17) → Idle is_b generation images
  idle_shut : Every images (Begins (0 ∷ [])) → Idle is_b generation images
  idle_older : (own : ℕ) → own < generation → Every images (Marked own) → Idle is_b generation images
  idle_tied : is_b ≡ true → Every images (Marked generation) → Idle is_b generation images

-- The records end at a closed gate, or at a gate that is not open, with a whole record and a closed gate behind it.
pub data Ends (front c : List ℕ) : Type 0 where
  closed : Closed front c → Ends front c
  tail : (gate : ℕ) (body : List ℕ) → (gate ≡ 1 → ⊥) → Fits body → Begins (front ++ gate ∷ behind body) c → Ends front c

-- An image of two sides is whole, and its current side says one of these lists, which are worth the same.
pub record Says (lists : List (List (List ℕ))) (a b : List ℕ) : Type 0 where
  pub second : Bool
  pub generation : ℕ
  pub bodies : List (List ℕ)
  pub list : IsList generation bodies
  pub one : OneOf lists bodies
  pub ends : Ends (side generation bodies) (cond second b a)
  pub beside : Harmless (not second) generation lists (cond second a b)

-- what a side that is made goes through
abbrev pub HarmlessOr : Bool → ℕ → (List ℕ → Type 0) → List ℕ → Type 0
HarmlessOr is_b generation P c = Harmless is_b generation [] c ⊎ P c

-- What stands behind byte 0 of a side that is not current, where any byte 0 does no harm: it is older, or it says one of the lists.
pub data Stale (is_b : Bool) (generation : ℕ) (lists : List (List (List ℕ))) (text : List ℕ) : Type 0 where
  stale_older : (own first : ℕ) (rest : List ℕ) → own < generation → text ≡ mark ++ to_be_bytes w64 own ++ first ∷ rest → Stale is_b generation lists text
  stale_tied : (first : ℕ) (rest : List ℕ) → is_b ≡ true → text ≡ mark ++ to_be_bytes w64 generation ++ first ∷ rest → Stale is_b generation lists text
  stale_greater : (own : ℕ) (bodies : List (List ℕ)) → IsList own bodies → OneOf lists bodies → (generation < own) ⊎ ((own ≡ generation) × (is_b ≡ false)) → text ≡ drop 1 (side own bodies) ++ 0 ∷ [] → Stale is_b generation lists text

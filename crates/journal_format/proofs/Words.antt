-- What the proofs of reading and writing speak of.
use Rattle.std.proofs.Common.{◌≡◌, List, ◌++◌, ℕ, Ok}
use Rattle.journal_format.specs.Numbers.{AreBytes, Reads}

-- these bytes read as x, whatever stands behind them
pub record ReadAs {A : Type 0} (read : List ℕ → Reads A) (bytes : List ℕ) (x : A) : Type 0 where
  pub again : (rest : List ℕ) → read (bytes ++ rest) ≡ Ok (x, rest)

-- x, and what stands behind it: its spelling stands in front of that, and it is such as it has to be
pub record IsRead {A : Type 0} (spelling : A → List ℕ) (Such : A → Type 0) (bytes : List ℕ) (x : A × List ℕ) : Type 0 where
  pub whole : bytes ≡ spelling x.0 ++ x.1
  pub such : Such x.0

-- whatever is read of bytes is so
pub record IsExact {A : Type 0} (read : List ℕ → Reads A) (spelling : A → List ℕ) (Such : A → Type 0) : Type 0 where
  pub told : (bytes : List ℕ) (x : A × List ℕ) → AreBytes bytes → read bytes ≡ Ok x → IsRead spelling Such bytes x

-- Words for readers: a reading is a value, or the first fault, for any type of faults.
use Rattle.std.specs.Prelude.{◌≡◌, ℕ, zero, suc, Bool, if◌then◌else◌, List, [], ◌∷◌, Result, Ok, Err}

infixl 10 ◌>>=◌
abbrev pub ◌>>=◌ : {E A B : Type 0} → Result A E → (A → Result B E) → Result B E
(Ok x) >>= f = f x
(Err e) >>= f = Err e

-- a fault is what reading gives, unless it is the want of memory
abbrev pub FailsBut : {E Y : Type 0} → E → E → Result Y E → Type 0
FailsBut memory e read = (e ≡ memory → ⊥) → read ≡ Err e

-- what a call answered is what reading gives, seen by the view, unless it is the want of memory
abbrev pub GivesBut : {E X Y : Type 0} → E → (X → Y) → Result X E → Result Y E → Type 0
GivesBut memory view (Ok x) read = read ≡ Ok (view x)
GivesBut memory view (Err e) read = FailsBut memory e read

-- one step after the other over a list, up to the first fault
unfoldable pub each : {E A B : Type 0} → (A → B → Result A E) → A → List B → Result A E
each step found [] = Ok found
each step found (x ∷ xs) = step found x >>= λ more. each step more xs

-- one step after the other, up to one that ends it; the number bounds the steps, and out is the fault behind the last
unfoldable pub until : {E A : Type 0} → E → (A → Result (Bool × A) E) → ℕ → A → Result A E
until out step zero s = Err out
until out step (suc n) s = step s >>= λ t. if t.0 then Ok t.1 else until out step n t.1

-- a fault where the test holds
unfoldable pub unless : {E : Type 0} → Bool → E → Result (Unit {0}) E
unless b fault = if b then Err fault else Ok tt

-- What work on locks leaves, and when it can be done.
use Rattle.std.specs.Prelude.{◌≡◌, ℕ, ◌+◌, ◌<◌, ◌≤◌, ⊤, IsTrue, IfErr, List, length, All, Option, Some, None, unwrap_or, Result, Ok, Err}
use Rattle.feature_values.specs.declared.feature.Rid.{Rid}
use Rattle.lock_table.specs.declared.words.LockFault.{LockFault}
use Rattle.lock_table.specs.declared.words.LockFault.TheVariants.{Full, OutOfMemory}
use Rattle.lock_table.specs.Lock.{Lock, Locks}
use Rattle.lock_table.specs.Held.{holder, is_live_number}
use Rattle.lock_table.specs.Steps.{granted, renewed, released}
use Rattle.request_plans.specs.declared.plan.LockWork.{LockWork}
use Rattle.request_plans.specs.declared.plan.LockWork.TheVariants.{Nothing, Grant, Renew, Release}

-- ---- what is left

-- the locks that work at a moment leaves, where so many were granted before
unfoldable pub locks_after : LockWork → ℕ → ℕ → List Lock → List Lock
locks_after Nothing given moment locks = locks
locks_after (Grant features period) given moment locks = granted moment given features period locks
locks_after (Renew number period) given moment locks = renewed moment number period locks
locks_after (Release number touched how) given moment locks = released moment number touched how locks

-- the number of the lock that work grants, where so many were granted before
abbrev pub number_granted : LockWork → ℕ → Option ℕ
number_granted (Grant features period) given = Some (given + 1)
number_granted work given = None

-- how many locks were granted then
abbrev pub given_after : LockWork → ℕ → ℕ
given_after work given = unwrap_or (number_granted work given) given

-- ---- when it can be done

-- no lock holds one of these features
abbrev pub AreFree : List Lock → ℕ → List Rid → Type 0
AreFree locks moment features = All (λ feature. holder locks moment feature ≡ None) features

-- A lock on features can be granted: they are some, and free, and its number has 64 bits.
pub record CanGrant (features : List Rid) (given : ℕ) (moment : ℕ) (locks : List Lock) : Type 0 where
  pub some : 0 < length features
  pub free : AreFree locks moment features
  pub numbers : given < 18_446_744_073_709_551_615

-- Work can be done at a moment: what is granted can be, and what is renewed or released is live.
abbrev pub IsDoable : LockWork → ℕ → ℕ → List Lock → Type 0
IsDoable Nothing given moment locks = ⊤
IsDoable (Grant features period) given moment locks = CanGrant features given moment locks
IsDoable (Renew number period) given moment locks = IsTrue (is_live_number locks moment number)
IsDoable (Release number touched how) given moment locks = IsTrue (is_live_number locks moment number)

-- ---- the memory that it wants

-- there is room for the lock that is granted
abbrev pub HasRoom : LockWork → Locks → Type 0
HasRoom (Grant features period) table = length features ≤ table.spare
HasRoom work table = ⊤

-- a call makes room where a lock is granted: it is refused where as many as the limit are live, and may want memory else
abbrev pub Reserves : LockWork → ℕ → ℕ → Result (Unit {0}) LockFault → Type 0
Reserves (Grant features period) limit live result = (limit ≤ live → result ≡ Err (Full live)) × (live < limit → IfErr result (λ fault. fault ≡ OutOfMemory))
Reserves work limit live result = result ≡ Ok tt

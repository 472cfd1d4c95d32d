-- A run of calls that leaves the first bytes alone.
use Rattle.std.proofs.Common.{◌≡◌, ℕ, ◌≤◌, List, length, take, ◌∙◌, ap, arith}
use Rattle.std.proofs.lemmas.List.{length-take, length-take-le}
use Rattle.disk_core.specs.Disk.{Leads, Same, Torn, Keeps}
use Rattle.disk_core.proofs.Runs.{leads_on, leads_more}

kept_long : (k : ℕ) (d e : List ℕ) → k ≤ length d → take k e ≡ take k d → k ≤ length e
kept_long k d e long same = omega (arith, length-take k e, length-take-le k d long, ap length same)

module _ {D : Type 0} (moment : D → ℕ) (since : D → ℕ → List ℕ → Type 0) (images : D → List ℕ → Type 0) where
  pub keeps_torn : (k at n : ℕ) (x y : D) → k ≤ at → Leads moment since images (Torn at n) x y → Leads moment since images (Keeps k) x y
  keeps_torn k at n x y le a = leads_more moment since images (Torn at n) (Keeps k) x y (λ d c torn long. torn.front k le long) a

  pub keeps_write : (k at n : ℕ) (x y z : D) → k ≤ at → Leads moment since images (Keeps k) x y → Leads moment since images (Torn at n) y z → Leads moment since images (Keeps k) x z
  keeps_write k at n x y z le a b = leads_on moment since images (Keeps k) (Torn at n) (Keeps k) x y z (λ d e c kept torn long. torn.front k le (kept_long k d e long (kept long)) ∙ kept long) (λ d c kept. kept) a b

  pub keeps_same : (k : ℕ) (x y z : D) → Leads moment since images (Keeps k) x y → Leads moment since images Same y z → Leads moment since images (Keeps k) x z
  keeps_same k x y z a b = leads_on moment since images (Keeps k) Same (Keeps k) x y z (λ d e c kept same long. ap (take k) same ∙ kept long) (λ d c kept. kept) a b

-- The status behind a last line.
use Rattle.std.proofs.Common.{◌≡◌, ℕ, Bool, true, false, List, inl, inr, refl}
use Rattle.wfs_ends.specs.Ends.{Shown, Writes}
use Rattle.wfsd_commands.specs.Statuses.{EndsWith, line_status}

by_failing : (f : Bool) (old new : Shown) (text : List ℕ) → Writes (record { shown = old; failed = false }) text (record { shown = new; failed = f }) → EndsWith old text new (line_status f)
by_failing false old new text w = inl (w.is, refl)
by_failing true old new text w = inr (w.is, refl)

pub ended : (f : Bool) (old new : Shown) (text : List ℕ) (status : ℕ) → Writes (record { shown = old; failed = false }) text (record { shown = new; failed = f }) → status ≡ line_status f → EndsWith old text new status
ended f old new text status w is = rw is (by_failing f old new text w)

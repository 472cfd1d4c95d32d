-- Lines that are given.
use Rattle.std.proofs.Common.{ℕ, Bool, true, false, List, Result, Ok, Err, inl, inr}
use Rattle.wfs_ends.specs.Ends.{Shown, Writes, Gives}
use Rattle.program_output.specs.Lines.{GivesOr}

-- a line, whole or in part
pub wrote_or : (f : Bool) (old new : Shown) (text : List ℕ) → Writes (record { shown = old; failed = false }) text (record { shown = new; failed = f }) → GivesOr old text new
wrote_or false old new text w = inl w.is
wrote_or true old new text w = inr w.is

pub gave_or : {E : Type 0} (r : Result (Unit {0}) E) (old new : Shown) (text : List ℕ) → Gives r old text new → GivesOr old text new
gave_or (Ok _) old new text g = inl g
gave_or (Err _) old new text g = inr g

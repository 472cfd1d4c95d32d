-- What a replay says of a body.
use Rattle.std.specs.Prelude.{◌≡◌, ℕ, List, [], ◌∷◌, ◌++◌, Result, Ok, Err}
use Rattle.recovery.specs.declared.replay.ReplayFault.{ReplayFault}
use Rattle.recovery.specs.declared.replay.ReplayFault.TheVariants.{BadBytes, NotOfSchema, OutOfMemory}

-- a body is taken, its bytes are no record, or it is a record that does not fit
pub data Verdict : Type 0 where
  accepted : Verdict
  bad_bytes : Verdict
  not_of_schema : Verdict

-- the answer is just this verdict, or want of memory
abbrev pub Answers : Result (Unit {0}) ReplayFault → Verdict → Type 0
Answers (Ok x) verdict = verdict ≡ accepted
Answers (Err BadBytes) verdict = verdict ≡ bad_bytes
Answers (Err NotOfSchema) verdict = verdict ≡ not_of_schema
Answers (Err OutOfMemory) verdict = Unit {0}

-- the bodies that were taken after an answer
abbrev pub taken_after : Result (Unit {0}) ReplayFault → List (List ℕ) → List ℕ → List (List ℕ)
taken_after (Ok x) taken body = taken ++ body ∷ []
taken_after (Err fault) taken body = taken

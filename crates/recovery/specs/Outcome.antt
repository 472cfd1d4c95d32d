-- What recovery answers from two byte strings: foreign sides first, and then of each record of the current side, whether it
-- lies within the file with a gate behind it, whether the length stays within the limit, and what the replay says of it. The
-- first refusal stands.
use Rattle.std.specs.Prelude.{◌+◌, ◌-◌, ℕ, List, [], ◌∷◌, ◌++◌, length, drop, Bool, true, false, cond, Option, None, Some, nat_lt, if◌then◌else◌}
use Rattle.recovery.specs.declared.fault.RecoverFault.{RecoverFault}
use Rattle.recovery.specs.declared.fault.RecoverFault.TheVariants.{NotAJournal, NotOfSchema, Full}
use Rattle.feature_journal.specs.Recover.{foreign_at, current_of, generation_of, records_at, is_open}
use Rattle.recovery.specs.Replay.{Verdict}
use Rattle.recovery.specs.Replay.Verdict.{accepted, bad_bytes, not_of_schema}

abbrev pub Judge : Type 0
Judge = List (List ℕ) → List ℕ → Verdict

pub data Outcome : Type 0 where
  -- the fault, and the bodies that were taken until then
  refused : RecoverFault → List (List ℕ) → Outcome
  -- no side is current
  no_side : Outcome
  -- which side is current, where true is side b, its generation, the place of its ending gate, and its bodies
  found : Bool → ℕ → ℕ → List (List ℕ) → Outcome

abbrev pub not_a_journal : Bool → ℕ → List (List ℕ) → Outcome
not_a_journal second place taken = refused (NotAJournal (record { second_side = second; at = place })) taken

-- the verdict on the record at this place, and what comes where it is taken
abbrev pub by_verdict : Verdict → Bool → ℕ → List (List ℕ) → Outcome → Outcome
by_verdict accepted second place taken next = next
by_verdict bad_bytes second place taken next = not_a_journal second place taken
by_verdict not_of_schema second place taken next = refused (NotOfSchema (length taken)) taken

-- where the records that lie within the file are all taken: behind an open gate stands none
abbrev pub at_end : Bool → ℕ → ℕ → List (List ℕ) → List ℕ → Outcome
at_end second generation place taken rest = if is_open rest then not_a_journal second place taken else found second generation place taken

-- Each record in turn. The side was read up to and with a gate, to this length, and these bodies were taken. Behind that
-- gate come these bodies, and then what begins with the next gate.
unfoldable pub judged : Judge → (limit : ℕ) (second : Bool) (generation so_far : ℕ) (taken bodies : List (List ℕ)) (rest : List ℕ) → Outcome
judged judge limit second generation so_far taken [] rest = at_end second generation (so_far - 1) taken rest
judged judge limit second generation so_far taken (body ∷ bodies) rest =
    if nat_lt limit (so_far + 5 + length body) then refused (Full (so_far + 5 + length body)) taken
    else by_verdict (judge taken body) second (so_far - 1) taken (judged judge limit second generation (so_far + 5 + length body) (taken ++ body ∷ []) bodies rest)

abbrev pub judged_pair : Judge → (limit : ℕ) (second : Bool) (generation so_far : ℕ) (taken : List (List ℕ)) → List (List ℕ) × List ℕ → Outcome
judged_pair judge limit second generation so_far taken read = judged judge limit second generation so_far taken read.0 read.1

-- the current side: 17 bytes up to and with its first gate
abbrev pub of_side : Judge → (limit : ℕ) (second : Bool) → List ℕ → Outcome
of_side judge limit second c = if nat_lt limit 17 then refused (Full 17) [] else judged_pair judge limit second (generation_of c) 17 [] (records_at (length c) (drop 16 c))

abbrev pub of_current : Judge → (limit : ℕ) → List ℕ → List ℕ → Option Bool → Outcome
of_current judge limit a b None = no_side
of_current judge limit a b (Some second) = of_side judge limit second (cond second b a)

abbrev pub unless_foreign : Option ℕ → Option ℕ → Outcome → Outcome
unless_foreign (Some place) at_b other = not_a_journal false place []
unless_foreign None (Some place) other = not_a_journal true place []
unless_foreign None None other = other

unfoldable pub outcome_of : Judge → (limit : ℕ) → List ℕ → List ℕ → Outcome
outcome_of judge limit a b = unless_foreign (foreign_at a) (foreign_at b) (of_current judge limit a b (current_of a b))

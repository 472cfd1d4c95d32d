-- What a request says by named values, whatever its form: attributes of an element, or pairs of a query (OGC 09-025r2, section 6.2.5).
-- How such values are judged is told here for both. The first refusal is the answer; it has a row of the table of refusals, and the
-- name of the value.
use Rattle.std.specs.Prelude.{ℕ, Bool, not, List, Option, Some, None, Result, Ok, Err}
use Rattle.wfs_ends.specs.Read.{◌>>=◌, unless}
use Rattle.feature_values.specs.declared.schema.Schema.{Schema}
use Rattle.feature_values.specs.Ids.{type_named, without_prefix}
use Rattle.wfs_model.specs.declared.fault.AskFault.{AskFault}
use Rattle.wfs_model.specs.Terms.{refused}

-- the value of a name
abbrev pub Said : Type 0
Said = List ℕ → Option (List ℕ)

-- what is read, or why it is refused
abbrev pub Ask : Type 0 → Type 0
Ask A = Result A AskFault

abbrev pub or_fault : {A : Type 0} → Option A → AskFault → Ask A
or_fault None fault = Err fault
or_fault (Some x) fault = Ok x

-- a value that has to be there
unfoldable pub required_of : List ℕ → Said → Ask (List ℕ)
required_of name said = or_fault (said name) (refused 10 name)

-- a value that passes a test, where there is one
abbrev pub passing : (List ℕ → Bool) → AskFault → Option (List ℕ) → Ask (Unit {0})
passing test fault None = Ok tt
passing test fault (Some text) = unless (not (test text)) fault

-- what a value stands for, where there is one
abbrev pub read_if : {A : Type 0} → (List ℕ → Option A) → AskFault → Option (List ℕ) → Ask (Option A)
read_if read fault None = Ok None
read_if read fault (Some text) = or_fault (read text) fault >>= λ x. Ok (Some x)

-- what a value stands for, or what stands for a missing one
abbrev pub read_or : {A : Type 0} → A → (List ℕ → Option A) → AskFault → Option (List ℕ) → Ask A
read_or missing read fault None = Ok missing
read_or missing read fault (Some text) = or_fault (read text) fault

-- the type of a name, whose prefix is not judged; an unknown one is refused by the part of the request that names it
unfoldable pub kind_of : Schema → List ℕ → List ℕ → Ask ℕ
kind_of schema part name = or_fault (type_named schema (without_prefix name)) (refused 11 part)

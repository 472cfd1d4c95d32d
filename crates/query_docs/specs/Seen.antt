-- Names that came before, as a set in which each is found at once.
use Rattle.std.specs.Prelude.{◌≡◌, ℕ, List, String}
use Rattle.std.specs.Global.{Global}
use Rattle.std.specs.BTreeSet.{BTreeSet, contains_text}
use Rattle.std.specs.Str.{str_to_ascii_lowercase}
use Rattle.query_docs.specs.Asked.{Given, is_given}
use Rattle.query_docs.specs.Definitions.{is_declared}

-- the set has just the names that are given
abbrev pub HasGiven : BTreeSet (String Global) → Given → Type 0
HasGiven seen given = (name : List ℕ) → contains_text seen name ≡ is_given given name

-- the set has just the names that are declared, with their case left out
abbrev pub HasDeclared : BTreeSet (String Global) → List (List ℕ) → Type 0
HasDeclared seen names = (name : List ℕ) → contains_text seen (str_to_ascii_lowercase name) ≡ is_declared names name

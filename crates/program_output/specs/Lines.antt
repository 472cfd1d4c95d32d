-- The lines that the program writes.
use Rattle.std.specs.Prelude.{ℕ, Bool, true, false, List, [], ◌∷◌, ◌++◌, ◌⊎◌, codes, decimal}
use Rattle.wfs_ends.specs.Ends.{Shown, GivesAll, GivesFront, joined}
use Rattle.feature_schema.specs.declared.fault.SchemaFault.{SchemaFault}
use Rattle.feature_schema.specs.declared.fault.SchemaFault.TheVariants.{NotToml, Key, Kind, Twice, TooMany, OutOfMemory}

-- this text was given, or a front of it and then the output failed
abbrev pub GivesOr : Shown → List ℕ → Shown → Type 0
GivesOr old text new = GivesAll old text new ⊎ GivesFront old text new

-- ---- lines that say why there is nothing more

abbrev pub bad_words : List ℕ
bad_words = codes "wfsd: bad words\n"

abbrev pub cannot_read : List ℕ
cannot_read = codes "wfsd: cannot read\n"

abbrev pub no_memory : List ℕ
no_memory = codes "wfsd: no memory\n"

abbrev pub store_fault : List ℕ
store_fault = codes "wfsd: store fault\n"

abbrev pub full : List ℕ
full = codes "wfsd: full\n"

abbrev pub cannot_listen : List ℕ
cannot_listen = codes "wfsd: cannot listen\n"

-- a fault of a schema by its name, and what it names
abbrev pub fault_text : SchemaFault → List ℕ
fault_text NotToml = codes "NotToml"
fault_text (Key key) = codes "Key " ++ key
fault_text (Kind name) = codes "Kind " ++ name
fault_text (Twice name) = codes "Twice " ++ name
fault_text TooMany = codes "TooMany"
fault_text OutOfMemory = codes "OutOfMemory"

-- the first fault of the schema
unfoldable pub refused_line : SchemaFault → List ℕ
refused_line fault = joined (codes "wfsd: schema refused: " ∷ fault_text fault ∷ codes "\n" ∷ [])

abbrev pub side_name : Bool → List ℕ
side_name false = codes "a"
side_name true = codes "b"

-- the side and the byte at which a file is no journal
unfoldable pub not_a_journal : Bool → ℕ → List ℕ
not_a_journal second at = joined (codes "wfsd: not a journal: " ∷ side_name second ∷ codes " " ∷ decimal at ∷ codes "\n" ∷ [])

-- the number of the record that is none of the schema
unfoldable pub not_of_schema : ℕ → List ℕ
not_of_schema number = joined (codes "wfsd: not of this schema: " ∷ decimal number ∷ codes "\n" ∷ [])

-- ---- lines that say what was asked for

-- links are served from now on
abbrev pub serving : List ℕ
serving = codes "serving\n"

-- how much of each a journal holds
unfoldable pub counts_line : (types features queries openings : ℕ) → List ℕ
counts_line types features queries openings =
    joined (codes "types " ∷ decimal types ∷ codes " features " ∷ decimal features ∷ codes " queries " ∷ decimal queries
    ∷ codes " openings " ∷ decimal openings ∷ codes "\n" ∷ [])

-- how long the journal's side was, and is
unfoldable pub sides_line : (before after : ℕ) → List ℕ
sides_line before after = joined (codes "side " ∷ decimal before ∷ codes " to " ∷ decimal after ∷ codes " bytes\n" ∷ [])

-- the rounds of a drill, the entries of its history, the features that are there, and how many its counts and its locks came to
unfoldable pub rounds_line : (rounds entries features matched locked : ℕ) → List ℕ
rounds_line rounds entries features matched locked =
    joined (codes "rounds " ∷ decimal rounds ∷ codes " entries " ∷ decimal entries ∷ codes " features " ∷ decimal features
    ∷ codes " matched " ∷ decimal matched ∷ codes " locked " ∷ decimal locked ∷ codes "\n" ∷ [])

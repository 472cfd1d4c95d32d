-- The change that the body of a record says: its bytes are read, and what a stored query asks is read from its text. Which of them are of a schema is
-- this project's own.
use Rattle.std.specs.Prelude.{ℕ, Bool, true, not, List, [], ◌∷◌, ◌++◌, Option, Some, None, Result, Ok, Err}
use Rattle.std.specs.Str.{bytes_eq}
use Rattle.wfs_ends.specs.Read.{◌>>=◌, each, unless}
use Rattle.feature_values.specs.declared.schema.Schema.{Schema}
use Rattle.feature_schema.specs.Signature.{signature_text}
use Rattle.fes_filter.specs.declared.query.Query.{Query}
use Rattle.wfs_model.specs.declared.stored.StoredQuery.{StoredQuery}
use Rattle.wfs_model.specs.declared.change.Change.{Change}
use Rattle.wfs_model.specs.declared.change.Change.TheVariants.{Created}
use Rattle.query_docs.specs.Reading.{text_queries}
use Rattle.journal_format.specs.Reading.{record_of}
use Rattle.recovery.specs.declared.replay.ReplayFault.{ReplayFault}
use Rattle.recovery.specs.declared.replay.ReplayFault.TheVariants.{BadBytes, NotOfSchema}

-- where the bytes of a body say nothing, it is no record
abbrev pub or_bad_bytes : {A E : Type 0} → Result A E → Result A ReplayFault
or_bad_bytes (Ok x) = Ok x
or_bad_bytes (Err fault) = Err BadBytes

-- where a record says something that the schema does not know, it does not fit
abbrev pub or_unfit : {A E : Type 0} → Result A E → Result A ReplayFault
or_unfit (Ok x) = Ok x
or_unfit (Err fault) = Err NotOfSchema

-- ---- stored queries

-- What a stored query asks. A record leaves it to the text, which has to be just the one that is written for these queries.
unfoldable pub asked_by : Schema → StoredQuery → Result (List Query) ReplayFault
asked_by schema stored = or_unfit (text_queries schema stored.parameters stored.text)

-- a stored query with what it asks
unfoldable pub filled : Schema → StoredQuery → Result StoredQuery ReplayFault
filled schema stored = asked_by schema stored >>= λ queries. Ok (record stored { queries = queries })

-- one more behind those that were filled
unfoldable pub next_filled : Schema → List StoredQuery → StoredQuery → Result (List StoredQuery) ReplayFault
next_filled schema found stored = filled schema stored >>= λ now. Ok (found ++ now ∷ [])

-- all stored queries of a change with what they ask
unfoldable pub completed : Schema → Change → Result Change ReplayFault
completed schema (Created stored) = each (next_filled schema) [] stored >>= λ all. Ok (Created all)
completed schema change = Ok change

-- ---- bodies

-- an opening was written for a schema of the same signature
abbrev pub is_signed : Schema → Option (List ℕ) → Bool
is_signed schema None = true
is_signed schema (Some signature) = bytes_eq signature (signature_text schema)

-- the change of a body, with all that its stored queries ask
unfoldable pub change_in : Schema → List ℕ → Result Change ReplayFault
change_in schema body = do
  recorded ← or_bad_bytes (record_of body)
  _ ← unless (not (is_signed schema recorded.signature)) NotOfSchema
  completed schema recorded.change

-- The queries of a stored text: those whose text it is, byte for byte.
use Rattle.std.specs.Prelude.{◌≡◌, ℕ, if◌then◌else◌, List, [], ◌∷◌, codes, Result, Ok, Err}
use Rattle.std.specs.Str.{bytes_eq}
use Rattle.wfs_ends.specs.Ends.{joined}
use Rattle.wfs_ends.specs.Read.{◌>>=◌, each}
use Rattle.doc_read.specs.Document.{document}
use Rattle.feature_values.specs.declared.schema.Schema.{Schema}
use Rattle.fes_filter.specs.declared.query.Query.{Query}
use Rattle.wfs_model.specs.declared.stored.StoredQuery.{StoredQuery}
use Rattle.query_docs.specs.Elements.{children_of}
use Rattle.query_docs.specs.Definitions.{next_query}
use Rattle.query_docs.specs.Texts.{stored_text}
use Rattle.query_docs.specs.declared.fault.StoredTextFault.{StoredTextFault}
use Rattle.query_docs.specs.declared.fault.StoredTextFault.TheVariants.{BadText}

-- a text with a root around it, so that its elements stand in one document
unfoldable pub rooted : List ℕ → List ℕ
rooted text = joined (codes "<queries>" ∷ text ∷ codes "</queries>" ∷ [])

abbrev pub or_bad : {A E : Type 0} → Result A E → Result A StoredTextFault
or_bad (Ok x) = Ok x
or_bad (Err fault) = Err BadText

-- the queries of the elements that stand in a text
unfoldable pub queries_in : Schema → List (List ℕ) → List ℕ → Result (List Query) StoredTextFault
queries_in schema names text = do
  root ← or_bad (document (rooted text))
  or_bad (each (next_query names schema) [] (children_of root))

-- the queries whose text this is, where the parameters have these names
unfoldable pub text_queries : Schema → List (List ℕ) → List ℕ → Result (List Query) StoredTextFault
text_queries schema names text = do
  queries ← queries_in schema names text
  if bytes_eq (stored_text schema names queries) text then Ok queries else Err BadText

-- A stored query keeps the text of its queries: the text stands for them, over the names of its parameters, and so is the one that is
-- written for them.
abbrev pub IsKeptText : Schema → StoredQuery → Type 0
IsKeptText schema stored = text_queries schema stored.parameters stored.text ≡ Ok stored.queries

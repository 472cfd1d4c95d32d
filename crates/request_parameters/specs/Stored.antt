-- The identifiers of stored queries (OGC 09-025r2, section 14).
use Rattle.std.specs.Prelude.{ℕ, List, codes, Ok}
use Rattle.wfs_ends.specs.Read.{◌>>=◌, unless}
use Rattle.wfs_model.specs.Terms.{refused}
use Rattle.wfs_model.specs.Stored.{is_id_query}
use Rattle.request_parameters.specs.Said.{Said, Ask, required_of}

-- the identifier of a stored query that is to go, under the name that it has in a form; the built-in query stays
unfoldable pub dropped_of : List ℕ → Said → Ask (List ℕ)
dropped_of name said = do
  id ← required_of name said
  _ ← unless (is_id_query id) (refused 12 (codes "storedQuery_id"))
  Ok id

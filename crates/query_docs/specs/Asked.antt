-- What a document asks for of the features: a query, or a use of a stored one (OGC 09-025r2, section 7.9).
use Rattle.std.specs.Prelude.{ℕ, ◌==◌, ◌<◌, Bool, not, if◌then◌else◌, List, [], ◌∷◌, ◌++◌, length, All, codes, None, Ok, Err}
use Rattle.std.specs.List.{list_any}
use Rattle.std.specs.Str.{bytes_eq}
use Rattle.wfs_ends.specs.Read.{◌>>=◌, each, unless}
use Rattle.doc_tree.specs.declared.tree.Element.{Element}
use Rattle.feature_values.specs.declared.schema.Schema.{Schema}
use Rattle.wfs_model.specs.declared.asked.Asked.{Asked}
use Rattle.wfs_model.specs.declared.asked.Asked.TheVariants.{Plain, Stored}
use Rattle.wfs_model.specs.OfSchema.{IsQueryOf, query_in, names_given}
use Rattle.wfs_model.specs.Terms.{refused}
use Rattle.request_parameters.specs.Said.{Ask, required_of}
use Rattle.request_parameters.specs.Elements.{said_at, is_wfs, no_others, misplaced, text_in}
use Rattle.query_docs.specs.Elements.{children_of}
use Rattle.query_docs.specs.Queries.{query_of}

-- the name of a parameter, which is not empty
unfoldable pub name_of : Element → Ask (List ℕ)
name_of e = do
  name ← required_of (codes "name") (said_at e)
  _ ← unless (length name == 0) (refused 11 (codes "name"))
  Ok name

-- names and values of parameters
abbrev pub Given : Type 0
Given = List (List ℕ × List ℕ)

-- a parameter of just this name is given
unfoldable pub is_given : Given → List ℕ → Bool
is_given given name = list_any (λ g. bytes_eq g.0 name) given

-- what is given, with one Parameter more: each name comes once, and its case counts here
unfoldable pub next_given : Given → Element → Ask Given
next_given given e = do
  _ ← unless (not (is_wfs (codes "Parameter") e)) (misplaced e)
  name ← name_of e
  _ ← no_others (codes "name" ∷ []) e
  _ ← unless (is_given given name) (misplaced e)
  value ← text_in e
  Ok (given ++ (name, value) ∷ [])

unfoldable pub use_others : Element → Ask (Unit {0})
use_others e = no_others (codes "id" ∷ codes "handle" ∷ []) e

-- a use of a stored query (7.9.3): its identifier, and any number of parameters; its handle is any text
unfoldable pub use_of : Element → Ask Asked
use_of e = do
  id ← required_of (codes "id") (said_at e)
  _ ← use_others e
  given ← each next_given [] (children_of e)
  Ok (Stored id given)

-- a query, in which no parameters stand
unfoldable pub plain_of : Schema → Element → Ask Asked
plain_of schema e = query_of None schema e >>= λ query. Ok (Plain query)

-- what an element asks for
unfoldable pub asked_of : Schema → Element → Ask Asked
asked_of schema e =
    if is_wfs (codes "Query") e then plain_of schema e else
    (if is_wfs (codes "StoredQuery") e then use_of e else Err (misplaced e))

-- ---- what a schema allows

-- what is asked is of the schema: a query of it, or parameters with names
pub record IsAskedOf (schema : Schema) (asked : Asked) : Type 0 where
  pub queries : All (IsQueryOf schema 0) (query_in asked)
  pub names : All (λ name. 0 < length name) (names_given asked)

-- ResourceId (FES 2.0, OGC 09-026r2, section 7.11).
use Rattle.std.specs.Prelude.{ℕ, List, [], ◌∷◌, ◌++◌, codes, Option, Some, None, Result, Ok, Err}
use Rattle.wfs_ends.specs.Read.{◌>>=◌}
use Rattle.doc_tree.specs.declared.tree.Element.{Element, out-Element}
use Rattle.feature_values.specs.Ids.{rid_of}
use Rattle.feature_values.specs.declared.feature.Rid.{Rid}
use Rattle.feature_values.specs.declared.schema.Schema.{Schema}
use Rattle.fes_filter.specs.declared.ids.IdRef.{IdRef}
use Rattle.fes_filter.specs.declared.ids.IdRef.TheVariants.{Known, Nobody, Parameter}
use Rattle.fes_docs.specs.Names.{value_of, no_others, named, no_more, missing}
use Rattle.fes_docs.specs.Uses.{place_of}
use Rattle.fes_docs.specs.declared.fault.FilterDocFault.{FilterDocFault}

abbrev pub known_or_nobody : Option Rid → IdRef
known_or_nobody None = Nobody
known_or_nobody (Some id) = Known id

-- what a text names: a parameter, a feature that there could be, or nothing
abbrev pub id_as : Schema → Option ℕ → List ℕ → IdRef
id_as schema (Some place) text = Parameter place
id_as schema None text = known_or_nobody (rid_of schema text)

abbrev pub id_in : Option (List (List ℕ)) → Schema → Element → Option (List ℕ) → Result IdRef FilterDocFault
id_in parameters schema e None = Err (missing e)
id_in parameters schema e (Some text) = place_of parameters text >>= λ place. Ok (id_as schema place text)

-- an element ResourceId: its attribute rid has to be there
unfoldable pub id_at : Option (List (List ℕ)) → Schema → Element → Result IdRef FilterDocFault
id_at parameters schema e = do
  id ← id_in parameters schema e (value_of (codes "rid") e)
  _ ← no_others (codes "rid" ∷ []) e
  _ ← no_more (out-Element e).children
  Ok id

-- one more of several
unfoldable pub next_id : Option (List (List ℕ)) → Schema → List IdRef → Element → Result (List IdRef) FilterDocFault
next_id parameters schema found e = do
  _ ← named (codes "ResourceId") e
  id ← id_at parameters schema e
  Ok (found ++ id ∷ [])

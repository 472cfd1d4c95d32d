-- What a copy of the features has to say: the schema, and all that outlives the process. For how much more it has room is its own matter.
use Rattle.std.specs.Prelude.{[]}
use Rattle.feature_values.specs.declared.schema.Schema.{Schema}
use Rattle.wfs_model.specs.declared.change.Change.{Change}
use Rattle.wfs_model.specs.Played.{played_one}
use Rattle.wfs_model.specs.State.{Durable, nothing}
use Rattle.feature_versions.specs.Holding.{Holding}

pub record Content : Type 0 where
  pub schema : Schema
  pub kept : Durable

abbrev pub content_of : Holding → Content
content_of holding = record { schema = holding.schema; kept = holding.kept }

-- what a change makes of it
abbrev pub with_change : Content → Change → Content
with_change c change = record { schema = c.schema; kept = played_one c.kept change }

-- ---- what stands in where there is none

abbrev pub no_schema : Schema
no_schema = record { title = []; address = []; space = []; prefix = []; srs = []; types = [] }

abbrev pub no_content : Content
no_content = record { schema = no_schema; kept = nothing 0 }

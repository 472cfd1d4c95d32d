-- What the loading of the schema comes to.
use Rattle.std.specs.Prelude.{◌≡◌, ℕ, nat_lt, if◌then◌else◌, List, length, IfSome, Result, Ok, Err, ⊤}
use Rattle.wfs_ends.specs.Ends.{Shown, Rose}
use Rattle.feature_values.specs.declared.schema.Schema.{Schema}
use Rattle.feature_schema.specs.declared.fault.SchemaFault.{SchemaFault}
use Rattle.feature_schema.specs.declared.fault.SchemaFault.TheVariants as fault
use Rattle.feature_schema.specs.File.{schema_of}
use Rattle.wfsd_commands.specs.declared.load.Unloaded.{Unloaded}
use Rattle.wfsd_commands.specs.declared.load.Unloaded.TheVariants as unloaded

-- how many bytes a schema has at most
abbrev pub most_bytes : ℕ
most_bytes = 1_048_576

-- the schema of a source's bytes, or what is wrong first with them; a source with too many bytes is not read to its end
unfoldable pub loaded : List ℕ → Result Schema SchemaFault
loaded bytes = if nat_lt most_bytes (length bytes) then Err fault.TooMany else schema_of bytes

abbrev pub IsLoaded : Shown → Result Schema Unloaded → Shown → Type 0
IsLoaded old (Ok schema) new = IfSome old.left (λ bytes. loaded bytes ≡ Ok schema)
IsLoaded old (Err (unloaded.Refused f)) new = IfSome old.left (λ bytes. loaded bytes ≡ Err f)
IsLoaded old (Err unloaded.Failed) new = Rose old.failed_takes new.failed_takes
IsLoaded old (Err unloaded.OutOfMemory) new = ⊤

-- why there is no schema, where reading it met a fault
abbrev pub unloaded_by : SchemaFault → Unloaded
unloaded_by fault.OutOfMemory = unloaded.OutOfMemory
unloaded_by fault.NotToml = unloaded.Refused fault.NotToml
unloaded_by (fault.Key key) = unloaded.Refused (fault.Key key)
unloaded_by (fault.Kind name) = unloaded.Refused (fault.Kind name)
unloaded_by (fault.Twice name) = unloaded.Refused (fault.Twice name)
unloaded_by fault.TooMany = unloaded.Refused fault.TooMany

-- what the reading of some bytes comes to, by what they mean
abbrev pub IsRead : Result Schema SchemaFault → Result Schema Unloaded → Type 0
IsRead meant (Ok schema) = meant ≡ Ok schema
IsRead meant (Err (unloaded.Refused f)) = meant ≡ Err f
IsRead meant (Err unloaded.Failed) = ⊥
IsRead meant (Err unloaded.OutOfMemory) = ⊤

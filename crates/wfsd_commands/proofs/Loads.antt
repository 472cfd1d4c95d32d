-- What a source's bytes mean as a schema.
use Rattle.std.proofs.Common.{◌≡◌, ℕ, ◌<◌, ◌≤◌, true, false, List, length, Option, Some, None, Result, Ok, Err, refl, ◌∙◌, arith}
use Rattle.std.specs.Prelude.{IfSome, nat_lt}
use Rattle.wfs_ends.specs.Ends.{Shown}
use Rattle.feature_values.specs.declared.schema.Schema.{Schema}
use Rattle.feature_schema.specs.declared.fault.SchemaFault.{SchemaFault}
use Rattle.feature_schema.specs.declared.fault.SchemaFault.TheVariants as fault
use Rattle.feature_schema.specs.File.{schema_of}
use Rattle.wfsd_commands.specs.declared.load.Unloaded.{Unloaded}
use Rattle.wfsd_commands.specs.declared.load.Unloaded.TheVariants as unloaded
use Rattle.wfsd_commands.specs.Loading.{most_bytes, loaded, IsLoaded, IsRead, unloaded_by}

too_long : (bytes : List ℕ) → most_bytes < length bytes → loaded bytes ≡ Err fault.TooMany
unfolding loaded
too_long bytes lt = let is : nat_lt most_bytes (length bytes) ≡ true = grind (arith, lt) in rw is refl

short : (bytes : List ℕ) → length bytes ≤ most_bytes → loaded bytes ≡ schema_of bytes
unfolding loaded
short bytes le = let is : nat_lt most_bytes (length bytes) ≡ false = grind (arith, le) in rw is refl

pub too_many : (o : Option (List ℕ)) → IfSome o (λ left. most_bytes < length left) → IfSome o (λ bytes. loaded bytes ≡ Err fault.TooMany)
too_many None h = tt
too_many (Some bytes) h = too_long bytes h

means : (o : Option (List ℕ)) (bytes : List ℕ) (r : Result Schema SchemaFault) → length bytes ≤ most_bytes → schema_of bytes ≡ r → IfSome o (λ left. left ≡ bytes) → IfSome o (λ left. loaded left ≡ r)
means None bytes r le is h = tt
means (Some left) bytes r le is h = rw h (short bytes le ∙ is)

pub whole_loaded : (old new : Shown) (bytes : List ℕ) (r : Result Schema Unloaded) → IfSome old.left (λ left. left ≡ bytes) → length bytes ≤ most_bytes → IsRead (schema_of bytes) r → IsLoaded old r new
whole_loaded old new bytes (Ok schema) h le is = means old.left bytes (Ok schema) le is h
whole_loaded old new bytes (Err (unloaded.Refused f)) h le is = means old.left bytes (Err f) le is h
whole_loaded old new bytes (Err unloaded.Failed) h le is = absurd is
whole_loaded old new bytes (Err unloaded.OutOfMemory) h le is = tt

pub read_fault : (f : SchemaFault) (r : Result Schema SchemaFault) → ((f ≡ fault.OutOfMemory → ⊥) → r ≡ Err f) → IsRead r (Err (unloaded_by f))
read_fault fault.OutOfMemory r h = tt
read_fault fault.NotToml r h = h (λ e. absurd cc)
read_fault (fault.Key key) r h = h (λ e. absurd cc)
read_fault (fault.Kind name) r h = h (λ e. absurd cc)
read_fault (fault.Twice name) r h = h (λ e. absurd cc)
read_fault fault.TooMany r h = h (λ e. absurd cc)

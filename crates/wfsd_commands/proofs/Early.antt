-- Ends before a store is started.
use Rattle.std.proofs.Common.{◌≡◌, ℕ, Ok, Err, None}
use Rattle.disk_core.specs.declared.pair.Pair.{Pair}
use Rattle.feature_values.specs.declared.schema.Schema.{Schema}
use Rattle.std.specs.Prelude.{Result, IfSome}
use Rattle.http_session.specs.Reading.{IsCalm}
use Rattle.wfsd_commands.specs.declared.done.Done.{Done}
use Rattle.wfsd_commands.specs.declared.load.Unloaded.{Unloaded}
use Rattle.wfsd_commands.specs.declared.load.Unloaded.TheVariants as unloaded
use Rattle.wfs_ends.specs.Ends.{Shown}
use Rattle.wfs_store.specs.Held.{Held}
use Rattle.wfsd_commands.specs.Early.{Ends, EndsEarly, HasLoaded, SaysUnloaded, schema_refused, schema_failed, forgotten}
use Rattle.wfsd_commands.specs.Left.{LeavesDisks}
use Rattle.wfsd_commands.specs.Loading.{IsLoaded}

abbrev why : Unloaded → Result Schema Unloaded
why u = Err u

abbrev loads : Schema → Result Schema Unloaded
loads schema = Ok schema

-- no schema was loaded, and one line says why
pub early : {D : Type 0} (disks : Pair D) (old new : Ends) (u : Unloaded) (done : Done D) → IsLoaded old.schema (why u) new.schema
    → ((why u ≡ why unloaded.Failed → ⊥) → IsCalm old.schema new.schema) → SaysUnloaded u disks old.out done new.out → EndsEarly disks old done new
early disks old new (unloaded.Refused f) done loaded calm says = schema_refused f loaded (calm (λ e. absurd cc)) says
early disks old new unloaded.Failed done loaded calm says = schema_failed loaded says
early disks old new unloaded.OutOfMemory done loaded calm says = forgotten (calm (λ e. absurd cc)) says

-- the schema was loaded
pub has_loaded : (schema : Schema) (old new : Ends) → IsLoaded old.schema (loads schema) new.schema → ((loads schema ≡ why unloaded.Failed → ⊥) → IsCalm old.schema new.schema) → HasLoaded schema old new
has_loaded schema old new loaded calm = record { means = loaded; calm = calm (λ e. absurd cc) }

-- where the disks are left there is no store
pub none_left : {D : Type 0} (P : Held D → Type 0) (status : ℕ) (disks : Pair D) (done : Done D) → LeavesDisks status disks done → IfSome done.store P
none_left P status disks done leaves = rw leaves.no_store tt

pub no_store : {D : Type 0} (disks : Pair D) (old new : Shown) (u : Unloaded) (done : Done D) → SaysUnloaded u disks old done new → done.store ≡ None
no_store disks old new (unloaded.Refused f) done says = says.leaves.no_store
no_store disks old new unloaded.Failed done says = says.leaves.no_store
no_store disks old new unloaded.OutOfMemory done says = says.leaves.no_store

pub none_early : {D : Type 0} (P : Held D → Type 0) (disks : Pair D) (old new : Shown) (u : Unloaded) (done : Done D) → SaysUnloaded u disks old done new → IfSome done.store P
none_early P disks old new u done says = rw (no_store disks old new u done says) tt

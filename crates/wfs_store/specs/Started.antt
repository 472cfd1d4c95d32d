-- What a start of a store comes to.
use Rattle.std.specs.Prelude.{◌≡◌, ℕ, List, [], replicate, None}
use Rattle.durable_journal.specs.Opened.{AreBodiesOf}
use Rattle.feature_values.specs.declared.schema.Schema.{Schema}
use Rattle.recovery.specs.Outcome.{Outcome}
use Rattle.wfs_model.specs.declared.limits.Limits.{Limits}
use Rattle.wfs_model.specs.State.{State}
use Rattle.wfs_store.specs.Held.{Held}
use Rattle.wfs_store.specs.Kept.{opening_on}

-- a store that has taken no step yet, and of whose disks none has failed in one
pub record HasBegun {D : Type 0} (schema : Schema) (limits : Limits) (store : Held D) : Type 0 where
  pub schema_is : store.schema ≡ schema
  pub limits_are : store.limits ≡ limits
  pub entries : store.entries ≡ []
  pub begun : store.begun ≡ None
  pub tally : store.tally ≡ replicate 17 0

-- the state in which the next opening begins, on what was read of the two files
pub record OpensOn (schema : Schema) (outcome : Outcome) (opening : State) : Type 0 where
  pub bodies : List (List ℕ)
  pub are : AreBodiesOf outcome bodies
  pub opening_is : opening ≡ opening_on schema bodies

-- What a look at a journal tells.
use Rattle.std.specs.Prelude.{◌≡◌, ℕ, List, length, ⊤}
use Rattle.feature_values.specs.declared.schema.Schema.{Schema}
use Rattle.recovery.specs.declared.fault.RecoverFault.TheVariants as recovering
use Rattle.recovery.specs.Outcome.{Outcome}
use Rattle.recovery.specs.Outcome.Outcome.{refused}
use Rattle.wfs_model.specs.State.{Durable}
use Rattle.durable_journal.specs.declared.fault.OpenFault.{OpenFault}
use Rattle.durable_journal.specs.declared.fault.OpenFault.TheVariants.{DiskFault, NotAJournal, NotOfSchema, Full, OutOfMemory}
use Rattle.durable_journal.specs.declared.looking.Counts.{Counts}
use Rattle.durable_journal.specs.Opened.{AreBodiesOf}
use Rattle.durable_journal.specs.Standing.{ComeTo}

-- how many there are of what the bodies come to
pub record AreCountsOf (schema : Schema) (outcome : Outcome) (counts : Counts) : Type 0 where
  pub bodies : List (List ℕ)
  pub kept : Durable
  pub are_bodies : AreBodiesOf outcome bodies
  pub come : ComeTo schema kept bodies
  pub types : counts.types ≡ length schema.types
  pub features : counts.features ≡ length kept.features
  pub queries : counts.queries ≡ length kept.stored
  pub openings : counts.openings ≡ kept.opening

-- a refusal is the outcome
abbrev pub IsRefusedBy : Outcome → OpenFault → Type 0
IsRefusedBy outcome DiskFault = ⊤
IsRefusedBy outcome (NotAJournal place) = (taken : List (List ℕ)) × (outcome ≡ refused (recovering.NotAJournal place) taken)
IsRefusedBy outcome (NotOfSchema number) = (taken : List (List ℕ)) × (outcome ≡ refused (recovering.NotOfSchema number) taken)
IsRefusedBy outcome (Full sum) = (taken : List (List ℕ)) × (outcome ≡ refused (recovering.Full sum) taken)
IsRefusedBy outcome OutOfMemory = ⊤

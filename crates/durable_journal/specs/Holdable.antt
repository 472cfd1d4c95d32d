-- What of all that outlives the process is such as the types of the program hold, so that its records read back.
use Rattle.std.specs.Prelude.{All}
use Rattle.journal_format.specs.Writable.{IsCounter, IsPart, IsStored}
use Rattle.wfs_model.specs.declared.change.Part.TheVariants.{Put}
use Rattle.wfs_model.specs.State.{Durable}

-- texts are in UTF-8, numbers have 64 bits, and shapes are valid
pub record IsHoldable (kept : Durable) : Type 0 where
  pub features : All (λ f. IsPart (Put f)) kept.features
  pub stored : All IsStored kept.stored
  pub opening : IsCounter kept.opening

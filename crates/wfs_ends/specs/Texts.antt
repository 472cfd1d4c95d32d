-- The bytes of a text, wherever they lie.
use Rattle.std.specs.Prelude.{ℕ, List}
use Rattle.std.specs.Arc.{arc_str_bytes}
use Rattle.wfs_ends.specs.declared.text.Storage.{Storage}
use Rattle.wfs_ends.specs.declared.text.Storage.TheVariants.{InPlace, Shared}

abbrev pub stored_bytes : Storage → List ℕ
stored_bytes (InPlace text) = text
stored_bytes (Shared text) = arc_str_bytes text

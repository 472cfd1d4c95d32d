-- What is laid over features keeps their order.
use Rattle.std.proofs.Common.{List, Some, None, refl}
use Rattle.feature_values.specs.declared.feature.Feature.{Feature}
use Rattle.fes_filter.specs.View.{IsInOrder}
use Rattle.feature_overlay.proofs.Layings.{laid_in_order}
use Rattle.wfs_model.specs.declared.change.Part.{Part}
use Rattle.wfs_model.specs.declared.change.Part.TheVariants.{Put, Remove}
use Rattle.wfs_machine.specs.Ordered.{part_laid}

pub part_in_order : (fs : List Feature) (part : Part) → IsInOrder fs → IsInOrder (part_laid fs part)
part_in_order fs (Put f) order = laid_in_order fs f.id (Some f) refl order
part_in_order fs (Remove id) order = laid_in_order fs id None tt order

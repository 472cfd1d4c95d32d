-- The first feature behind a place, told by what is found under each identifier.
use Rattle.std.specs.Prelude.{◌≡◌, Bool, true, Option, Some, None, if◌then◌else◌}
use Rattle.feature_values.specs.declared.feature.Feature.{Feature}
use Rattle.feature_values.specs.declared.feature.Rid.{Rid}
use Rattle.fes_filter.specs.View.{is_before}

-- everything is behind the beginning
abbrev pub is_behind : Option Rid → Rid → Bool
is_behind None id = true
is_behind (Some after) id = is_before after id

-- nothing is found behind the place; or this feature is found there, and nothing before it
abbrev pub IsFirst : Option Rid → (Rid → Option Feature) → Option Feature → Type 0
IsFirst after look None = (id : Rid) → is_behind after id ≡ true → look id ≡ None
IsFirst after look (Some f) = (look f.id ≡ Some f) × (is_behind after f.id ≡ true) × ((id : Rid) → is_behind after id ≡ true → is_before id f.id ≡ true → look id ≡ None)

-- of two features the one before the other
abbrev pub lesser : Option Feature → Option Feature → Option Feature
lesser None put = put
lesser (Some f) None = Some f
lesser (Some f) (Some g) = (if is_before f.id g.id then Some f else Some g)

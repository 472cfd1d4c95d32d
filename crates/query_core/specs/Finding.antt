-- Where a query looks for its features: the identifiers and the box that it asks for, and where a walk of a type begins and ends. What a
-- query selects is said without them.
use Rattle.std.specs.Prelude.{◌≡◌, ℕ, ◌-◌, ◌==◌, ◌&&◌, nat_lt, Bool, true, false, All, if◌then◌else◌, List, [], ◌∷◌, Option, Some, None}
use Rattle.std.specs.List.{flat_map}
use Rattle.std.specs.Option.{option_or}
use Rattle.geom_core.specs.Plane.{Bounds}
use Rattle.feature_values.specs.declared.feature.Feature.{Feature}
use Rattle.feature_values.specs.declared.feature.Rid.{Rid}
use Rattle.fes_filter.specs.declared.ids.IdRef.{IdRef}
use Rattle.fes_filter.specs.declared.ids.IdRef.TheVariants.{Known}
use Rattle.fes_filter.specs.declared.filter.Filter.{Filter, out-Filter}
use Rattle.fes_filter.specs.declared.filter.Filter.TheOpen.{Filter-F}
use Rattle.fes_filter.specs.declared.query.Query.{Query}
use Rattle.fes_filter.specs.View.{has_near}
use Rattle.query_core.specs.Selecting.{to_list, is_of_type, is_selected, is_among}

-- ---- what a filter asks for

-- what some operators have: that of the first part that is such an operator
abbrev pub first_of : {X : Type 0} → (Filter-F Filter → Option X) → List Filter → Option X
first_of pick [] = None
first_of pick (part ∷ parts) = option_or (pick (out-Filter part)) (first_of pick parts)

-- that of the operator, or of a Both the first among its direct parts
abbrev pub asked_by : {X : Type 0} → (Filter-F Filter → Option X) → Filter-F Filter → Option X
asked_by pick (Filter-F.Both parts) = first_of pick parts
asked_by pick operator = pick operator

abbrev pub asked : {X : Type 0} → (Filter-F Filter → Option X) → Option Filter → Option X
asked pick None = None
asked pick (Some filter) = asked_by pick (out-Filter filter)

-- ---- identifiers

-- the identifiers that an operator lists
abbrev pub listed_by : Filter-F Filter → Option (List IdRef)
listed_by (Filter-F.Ids ids) = Some ids
listed_by operator = None

-- The identifiers that a filter asks for, so that no other feature passes it: those of a list, or of a Both with lists among its direct
-- parts those of the first.
unfoldable pub ids_asked : Option Filter → Option (List IdRef)
ids_asked filter = asked listed_by filter

abbrev pub known : IdRef → Option Rid
known (Known id) = Some id
known reference = None

-- those that are known
unfoldable pub known_ids : List IdRef → List Rid
known_ids references = flat_map (λ reference. to_list (known reference)) references

-- ---- boxes

-- the box of an operator
abbrev pub area_of : Filter-F Filter → Option Bounds
area_of (Filter-F.InBox property area) = Some area
area_of operator = None

-- The box that a filter asks for, so that no feature passes it that is not near: that of an InBox, or of a Both with some among its
-- direct parts that of the first.
unfoldable pub box_asked : Option Filter → Option Bounds
box_asked filter = asked area_of filter

-- the identifiers of all features of the types that are near a box are among these
abbrev pub HasNear : Option ℕ → Bounds → List Feature → List Rid → Type 0
HasNear kind area features ids = All (λ f. (is_of_type kind f && has_near area f) ≡ true → is_among ids f.id ≡ true) features

-- the identifiers of all features that a query selects are among these
abbrev pub HasSelected : Query → List Feature → List Rid → Type 0
HasSelected query features ids = All (λ f. is_selected query f ≡ true → is_among ids f.id ≡ true) features

-- ---- walks

-- a place behind which all features of the type stand; for all types the beginning
abbrev pub start_of : Option ℕ → Option Rid
start_of None = None
start_of (Some kind) = if kind == 0 then None else Some (record { kind = kind - 1; number = 18_446_744_073_709_551_615 })

-- a place behind all features of a type, and before those of the next
abbrev pub end_of : ℕ → Option Rid
end_of kind = Some (record { kind = kind; number = 18_446_744_073_709_551_615 })

-- behind all features of the type
abbrev pub is_past : Option ℕ → Rid → Bool
is_past None id = false
is_past (Some kind) id = nat_lt kind id.kind

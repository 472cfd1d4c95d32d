-- What has changed, by identifier.
use Rattle.std.specs.Prelude.{◌≡◌, ℕ, ◌==◌, ◌&&◌, List, [], ◌∷◌, filter, map, All, Option, None, Some, Ok, if◌then◌else◌, is_some}
use Rattle.std.specs.Option.{option_or, unwrap_or, IfSome}
use Rattle.std.specs.Map.{lookup}
use Rattle.std.specs.declared.ops.Bound.{Bound}
use Rattle.std.specs.declared.ops.Bound.TheVariants.{Excluded, Unbounded}
use Rattle.feature_values.specs.declared.feature.Feature.{Feature}
use Rattle.feature_values.specs.declared.feature.Rid.{Rid}
use Rattle.feature_values.specs.declared.schema.Schema.{Schema}
use Rattle.feature_values.specs.Fits.{feature_fits}
use Rattle.fes_filter.specs.View.{is_same, feature_at}
use Rattle.feature_overlay.specs.Laid.{Change, id_of}

-- a feature that stands under an identifier has it
abbrev pub IsOf : Rid → Option Feature → Type 0
IsOf id now = IfSome now (λ f. f.id ≡ id)

abbrev pub AreKeyed : List Change → Type 0
AreKeyed changes = All (λ change. IsOf (id_of change.0) change.1) changes

-- a feature that stands now is allowed by the schema
abbrev pub FitsIf : Schema → Option Feature → Type 0
FitsIf schema now = IfSome now (λ f. feature_fits schema f ≡ Ok tt)

abbrev pub AreFitting : Schema → List Change → Type 0
AreFitting schema changes = All (λ change. FitsIf schema change.1) changes

-- what has changed under an identifier
abbrev pub change_at : Rid → List Change → Option (Option Feature)
change_at id changes = lookup (λ key. is_same (id_of key) id) changes

-- the feature of a view with this identifier, where nothing has changed under it
abbrev pub kept_at : List Feature → List Change → Rid → Option Feature
kept_at features changes id = (if is_some (change_at id changes) then None else feature_at id features)

-- the feature that was put under this identifier
abbrev pub put_at : List Change → Rid → Option Feature
put_at changes id = unwrap_or (change_at id changes) None

-- where the keys behind a place begin
abbrev pub start_of : Option Rid → Bound (ℕ × ℕ)
start_of None = Unbounded
start_of (Some after) = Excluded (after.kind, after.number)

-- the first feature that was put
abbrev pub first_put : List Change → Option Feature
first_put [] = None
first_put (change ∷ changes) = option_or change.1 (first_put changes)

-- the identifiers of the features of a type that were put
abbrev pub put_ids : ℕ → List Change → List Rid
put_ids kind changes = map (λ change. id_of change.0) (filter (λ change. (change.0.0 == kind) && is_some change.1) changes)

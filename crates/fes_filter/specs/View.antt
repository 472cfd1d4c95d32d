-- The default order of features, and what a view of features says of them. The default order is this project's own.
use Rattle.std.specs.Prelude.{◌≡◌, ℕ, Bool, false, ◌&&◌, ◌||◌, not, ◌==◌, nat_lt, List, [], ◌∷◌, All, Contains, IsTrue, Option, Some, None, Ok, slice_get, ⊤}
use Rattle.std.specs.List.{find, list_any}
use Rattle.geom_core.specs.Plane.{Bounds, are_apart}
use Rattle.geom_core.specs.Extents.{bounds_of}
use Rattle.spatial_tests.specs.Sharing.{do_meet_box}
use Rattle.feature_values.specs.declared.value.Value.{Value}
use Rattle.feature_values.specs.declared.value.Value.TheVariants.{Shape}
use Rattle.feature_values.specs.declared.feature.Feature.{Feature}
use Rattle.feature_values.specs.declared.feature.Rid.{Rid}
use Rattle.feature_values.specs.declared.schema.Schema.{Schema}
use Rattle.feature_values.specs.Fits.{feature_fits}

abbrev pub is_same : Rid → Rid → Bool
is_same a b = (a.kind == b.kind) && (a.number == b.number)

-- by type, in the order of the schema, and within a type by number
abbrev pub is_before : Rid → Rid → Bool
is_before a b = nat_lt a.kind b.kind || ((a.kind == b.kind) && nat_lt a.number b.number)

-- each feature is before all that follow it
abbrev pub IsInOrder : List Feature → Type 0
IsInOrder [] = ⊤
IsInOrder (f ∷ fs) = All (λ g. IsTrue (is_before f.id g.id)) fs × IsInOrder fs

-- what a view has: features in default order, each of which the schema allows
pub record IsView (schema : Schema) (features : List Feature) : Type 0 where
  pub order : IsInOrder features
  pub fitting : All (λ f. feature_fits schema f ≡ Ok tt) features

-- the feature with this identifier
abbrev pub feature_at : Rid → List Feature → Option Feature
feature_at id features = find (λ f. is_same f.id id) features

-- the first feature, or the first that is behind an identifier
abbrev pub next_after : Option Rid → List Feature → Option Feature
next_after None features = slice_get features 0
next_after (Some id) features = find (λ f. is_before id f.id) features

-- A geometry that shares a point with a box, or whose bounds do. Each geometry that can be made lies within its bounds.
abbrev pub is_value_near : Bounds → Value → Bool
is_value_near area (Shape shape) = do_meet_box shape area || not (are_apart (bounds_of shape) area)
is_value_near area value = false

-- a feature with such a geometry
abbrev pub has_near : Bounds → Feature → Bool
has_near area feature = list_any (is_value_near area) feature.values

-- a feature of a type with such a geometry
abbrev pub is_near : ℕ → Bounds → Feature → Bool
is_near kind area feature = (feature.id.kind == kind) && has_near area feature

-- all features near a box are among these identifiers
abbrev pub HasAllNear : ℕ → Bounds → List Feature → List Rid → Type 0
HasAllNear kind area features ids = All (λ f. IsTrue (is_near kind area f) → Contains ids f.id) features

-- no identifier stands twice
abbrev pub IsOnce : List Rid → Type 0
IsOnce [] = ⊤
IsOnce (id ∷ ids) = All (λ other. IsTrue (not (is_same id other))) ids × IsOnce ids

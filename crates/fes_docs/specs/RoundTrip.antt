-- The element that is written for a filter reads back as that filter.
use Rattle.std.specs.Prelude.{◌≡◌, ℕ, ◌<◌, false, List, [], ◌∷◌, length, All, Option, Ok}
use Rattle.std.specs.List.{list_any, flat_map}
use Rattle.std.specs.Char.{IsScalar}
use Rattle.doc_tree.specs.declared.tree.Element.{Element}
use Rattle.geom_core.specs.declared.geometry.Geometry.{Geometry}
use Rattle.gml_docs.specs.RoundTrip.{IsGeometry}
use Rattle.feature_values.specs.declared.schema.Schema.{Schema}
use Rattle.feature_values.specs.Ids.{is_colon}
use Rattle.fes_filter.specs.declared.pattern.LikePart.{LikePart}
use Rattle.fes_filter.specs.declared.pattern.LikePart.TheVariants.{Exactly}
use Rattle.fes_filter.specs.declared.filter.Filter.{Filter}
use Rattle.fes_filter.specs.declared.filter.Filter.TheOpen.{Filter-F}
use Rattle.fes_filter.specs.declared.filter.Filter.TheFolds.{fold-Filter}
use Rattle.fes_docs.specs.Filters.{filter_of}
use Rattle.fes_docs.specs.Written.{filter_tree}

-- ---- schemas that can be written

-- The prefix of the properties ends at the first colon of a name, and there is a reference system to name.
pub record CanBeWritten (schema : Schema) : Type 0 where
  pub prefix : list_any is_colon schema.prefix ≡ false
  pub srs : 0 < length schema.srs

-- ---- what each value of `Filter` is

abbrev pub part_characters : LikePart → List ℕ
part_characters (Exactly c) = c ∷ []
part_characters part = []

-- the characters of all patterns in a filter
abbrev pub characters_step : Filter-F (List ℕ) → List ℕ
characters_step (Filter-F.Both parts) = flat_map (λ part. part) parts
characters_step (Filter-F.Either parts) = flat_map (λ part. part) parts
characters_step (Filter-F.Not part) = part
characters_step (Filter-F.Like property pattern) = flat_map part_characters pattern
characters_step filter = []

abbrev pub characters : Filter → List ℕ
characters = fold-Filter (List ℕ) characters_step

-- all geometries in a filter
abbrev pub shapes_step : Filter-F (List Geometry) → List Geometry
shapes_step (Filter-F.Both parts) = flat_map (λ part. part) parts
shapes_step (Filter-F.Either parts) = flat_map (λ part. part) parts
shapes_step (Filter-F.Not part) = part
shapes_step (Filter-F.Meets property shape) = shape ∷ []
shapes_step (Filter-F.Apart property shape) = shape ∷ []
shapes_step filter = []

abbrev pub shapes : Filter → List Geometry
shapes = fold-Filter (List Geometry) shapes_step

-- the characters are ones, and so are the geometries
pub record IsFilter (filter : Filter) : Type 0 where
  pub characters : All IsScalar (characters filter)
  pub shapes : All IsGeometry (shapes filter)

-- ---- the law

-- The element that is written for a filter reads back as that filter, where the filter was read from some element for the
-- same schema, type and parameters.
abbrev pub ReadsBack : Type 0
ReadsBack = (parameters : Option (List (List ℕ))) (schema : Schema) (kind : Option ℕ) (e : Element) (filter : Filter)
    → CanBeWritten schema → IsFilter filter → filter_of parameters schema kind e ≡ Ok filter
    → filter_of parameters schema kind (filter_tree parameters schema kind filter) ≡ Ok filter

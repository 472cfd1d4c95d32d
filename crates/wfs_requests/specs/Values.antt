-- Values as the content of elements (OGC 09-025r2, section 15.2.4; GML 3.2.1, OGC 07-036, section 9.5): a geometry is the one child
-- element, and all else is the text.
use Rattle.std.specs.Prelude.{ℕ, ◌==◌, Bool, ◌&&◌, if◌then◌else◌, List, [], ◌∷◌, length, Result, Ok, Err}
use Rattle.wfs_ends.specs.Read.{◌>>=◌}
use Rattle.doc_tree.specs.declared.tree.Element.{Element, out-Element}
use Rattle.gml_docs.specs.Elements.{geometry_of}
use Rattle.feature_values.specs.declared.schema.Property.{Property}
use Rattle.feature_values.specs.declared.value.Value.{Value}
use Rattle.feature_values.specs.declared.value.Value.TheVariants.{Null, Shape}
use Rattle.feature_values.specs.Fits.{is_of_kind}
use Rattle.feature_values.specs.Reads.{reads}
use Rattle.fes_filter.specs.Check.{is_shape}
use Rattle.wfs_model.specs.declared.fault.AskFault.{AskFault}
use Rattle.wfs_model.specs.Terms.{refused}
use Rattle.request_parameters.specs.Said.{Ask}

-- a value does not fit a property
abbrev pub unfit : Property → AskFault
unfit property = refused 14 property.name

-- what was read, or else the value does not fit
abbrev pub or_unfit : {A E : Type 0} → Property → Result A E → Ask A
or_unfit property (Ok x) = Ok x
or_unfit property (Err fault) = Err (unfit property)

-- a geometry of the property's kind
unfoldable pub shape_of : List (List ℕ) → Property → Element → Ask Value
shape_of srs property e = do
  shape ← or_unfit property (geometry_of srs e)
  if is_of_kind (Shape shape) property.kind then Ok (Shape shape) else Err (unfit property)

-- the one geometry that stands there
abbrev pub only_shape : List (List ℕ) → Property → List Element → Ask Value
only_shape srs property (e ∷ []) = shape_of srs property e
only_shape srs property elements = Err (unfit property)

-- a text that the property's kind reads
unfoldable pub word_of : Property → Element → Ask Value
word_of property e =
    if length (out-Element e).children == 0 then or_unfit property (reads property (out-Element e).text) else Err (unfit property)

-- the content of an element as a value of a property: one geometry of its kind, or a text alone, taken whole
unfoldable pub content_of : List (List ℕ) → Property → Element → Ask Value
content_of srs property e =
    if is_shape property.kind then only_shape srs property (out-Element e).children else word_of property e

-- null, which a required property never is
abbrev pub null_of : Property → Ask Value
null_of property = if property.required then Err (unfit property) else Ok Null

-- an element with neither child nor text
unfoldable pub is_empty : Element → Bool
is_empty e = length (out-Element e).children == 0 && length (out-Element e).text == 0

-- What each request of a drill is.
use Rattle.std.specs.Prelude.{◌≡◌, []}
use Rattle.feature_values.specs.declared.schema.Schema.{Schema}
use Rattle.wfs_model.specs.declared.request.Request.{Request}
use Rattle.wfs_model.specs.OfSchema.{IsOfSchema, stored_in}

-- such as the schema allows, and it makes no stored query
pub record IsOneOf (schema : Schema) (request : Request) : Type 0 where
  pub fitting : IsOfSchema schema request
  pub makes_none : stored_in request ≡ []

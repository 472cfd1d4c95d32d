-- What the tests need: a query for all features of the first type, and a request that counts what is asked for.
use Rattle.std.proofs.Common.{◌≤◌, List, [], length, None, Some, arith}
use Rattle.std.specs.Prelude.{All}
use Rattle.std.proofs.lemmas.List.Elements.{All-nil}
use Rattle.feature_schema.specs.Rules.{KeepsRules}
use Rattle.feature_values.specs.declared.schema.Schema.{Schema}
use Rattle.request_plans.specs.Marks.{AreAsked}
use Rattle.request_plans.proofs.Marks.{alone}
use Rattle.wfs_model.specs.declared.asked.Asked.{Asked}
use Rattle.wfs_model.specs.declared.asked.Present.{Present}
use Rattle.wfs_model.specs.declared.request.Request.TheVariants.{GetFeatures}
use Rattle.wfs_model.specs.OfSchema.{IsType, IsQueryOf, IsOfSchema}

pub all_of_first : (schema : Schema) → KeepsRules schema → IsQueryOf schema 0 (record { kind = Some 0; filter = None; sort = [] })
all_of_first schema rules =
    let some : 1 ≤ length schema.types = rules.some_types in
    record { kind = alone (IsType schema) 0 (omega (arith, some)); filter = tt; sort = All-nil _ }

pub counting_is_of : (schema : Schema) (present : Present) (asked : List Asked) → AreAsked schema asked → IsOfSchema schema (GetFeatures present asked)
counting_is_of schema present asked are = record {
  types = All-nil _;
  queries = are.queries;
  names = rw are.names (All-nil _);
  values = tt;
  actions = All-nil _;
  stored = All-nil _;
  periods = All-nil _;
  kept = All-nil _;
}

-- The operations of the service (OGC 09-025r2, section 7.2), as the root of a document or the parameter request of a query names them.
use Rattle.std.specs.Prelude.{ℕ, Bool, true, false, not, List, [], ◌∷◌, find, codes, Ok}
use Rattle.std.specs.Str.{bytes_eq}
use Rattle.wfs_ends.specs.Read.{◌>>=◌, unless}
use Rattle.wfs_model.specs.Terms.{refused}
use Rattle.request_parameters.specs.Said.{Said, Ask, or_fault, required_of}
use Rattle.request_parameters.specs.declared.operation.Operation.{Operation}
use Rattle.request_parameters.specs.declared.operation.Operation.TheVariants.{GetCapabilities, DescribeFeatureType, GetPropertyValue, GetFeature, GetFeatureWithLock, LockFeature, Transaction, ListStoredQueries, DescribeStoredQueries, CreateStoredQuery, DropStoredQuery}

abbrev pub operations : List Operation
operations =
    GetCapabilities ∷ DescribeFeatureType ∷ GetPropertyValue ∷ GetFeature ∷ GetFeatureWithLock ∷ LockFeature ∷ Transaction
    ∷ ListStoredQueries ∷ DescribeStoredQueries ∷ CreateStoredQuery ∷ DropStoredQuery ∷ []

abbrev pub name_of : Operation → List ℕ
name_of GetCapabilities = codes "GetCapabilities"
name_of DescribeFeatureType = codes "DescribeFeatureType"
name_of GetPropertyValue = codes "GetPropertyValue"
name_of GetFeature = codes "GetFeature"
name_of GetFeatureWithLock = codes "GetFeatureWithLock"
name_of LockFeature = codes "LockFeature"
name_of Transaction = codes "Transaction"
name_of ListStoredQueries = codes "ListStoredQueries"
name_of DescribeStoredQueries = codes "DescribeStoredQueries"
name_of CreateStoredQuery = codes "CreateStoredQuery"
name_of DropStoredQuery = codes "DropStoredQuery"

abbrev pub is_named : List ℕ → Operation → Bool
is_named name operation = bytes_eq name (name_of operation)

-- whether an operation may come as a query; its content has to fit one
abbrev pub comes_as_query : Operation → Bool
comes_as_query Transaction = false
comes_as_query CreateStoredQuery = false
comes_as_query operation = true

-- the operation of a name
unfoldable pub operation_of : List ℕ → Ask Operation
operation_of name = or_fault (find (is_named name) operations) (refused 9 name)

-- the operation that a query asks for
unfoldable pub queried_of : Said → Ask Operation
queried_of said = do
  name ← required_of (codes "request") said
  operation ← operation_of name
  _ ← unless (not (comes_as_query operation)) (refused 9 name)
  Ok operation

-- Requests as documents (OGC 09-025r2, section 7): the root names the operation.
use Rattle.std.specs.Prelude.{if◌then◌else◌, Err}
use Rattle.std.specs.Str.{bytes_eq}
use Rattle.wfs_ends.specs.Read.{◌>>=◌}
use Rattle.doc_tree.specs.declared.tree.Element.{Element, out-Element}
use Rattle.feature_values.specs.declared.schema.Schema.{Schema}
use Rattle.wfs_model.specs.declared.request.Request.{Request}
use Rattle.wfs_model.specs.Terms.{refused}
use Rattle.request_parameters.specs.Said.{Ask}
use Rattle.request_parameters.specs.Operations.{operation_of}
use Rattle.request_parameters.specs.Elements.{local_of, wfs_space}
use Rattle.request_parameters.specs.declared.operation.Operation.{Operation}
use Rattle.request_parameters.specs.declared.operation.Operation.TheVariants.{GetCapabilities, DescribeFeatureType, GetPropertyValue, GetFeature, GetFeatureWithLock, LockFeature, Transaction, ListStoredQueries, DescribeStoredQueries, CreateStoredQuery, DropStoredQuery}
use Rattle.wfs_requests.specs.Capabilities.{capabilities_of}
use Rattle.wfs_requests.specs.Describing.{types_of}
use Rattle.wfs_requests.specs.Fetching.{features_of, locked_of, lock_request, values_request}
use Rattle.wfs_requests.specs.StoredQueries.{list_of, described_of, created_of, drop_of}
use Rattle.wfs_requests.specs.Transactions.{transaction_of}

-- the operation that a root names
unfoldable pub root_of : Element → Ask Operation
root_of e = if bytes_eq (out-Element e).name.space wfs_space then operation_of (local_of e) else Err (refused 9 (local_of e))

-- the request of a root of an operation
abbrev pub request_by : Schema → Element → Operation → Ask Request
request_by schema e GetCapabilities = capabilities_of e
request_by schema e DescribeFeatureType = types_of schema e
request_by schema e GetPropertyValue = values_request schema e
request_by schema e GetFeature = features_of schema e
request_by schema e GetFeatureWithLock = locked_of schema e
request_by schema e LockFeature = lock_request schema e
request_by schema e Transaction = transaction_of schema e
request_by schema e ListStoredQueries = list_of e
request_by schema e DescribeStoredQueries = described_of e
request_by schema e CreateStoredQuery = created_of schema e
request_by schema e DropStoredQuery = drop_of e

-- the request of a document, by its root
unfoldable pub request_of : Element → Schema → Ask Request
request_of e schema = root_of e >>= request_by schema e

-- What a message asks (RFC 9110, section 9.3; OGC 09-025r2, sections 6.2 and 7.5).
use Rattle.std.specs.Prelude.{ℕ, min, Bool, not, ◌==◌, if◌then◌else◌, List, length, codes, Result, Ok, Err}
use Rattle.std.specs.List.{before_first, after_first}
use Rattle.std.specs.Str.{bytes_eq}
use Rattle.percent_encoding.specs.Percent.{percent_decode}
use Rattle.doc_tree.specs.declared.tree.Element.{Element}
use Rattle.doc_read.specs.declared.fault.DocFault.{DocFault}
use Rattle.doc_read.specs.Document.{document}
use Rattle.http_session.specs.declared.message.Message.{Message}
use Rattle.feature_values.specs.declared.schema.Schema.{Schema}
use Rattle.wfs_model.specs.declared.request.Request.{Request}
use Rattle.wfs_model.specs.declared.fault.AskFault.{AskFault}
use Rattle.wfs_model.specs.Terms.{refused}
use Rattle.wfs_requests.specs.Requests.{request_of}
use Rattle.kvp_queries.specs.Request.{asked_of}

abbrev pub is_question_mark : ℕ → Bool
is_question_mark b = b == 63

-- the path of a target, and the query behind its first question mark
abbrev pub path_of : List ℕ → List ℕ
path_of target = before_first is_question_mark target

abbrev pub query_of : List ℕ → List ℕ
query_of target = after_first is_question_mark target

-- the one path of the service
unfoldable pub is_service_path : List ℕ → Bool
is_service_path path = bytes_eq (percent_decode path) (codes "/wfs")

-- a method by its name
abbrev pub is_get : Message → Bool
is_get m = bytes_eq m.method (codes "GET")

abbrev pub is_post : Message → Bool
is_post m = bytes_eq m.method (codes "POST")

-- the request of a document, or of what is none
abbrev pub posted : Result Element DocFault → Schema → Result Request AskFault
posted (Ok root) schema = request_of root schema
posted (Err fault) schema = Err (refused 7 (codes "document"))

-- the request of a message, or the first refusal: the path is judged, then the method, then the query or the document
unfoldable pub asked : Message → Schema → Result Request AskFault
asked m schema =
    if not (is_service_path (path_of m.target)) then Err (refused 5 (codes "path")) else
    (if is_get m then asked_of (query_of m.target) schema else
    (if is_post m then posted (document m.body) schema else Err (refused 6 (codes "method"))))

-- the length of the query or the document that asked; the limits of messages keep it far below the last u32
unfoldable pub size_of : Message → ℕ
size_of m = min (if is_get m then length (query_of m.target) else length m.body) 4_294_967_295

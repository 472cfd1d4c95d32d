-- The bytes of each answer.
use Rattle.std.specs.Prelude.{ℕ, Bool, true, false, if◌then◌else◌, List, codes}
use Rattle.feature_values.specs.declared.schema.Schema.{Schema}
use Rattle.service_docs.specs.CapabilitiesDocument.{capabilities_document}
use Rattle.service_docs.specs.SchemaDocument.{schema_document}
use Rattle.wfs_model.specs.declared.reply.Reply.{Reply}
use Rattle.wfs_model.specs.declared.reply.Reply.TheVariants.{Capabilities, Types, Collection, Values, Bare, Locked, Transacted, StoredList, StoredTexts, Created, Dropped, Refused}
use Rattle.reply_documents.specs.Head.{answer_text}
use Rattle.reply_documents.specs.Refusals.{row_of, plain_media, refusal_body}
use Rattle.reply_documents.specs.Transacted.{transacted_body}
use Rattle.reply_documents.specs.Features.{bare_body}
use Rattle.reply_documents.specs.Collection.{collection_body, values_body}
use Rattle.reply_documents.specs.Locks.{locked_body}
use Rattle.reply_documents.specs.StoredQueries.{stored_list_body, stored_texts_body, created_body, dropped_body}

abbrev pub reply_status : Reply → ℕ
reply_status (Refused refusal) = (row_of refusal.row).status
reply_status reply = 200

-- features, their values and their schema are GML (OGC 07-036)
abbrev pub is_gml : Reply → Bool
is_gml (Types types) = true
is_gml (Collection moment matched features lock next previous) = true
is_gml (Values moment matched property features next previous) = true
is_gml (Bare feature) = true
is_gml reply = false

abbrev pub reply_media : Reply → List ℕ
reply_media reply = if is_gml reply then codes "application/gml+xml; version=3.2" else plain_media

abbrev pub reply_body : Reply → Schema → List ℕ
reply_body Capabilities schema = capabilities_document schema
reply_body (Types types) schema = schema_document schema types
reply_body (Collection moment matched features lock next previous) schema = collection_body schema moment matched features lock next previous
reply_body (Values moment matched property features next previous) schema = values_body schema moment matched property features next previous
reply_body (Bare feature) schema = bare_body schema feature
reply_body (Locked lock taken missed) schema = locked_body schema lock taken missed
reply_body (Transacted deleted inserted updated replaced) schema = transacted_body schema deleted inserted updated replaced
reply_body (StoredList all) schema = stored_list_body schema all
reply_body (StoredTexts all) schema = stored_texts_body schema all
reply_body Created schema = created_body
reply_body Dropped schema = dropped_body
reply_body (Refused refusal) schema = refusal_body refusal.row refusal.locator

unfoldable pub reply_text : Reply → Schema → Bool → List ℕ
reply_text reply schema close = answer_text (reply_status reply) (reply_media reply) (reply_body reply schema) close

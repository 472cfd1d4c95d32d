-- What may be moved to another thread, or shared between threads: all that is published, and what publishes and views it.
-- The search for this at a call does not come past a filter, since a filter may hold filters. So a filter has its lemmas here, and with it each type
-- that holds one. A lemma is of the type's field; of a type that contracts see as another value, it is of the type's row.
use denote.Builtin.{u32}
use denote.Param.Send.{IsSend, IsSync, plain_send, plain_sync, sendable}
use Rattle.std.proofs.Crossing.{Vec-send, Vec-sync, Arc-send, Arc-sync, send as heap_send, sync as heap_sync, frees as heap_frees}
use Rattle.std.proofs.option.Option.TheSendSync.{the_field_send as option_send, the_field_sync as option_sync}
use Rattle.wfs_ends.proofs.boxed.Boxed.TheSendSync.{the_send as boxed_send, the_sync as boxed_sync}
use Rattle.wfs_ends.proofs.list.List.TheSendSync.{the_send as list_send, the_sync as list_sync}
use Rattle.wfs_ends.proofs.text.Text.TheSendSync.{the_send as text_send, the_sync as text_sync}
use Rattle.geom_core.proofs.extent.Box2.TheSendSync.{the_send as box_send, the_sync as box_sync}
use Rattle.geom_core.proofs.geometry.Geometry.TheSendSync.{the_field_send as geometry_send, the_field_sync as geometry_sync}
use Rattle.feature_values.proofs.schema.Schema.TheSendSync.{the_field_send as schema_send, the_field_sync as schema_sync}
use Rattle.fes_filter.proofs.expr.By.TheSendSync.{the_field_send as by_send, the_field_sync as by_sync}
use Rattle.fes_filter.proofs.expr.Expr.TheSendSync.{the_field_send as expr_send, the_field_sync as expr_sync}
use Rattle.fes_filter.proofs.ids.IdRef.TheSendSync.{the_send as id_send, the_sync as id_sync}
use Rattle.fes_filter.proofs.pattern.LikePart.TheSendSync.{the_send as like_send, the_sync as like_sync}
use Rattle.fes_filter.proofs.query.SortKey.TheSendSync.{the_field_send as sort_send, the_field_sync as sort_sync}
use Rattle.fes_filter.proofs.filter.Filter.TheLaws.TheKnot as filter_knot
use Rattle.fes_filter.specs.contracts.filter.Filter as filter
use Rattle.fes_filter.specs.contracts.query.Query as query
use Rattle.wfs_model.proofs.change.Part.TheSendSync.{the_field_send as part_send}
use Rattle.wfs_model.specs.contracts.change.Change as change
use Rattle.wfs_model.specs.contracts.stored.StoredQuery as stored_query
use Rattle.stored_queries.specs.contracts.stored.Stored as stored
use Rattle.feature_versions.proofs.layer.Layer.TheSendSync.{the_send as layer_send, the_sync as layer_sync}
use Rattle.feature_versions.specs.contracts.features.Features as features
use Rattle.left_right.proofs.reader.Reader.TheSendSync.{the_field_send as reader_send}
use Rattle.left_right.proofs.writer.Writer.TheSendSync.{the_field_send as writer_send}
use Rattle.logbook.proofs.tokens.Seen.TheSendSync.{the_send as seen_send, the_sync as seen_sync}
use Rattle.logbook.proofs.word.Word.TheSendSync.{the_send as word_send}
use Rattle.snapshot_reads.specs.contracts.other.Late as late
use Rattle.snapshot_reads.specs.contracts.other.Other as other
use Rattle.snapshot_reads.specs.contracts.snapshot.Snapshot as snapshot
use Rattle.snapshot_reads.specs.contracts.shown.Shown as shown
use Rattle.snapshot_reads.specs.contracts.publisher.Publisher as publisher
use Rattle.snapshot_reads.specs.contracts.viewer.Viewer as viewer

ruleset plain = (option_send, list_send, text_send, sendable)

ruleset shared = (option_sync, list_sync, text_sync, sendable)

-- ---- filters and queries
filter_send : IsSend (filter.the_field).row
filter_send =
    filter_knot.send-Filter
    list_send
    boxed_send
    by_send
    expr_send
    (plain_send _ _ _ _ _)
    (plain_send _ _ _ _ _)
    (list_send _ like_send)
    (list_send _ id_send)
    (option_send u32 (plain_send _ _ _ _ _))
    box_send
    geometry_send

filter_sync : IsSync (filter.the_field).row
filter_sync =
    filter_knot.sync-Filter
    list_sync
    boxed_sync
    by_sync
    expr_sync
    (plain_sync _ _ _ _ _)
    (plain_sync _ _ _ _ _)
    (list_sync _ like_sync)
    (list_sync _ id_sync)
    (option_sync u32 (plain_sync _ _ _ _ _))
    box_sync
    geometry_sync

query_send : IsSend (query.the_field).row
query_send = search (filter_send, sort_send, plain) depth 20

query_sync : IsSync (query.the_field).row
query_sync = search (filter_sync, sort_sync, shared) depth 20

stored_query_send : IsSend (stored_query.the_field).row
stored_query_send = search (query_send, plain) depth 20

stored_query_sync : IsSync (stored_query.the_field).row
stored_query_sync = search (query_sync, shared) depth 20

-- ---- features
stored_send : IsSend stored.the_row
stored_send = search (stored_query_send, Vec-send, plain) depth 20

stored_sync : IsSync stored.the_row
stored_sync = search (stored_query_sync, Vec-sync, shared) depth 20

features_send : IsSend features.the_row
features_send = search (schema_send, layer_send, Vec-send, stored_send, plain) depth 20

pub features_sync : IsSync features.the_row
features_sync = search (schema_sync, layer_sync, Vec-sync, stored_sync, shared) depth 20

-- ---- what is published
snapshot_send : IsSend snapshot.the_row
snapshot_send = search (Arc-send, features_send, features_sync, sendable) depth 20

snapshot_sync : IsSync snapshot.the_row
snapshot_sync = search (Arc-sync, features_send, features_sync, sendable) depth 20

pub shown_send : IsSend (shown.the_field).row
shown_send = search (snapshot_send, seen_send, sendable) depth 20

pub shown_sync : IsSync (shown.the_field).row
shown_sync = search (snapshot_sync, seen_sync, sendable) depth 20

-- ---- the second copy
change_send : IsSend (change.the_field).row
change_send = search (stored_query_send, part_send, plain) depth 20

late_send : IsSend (late.the_field).row
late_send = search (snapshot_send, change_send, sendable) depth 20

other_send : IsSend (other.the_field).row
other_send = search (features_send, late_send, sendable) depth 20

-- ---- who publishes, and who views

-- a handle shares its tables, which stand on the heap: so it crosses where what is published may be shared, and the heap may be sent, shared and freed anywhere
pub viewer_send : IsSend (viewer.the_field).row
viewer_send = search (reader_send, seen_send, shown_sync, heap_send, heap_sync, heap_frees, option_send, sendable) depth 20

pub publisher_send : IsSend (publisher.the_field).row
publisher_send = search (writer_send, word_send, seen_send, shown_send, shown_sync, other_send, heap_send, heap_sync, heap_frees, option_send, sendable) depth 20

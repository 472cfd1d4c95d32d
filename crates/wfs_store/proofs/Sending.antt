-- What may be moved to another thread: all that a store holds, and a store where its disks may.
-- The search for this at a call does not come past a filter, since a filter may hold filters. So a filter has its lemma here, and with it each type
-- that holds one. A lemma is of the type's field; of a type that contracts see as another value, it is of the type's row.
use denote.Builtin.{u32}
use denote.Param.Send.{IsSend, plain_send, sendable}
use denote.RattleType.{RattleType}
use Rattle.std.proofs.Crossing.{Vec-send}
use Rattle.std.proofs.alloc.Global.TheSendSync.{the_field_send as heap_send}
use Rattle.std.proofs.option.Option.TheSendSync.{the_field_send as option_send}
use Rattle.wfs_ends.proofs.boxed.Boxed.TheSendSync.{the_send as boxed_send}
use Rattle.wfs_ends.proofs.list.List.TheSendSync.{the_send as list_send}
use Rattle.wfs_ends.proofs.text.Text.TheSendSync.{the_send as text_send}
use Rattle.disk_core.specs.declared.disk.Disk as disk
use Rattle.feature_journal.proofs.journal.Journal.TheSendSync.{the_field_send as journal_send}
use Rattle.geom_core.proofs.extent.Box2.TheSendSync.{the_send as box_send}
use Rattle.geom_core.proofs.geometry.Geometry.TheSendSync.{the_field_send as geometry_send}
use Rattle.feature_values.proofs.feature.Feature.TheSendSync.{the_field_send as feature_send}
use Rattle.feature_values.proofs.schema.Schema.TheSendSync.{the_field_send as schema_send}
use Rattle.feature_values.proofs.value.Value.TheSendSync.{the_field_send as value_send}
use Rattle.fes_filter.proofs.expr.By.TheSendSync.{the_field_send as by_send}
use Rattle.fes_filter.proofs.expr.Expr.TheSendSync.{the_field_send as expr_send}
use Rattle.fes_filter.proofs.filter.Filter.TheLaws.TheKnot as filter_knot
use Rattle.fes_filter.proofs.ids.IdRef.TheSendSync.{the_send as id_send}
use Rattle.fes_filter.proofs.pattern.LikePart.TheSendSync.{the_send as like_send}
use Rattle.fes_filter.proofs.query.SortKey.TheSendSync.{the_field_send as sort_send}
use Rattle.fes_filter.specs.contracts.filter.Filter as filter
use Rattle.fes_filter.specs.contracts.query.Query as query
use Rattle.lock_table.proofs.id.LockId.TheSendSync.{the_field_send as lock_send}
use Rattle.lock_table.proofs.table.LockTable.TheSendSync.{the_send as locks_send}
use Rattle.lock_table.proofs.words.Release.TheSendSync.{the_field_send as release_send}
use Rattle.wfs_model.proofs.asked.Present.TheSendSync.{the_field_send as present_send}
use Rattle.wfs_model.proofs.change.Part.TheSendSync.{the_field_send as part_send}
use Rattle.wfs_model.proofs.limits.Limits.TheSendSync.{the_field_send as limits_send}
use Rattle.wfs_model.proofs.request.Take.TheSendSync.{the_field_send as take_send}
use Rattle.wfs_model.specs.contracts.action.Action as action
use Rattle.wfs_model.specs.contracts.asked.Asked as asked
use Rattle.wfs_model.specs.contracts.change.Change as change
use Rattle.wfs_model.specs.contracts.entry.Entry as entry
use Rattle.wfs_model.specs.contracts.request.Request as request
use Rattle.wfs_model.specs.contracts.stored.StoredQuery as stored_query
use Rattle.stored_queries.specs.contracts.stored.Stored as stored
use Rattle.feature_versions.proofs.layer.Layer.TheSendSync.{the_send as layer_send}
use Rattle.feature_versions.specs.contracts.features.Features as features
use Rattle.service_state.specs.contracts.state.ServiceState as state
use Rattle.journal_replay.proofs.bodies.Bodies.TheSendSync.{the_send as bodies_send}
use Rattle.wfs_store.specs.contracts.course.Course as course
use Rattle.wfs_store.specs.contracts.store.Store as store

ruleset plain = (option_send, list_send, text_send, sendable)

-- ---- filters and requests
filter_send : IsSend (filter.the_field).row
filter_send =
    filter_knot.send-Filter
    list_send
    boxed_send
    by_send
    expr_send
    (plain_send _ _ _ _ _)
    (plain_send _ _ _ _ _)
    (list_send _ like_send)
    (list_send _ id_send)
    (option_send u32 (plain_send _ _ _ _ _))
    box_send
    geometry_send

query_send : IsSend (query.the_field).row
query_send = search (filter_send, sort_send, plain) depth 20

asked_send : IsSend (asked.the_field).row
asked_send = search (query_send, plain) depth 20

action_send : IsSend (action.the_field).row
action_send = search (filter_send, value_send, feature_send, plain) depth 20

stored_query_send : IsSend (stored_query.the_field).row
stored_query_send = search (query_send, plain) depth 20

request_send : IsSend (request.the_field).row
request_send =
    search (present_send, asked_send, take_send, lock_send, release_send, action_send, stored_query_send, plain) depth 20

entry_send : IsSend (entry.the_field).row
entry_send = search (request_send, plain) depth 20

change_send : IsSend (change.the_field).row
change_send = search (part_send, stored_query_send, plain) depth 20

-- ---- the state, and the store
stored_send : IsSend stored.the_row
stored_send = search (stored_query_send, Vec-send, plain) depth 20

features_send : IsSend features.the_row
features_send = search (heap_send, schema_send, layer_send, Vec-send, stored_send, plain) depth 20

state_send : IsSend state.the_row
state_send = search (heap_send, features_send, locks_send, plain) depth 20

course_send : IsSend (course.the_field).row
course_send = search (heap_send, limits_send, state_send, entry_send, change_send, Vec-send, plain) depth 20

pub store_send : (D : RattleType) (g : disk.Ghosts D.Denot) → IsSend D → IsSend (store.the_row D g)
store_send D g s = search (course_send, journal_send, bodies_send, change_send, plain) depth 20

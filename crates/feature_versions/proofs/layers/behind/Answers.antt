use Rattle.std.proofs.Common.{◌+◌, Some, true, false, drop, sym, ◌∙◌}
use Rattle.std.specs.Prelude.{slice_get}
use Rattle.fes_filter.specs.View.{next_after}
use Rattle.feature_versions.specs.Types.{features_of, features_at}
use Rattle.feature_versions.proofs.Typed.{next_in_types, is_there, some_or, none_or}
use Rattle.feature_versions.proofs.layers.behind.Goals as goal

pub returns-then-is_some : goal.returns-then-is_some
returns-then-is_some c =
    let layers = c.args.layers.now in
    let id = c.args.id in
    let some = is_there c.behind_in-place.result.0 (next_after (Some id) (features_at id.kind layers)) c.is_some.result true c.behind_in-place.ensures c.is_some.ensures c.if-is_some.true in
    c.behind_in-place.ensures ∙ sym (next_in_types layers id c.requires ∙ some_or (next_after (Some id) (features_at id.kind layers)) (slice_get (features_of (drop (id.kind + 1) layers)) 0) some)

pub returns : goal.returns
returns c =
    let layers = c.args.layers.now in
    let id = c.args.id in
    let none = is_there c.behind_in-place.result.0 (next_after (Some id) (features_at id.kind layers)) c.is_some.result false c.behind_in-place.ensures c.is_some.ensures c.if-is_some.false in
    c.first_from.ensures ∙ sym (next_in_types layers id c.requires ∙ none_or (next_after (Some id) (features_at id.kind layers)) (slice_get (features_of (drop (id.kind + 1) layers)) 0) none)

use Rattle.std.proofs.Common.{◌<◌, ◌≤◌, length, arith}
use Rattle.feature_versions.proofs.Rooms.{remove_plays, none_plays}
use Rattle.feature_versions.proofs.layers.remove.Goals as goal

pub returns-then-kind-len : goal.returns-then-kind-len
returns-then-kind-len c =
    let within : c.args.id.kind < length c.args.layers.now.items = omega (arith, c.if-kind-len.true, c.len.ensures, c.args.layers.now.ok) in
    remove_plays c.args.layers.now.items c.args.id c.index_mut.result.now c.remove.new.self c.requires within c.index_mut.ensures.value c.remove.ensures.kind c.remove.ensures.features c.remove.ensures.rows c.remove.ensures.places

pub returns-else-kind-len : goal.returns-else-kind-len
returns-else-kind-len c =
    let outside : length c.args.layers.now.items ≤ c.args.id.kind = omega (arith, c.if-kind-len.false, c.len.ensures, c.args.layers.now.ok) in
    none_plays c.args.layers.now.items c.args.id c.requires outside

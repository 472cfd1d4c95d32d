use Rattle.feature_versions.proofs.Rooms.{put_plays}
use Rattle.feature_versions.proofs.layers.put.Goals as goal

pub returns : goal.returns
returns c =
    put_plays c.args.layers.now.items c.args.feature c.index_mut.result.now c.put.new.self c.requires.typed c.requires.within c.index_mut.ensures.value c.put.ensures.kind c.put.ensures.features c.put.ensures.rows c.put.ensures.places

use Rattle.std.proofs.Common.{refl, length}
use Rattle.disk_core.specs.Story.{LeftAll}
use Rattle.disk_core.specs.StoryLaws.{torn_none, torn_all}
use Rattle.disk_core.proofs.laws.later_write_alone.Goals as goal

pub returns : goal.returns
unfolding LeftAll
returns c base first second at place le = (base, (base, refl, torn_none at (length first) base), torn_all place second base le)

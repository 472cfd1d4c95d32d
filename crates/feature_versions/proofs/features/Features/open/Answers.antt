use Rattle.feature_versions.proofs.Holds.{opened_is}
use Rattle.feature_versions.proofs.features.Features.open.Goals as goal

pub returns-clause-kept : goal.returns-clause-kept
returns-clause-kept c = rw (← c.self.view_is) (opened_is c.self.inside.layers.items c.self.inside.counters c.self.inside.stored.list c.self.inside.opening c.args.opening)

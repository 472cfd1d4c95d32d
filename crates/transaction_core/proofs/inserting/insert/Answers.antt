use Rattle.std.proofs.Common.{refl}
use Rattle.transaction_core.proofs.Fitting.{renumbered_fits}
use Rattle.transaction_core.proofs.inserting.insert.Goals as goal

pub lay-requires-clause-fits : goal.lay-requires-clause-fits
lay-requires-clause-fits g c = renumbered_fits (g.V.FeatureView.schema c.args.overlay.now.view.now) c.args.feature.now c.in_ok-fresh.fresh _ c.in_ok-fresh.ensures refl c.requires.fits

use Rattle.std.proofs.Common.{◌∙◌, sym, arith}
use Rattle.feature_values.proofs.Each.{fits_so_far, fails_here}
use Rattle.feature_values.proofs.fitting.values_fit.Goals as goal

pub returns-in_err-value_fits : goal.returns-in_err-value_fits
returns-in_err-value_fits c = grind (arith, c.from_residual.ensures, fails_here c.args.properties.now c.args.values.now c.loop-i.i _ _ _ (omega arith) (omega (arith, c.requires)) c.index-properties-i.is c.index-values-i.is _ (sym c.value_fits.ensures ∙ c.in_err-value_fits.was) c.loop-i.invariant)

pub loop-i-preserved : goal.loop-i-preserved
loop-i-preserved c = fits_so_far c.args.properties.now c.args.values.now c.loop-i.i _ _ _ (omega arith) (omega (arith, c.requires)) c.index-properties-i.is c.index-values-i.is _ (sym c.value_fits.ensures ∙ c.in_ok-value_fits.was) c.loop-i.invariant

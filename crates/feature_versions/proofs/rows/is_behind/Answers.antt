use Rattle.std.proofs.Common.{◌≡◌, ◌+◌, ◌-◌, ◌∙◌, sym, ap, drop, arith}
use Rattle.std.specs.Prelude.{slice_get}
use Rattle.feature_versions.specs.Rows.{live}
use Rattle.feature_versions.proofs.Standing.{next_there}
use Rattle.feature_versions.proofs.rows.is_behind.Goals as goal

pub returns : goal.returns
returns c is =
    let next : c.args.place ≡ (c.args.place - 1) + 1 = omega (arith, c.if-place-eq0.false) in
    ap (λ i. slice_get (live (drop i c.args.rows.now)) 0) next ∙ sym (next_there c.args.rows.now c.args.id (c.args.place - 1) c.requires (sym c.is_at.ensures.value ∙ is))

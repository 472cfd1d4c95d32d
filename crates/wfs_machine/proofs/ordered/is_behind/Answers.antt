use Rattle.std.proofs.Common.{◌≡◌, suc, ◌-◌, ◌∙◌, sym, arith}
use Rattle.wfs_machine.proofs.Places.{behind_before}
use Rattle.wfs_machine.proofs.ordered.is_behind.Goals as goal

pub returns : goal.returns
returns c is =
    let next : c.args.place ≡ suc (c.args.place - 1) = omega (arith, c.if-place-eq0.false) in
    behind_before c.args.features.now c.args.id (c.args.place - 1) c.args.place c.requires next (sym c.is_at.ensures.value ∙ is)

use Rattle.std.proofs.Common.{sym, ◌∙◌, ap, refl}
use Rattle.std.proofs.lemmas.Nat.{be_bytes_4}
use Rattle.std.specs.Int.{from_be_bytes, w32}
use Rattle.recovery.proofs.Heads.{four_bytes, four_small}
use Rattle.recovery.proofs.walk.size_at.Goals as goal

pub returns-clause-spelled : goal.returns-clause-spelled
returns-clause-spelled c =
    let bytes = c.args.bytes.now in
    be_bytes_4 _ _ refl (four_small bytes c.args.gate (λ i. (c.type_inv.bytes i).fits)) c.from_be_bytes-size.ensures ∙ sym (four_bytes bytes c.args.gate c.requires)

pub returns-clause-read : goal.returns-clause-read
returns-clause-read c = ap (from_be_bytes w32) (four_bytes c.args.bytes.now c.args.gate c.requires) ∙ sym c.from_be_bytes-size.ensures

use Rattle.std.proofs.Common.{sym, ◌∙◌, refl}
use Rattle.std.proofs.lemmas.Nat.{be_bytes_8}
use Rattle.recovery.proofs.Heads.{eight_bytes, eight_small}
use Rattle.recovery.proofs.head.generation_at.Goals as goal

pub returns : goal.returns
returns c =
    let head = c.args.head.now in
    be_bytes_8 _ _ refl (eight_small head (λ i. (c.type_inv.head i).fits)) c.from_be_bytes.ensures ∙ sym (eight_bytes head c.requires)

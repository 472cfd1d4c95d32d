use Rattle.std.proofs.Common.{◌≡◌, ◌==◌, false, List, ◌∷◌, ◌++◌, length, map, sym, ap, ◌∙◌, arith}
use Rattle.wfs_model.specs.declared.change.Part.{Part}
use Rattle.journal_replay.specs.Checkpoint.{rows_of, created_one, checkpoint_of}
use Rattle.journal_replay.specs.Left.{changes_left}
use Rattle.journal_replay.proofs.Gathering.{rows_behind}
use Rattle.journal_replay.proofs.checkpoint.next_change.Goals as goal

not_none : (items parts : List Part) → items ≡ parts → (length items == 0) ≡ false → length parts ≡ 0 → ⊥
not_none items parts same some none = absurd (grind (arith, some, none, same))

pub returns-in_ok-base-in-Start : goal.returns-in_ok-base-in-Start
unfolding checkpoint_of
returns-in_ok-base-in-Start c =
    ap (changes_left c.args.features.now.kept) c.in-Start.is
    ∙ ap (λ b. b ∷ (rows_of c.args.features.now.kept.features ++ map created_one c.args.features.now.kept.stored)) (sym c.in_ok-base-in-Start.ensures)

pub returns-else-is_empty : goal.returns-else-is_empty
returns-else-is_empty c =
    let some : length c.in_ok-parts-in-Rows.parts ≡ 0 → ⊥ = not_none c.items.result.now c.in_ok-parts-in-Rows.parts c.items.ensures (sym c.is_empty.ensures ∙ c.if-is_empty.false) in
    ap (changes_left c.args.features.now.kept) c.in-Rows.is
    ∙ rows_behind c.args.features.now.kept _ _ c.in_ok-parts-in-Rows.parts c.in_ok-parts-in-Rows.ensures.parts c.in_ok-parts-in-Rows.ensures.rest some

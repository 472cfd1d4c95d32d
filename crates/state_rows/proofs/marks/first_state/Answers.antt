use Rattle.std.proofs.Common.{◌≡◌, ℕ, ◌≤◌, length, replicate, refl, ap, ◌∙◌, arith}
use Rattle.std.proofs.lemmas.List.Elements.{All-same, All-replicate}
use Rattle.wfs_model.specs.declared.change.Change.TheVariants.{Opening}
use Rattle.wfs_model.specs.Playable.{most_number}
use Rattle.wfs_model.specs.Played.{played_one}
use Rattle.wfs_model.specs.State.{Durable}
use Rattle.state_rows.proofs.marks.first_state.Goals as goal

opening_counts : (kept : Durable) (opening : ℕ) → (played_one kept (Opening opening)).counters ≡ kept.counters
unfolding played_one
opening_counts kept opening = refl

pub open-requires : goal.open-requires
open-requires c =
    let types : ℕ = length c.args.schema.now.types in
    let none : c.apply.new.self.kept.counters ≡ replicate types 0 = ap (λ (kept : Durable). kept.counters) c.apply.ensures.kept ∙ opening_counts c.reserve.new.self.kept 1 ∙ ap (λ (kept : Durable). kept.counters) (c.reserve.ensures.kept ∙ c.in_ok-features.ensures.kept) in
    All-same (λ (n : ℕ). n ≤ most_number) c.apply.new.self.kept.counters (replicate types 0) none (All-replicate (λ (n : ℕ). n ≤ most_number) types 0 (omega arith))

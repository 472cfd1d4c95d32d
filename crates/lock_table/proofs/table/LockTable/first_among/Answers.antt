use Rattle.std.proofs.Common.{refl, arith, get_or, Some, None, ◌≡◌, true, false}
use Rattle.std.specs.Prelude.{is_some}
use Rattle.feature_values.specs.declared.feature.Rid.{Rid}
use Rattle.lock_table.specs.Held.{held_one, holder}
use Rattle.lock_table.proofs.Turns.{passed, found, none_found, held_at, held_off}
use Rattle.lock_table.proofs.table.LockTable.first_among.Goals as goal

pub returns-then-is_some : goal.returns-then-is_some
returns-then-is_some c =
    let zero : Rid = record { kind = 0; number = 0 } in
    let feature : Rid = get_or c.args.features.now c.loop-feature.feature-index zero in
    let some : is_some (holder c.args.self.now.locks c.args.moment feature) ≡ true = cc in
    found (held_one c.args.self.now.locks c.args.moment) c.args.features.now c.loop-feature.feature-index _ feature zero (Some feature) (omega arith) refl (held_at c.args.self.now.locks c.args.moment feature some) refl c.loop-feature.invariant

pub loop-feature-preserved : goal.loop-feature-preserved
loop-feature-preserved c =
    let zero : Rid = record { kind = 0; number = 0 } in
    let feature : Rid = get_or c.args.features.now c.loop-feature.feature-index zero in
    let none : is_some (holder c.args.self.now.locks c.args.moment feature) ≡ false = cc in
    passed (held_one c.args.self.now.locks c.args.moment) c.args.features.now c.loop-feature.feature-index _ feature zero None (omega arith) refl (held_off c.args.self.now.locks c.args.moment feature none) refl c.loop-feature.invariant

pub returns : goal.returns
returns c = none_found (held_one c.args.self.now.locks c.args.moment) c.args.features.now c.loop-feature.feature-index _ (omega arith) c.loop-feature.invariant

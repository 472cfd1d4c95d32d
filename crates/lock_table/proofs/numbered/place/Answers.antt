use Rattle.std.proofs.Common.{rules}
use Rattle.std.proofs.lemmas.List.Sorted.{answers_always}
use Rattle.lock_table.proofs.Place.{placed}
use Rattle.lock_table.proofs.numbered.place.Goals as goal

-- the closure gives a lock's number
pub returns : goal.returns
returns c =
    let facts = c.binary_search_by_key.ensures in
    rw c.ok.ensures.value (placed c.args.number c.args.locks.now c.requires _ facts.bound (facts.position (λ lock. lock.number) (answers_always _ _ _ (λ f a r g called. search rules))))

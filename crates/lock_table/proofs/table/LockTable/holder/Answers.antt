use Rattle.std.proofs.Common.{◌≤◌, ◌∙◌, ap, sym, subst}
use Rattle.lock_table.specs.Lock.{Locks}
use Rattle.lock_table.specs.Held.{HaveOneHolder, AreNumbered, holder}
use Rattle.lock_table.specs.Kept.{number_at}
use Rattle.lock_table.proofs.OneHolder.{holder_is, one_holder, numbered}
use Rattle.lock_table.proofs.Seen.{holder_seen}
use Rattle.lock_table.proofs.table.LockTable.holder.Goals as goal

pub holder-requires : goal.holder-requires
holder-requires c = rw c.as_slice.ensures.value c.self.invariant.0.rising

pub returns-clause-value : goal.returns-clause-value
returns-clause-value c =
    let t = c.self.inside in
    let le = subst (λ (s : Locks). s.last ≤ c.args.moment) (sym c.self.view_is) c.requires in
    c.holder.ensures ∙ rw c.as_slice.ensures.value (holder_is t.last c.args.moment (number_at t.holders.numbers) c.args.feature t.locks.items le c.self.invariant.0.held ∙ sym (holder_seen t.last c.args.moment c.args.feature t.locks.items le) ∙ ap (λ (s : Locks). holder s.locks c.args.moment c.args.feature) c.self.view_is)

pub returns-clause-one : goal.returns-clause-one
returns-clause-one c = let t = c.self.inside in subst (λ (s : Locks). HaveOneHolder s.locks) c.self.view_is (one_holder t.last t.given (number_at t.holders.numbers) t.locks.items c.self.invariant.0)

pub returns-clause-numbers : goal.returns-clause-numbers
returns-clause-numbers c = let t = c.self.inside in subst (λ (s : Locks). AreNumbered s.given s.locks) c.self.view_is (numbered t.last t.given (number_at t.holders.numbers) t.locks.items c.self.invariant.0)

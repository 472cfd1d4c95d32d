-- Which limits are passed between a state and the one that a plan leaves, by what is told of the plan.
use Rattle.std.proofs.Common.{◌≡◌, ℕ, ◌+◌, ◌≤◌, Bool, true, false, cond, List, [], ◌∷◌, length, Option, Some, None, refl, sym, ap, ◌∙◌, arith}
use Rattle.std.specs.Prelude.{nat_lt, if◌then◌else◌}
use Rattle.std.specs.Option.{option_or}
use Rattle.lock_table.specs.Held.{first_of, live, AreNumbered}
use Rattle.lock_table.specs.Lock.{Lock}
use Rattle.lock_table.specs.Steps.{granted, renewed, released}
use Rattle.request_plans.specs.declared.plan.LockWork.{LockWork}
use Rattle.request_plans.specs.declared.plan.LockWork.TheVariants.{Nothing, Grant, Renew, Release}
use Rattle.request_plans.specs.Carried.{locks_after, given_after, IsDoable}
use Rattle.service_state.specs.Passed.{passed_between, locks_passed}
use Rattle.service_state.proofs.Alive.{granted_alive, renewed_alive, released_alive, granted_numbered, renewed_numbered, released_numbered}
use Rattle.service_state.proofs.Playing.{no_more_passes}
use Rattle.wfs_model.specs.declared.limits.FullAt.{FullAt}
use Rattle.wfs_model.specs.declared.limits.LimitName.TheVariants.{Features, Ids, Locks, Stored}
use Rattle.wfs_model.specs.declared.limits.Limits.{Limits}
use Rattle.wfs_model.specs.Full.{at_limit, first_passed, passes, some_passes}
use Rattle.wfs_model.specs.State.{State}

-- ---- locks

granted_passes : (limit alive now : ℕ) (b : Bool) → now ≡ alive + cond b 1 0 → passes limit alive now ≡ passes limit alive (if b then alive + 1 else alive)
granted_passes limit alive now true is = ap (passes limit alive) is
granted_passes limit alive now false is = ap (passes limit alive) (let same : now ≡ alive = omega (arith, is) in same)

fewer_passes : (limit alive now : ℕ) → now ≤ alive → passes limit alive now ≡ passes limit alive alive
fewer_passes limit alive now le = no_more_passes limit alive now le ∙ sym (no_more_passes limit alive alive (omega arith))

pub locks_now : (work : LockWork) (limit given moment : ℕ) (locks : List Lock) → AreNumbered given locks → IsDoable work given moment locks
    → passes limit (length (live moment locks)) (length (live moment (locks_after work given moment locks))) ≡ locks_passed work limit (length (live moment locks))
unfolding locks_after
locks_now Nothing limit given moment locks are can = refl
locks_now (Grant features period) limit given moment locks are can =
    granted_passes limit (length (live moment locks)) (length (live moment (granted moment given features period locks))) (nat_lt 0 period) (granted_alive moment given period features locks)
locks_now (Renew number period) limit given moment locks are can =
    fewer_passes limit (length (live moment locks)) (length (live moment (renewed moment number period locks))) (renewed_alive moment number period locks are.rising can)
locks_now (Release number touched how) limit given moment locks are can =
    fewer_passes limit (length (live moment locks)) (length (live moment (released moment number touched how locks))) (released_alive moment number touched how locks are.rising can)

-- the numbers of locks rise after work too
pub numbered_after : (work : LockWork) (given moment : ℕ) (locks : List Lock) → AreNumbered given locks → AreNumbered (given_after work given) (locks_after work given moment locks)
unfolding locks_after
numbered_after Nothing given moment locks are = are
numbered_after (Grant features period) given moment locks are = granted_numbered moment given period features locks are
numbered_after (Renew number period) given moment locks are = renewed_numbered moment given number period locks are
numbered_after (Release number touched how) given moment locks are = released_numbered moment given number touched how locks are

-- ---- all of them

in_turn : (a b c d : Option FullAt) → option_or (option_or (option_or a b) c) d ≡ first_of (λ passed. passed) (None ∷ None ∷ a ∷ b ∷ c ∷ d ∷ None ∷ [])
unfolding first_of
in_turn (Some at) b c d = refl
in_turn None (Some at) c d = refl
in_turn None None (Some at) d = refl
in_turn None None None (Some at) = refl
in_turn None None None None = refl

pub passed_is : (limits : Limits) (moment : ℕ) (before after : State) (features ids locks stored : Option ℕ)
    → features ≡ passes limits.features (length before.features) (length after.features)
    → ids ≡ some_passes limits.ids before.counters after.counters
    → locks ≡ passes limits.locks (length (live moment before.locks)) (length (live moment after.locks))
    → stored ≡ passes limits.stored (length before.stored) (length after.stored)
    → option_or (option_or (option_or (at_limit Features features) (at_limit Ids ids)) (at_limit Locks locks)) (at_limit Stored stored) ≡ passed_between limits moment before after
unfolding first_passed
passed_is limits moment before after features ids locks stored f i l s =
    rw (f, i, l, s) (in_turn (at_limit Features (passes limits.features (length before.features) (length after.features))) (at_limit Ids (some_passes limits.ids before.counters after.counters))
    (at_limit Locks (passes limits.locks (length (live moment before.locks)) (length (live moment after.locks)))) (at_limit Stored (passes limits.stored (length before.stored) (length after.stored))))

ids_none : (rest : Option FullAt) (a : Option FullAt) (b : Option ℕ) → option_or a (option_or (at_limit Ids b) rest) ≡ None → b ≡ None
ids_none rest (Some at) b is = absurd (let bad = is in cc)
ids_none rest None (Some number) is = absurd (let bad = is in cc)
ids_none rest None None is = refl

-- where no limit is passed, that of numbers given is not
pub ids_stay : (limits : Limits) (moment : ℕ) (before after : State) → passed_between limits moment before after ≡ None → some_passes limits.ids before.counters after.counters ≡ None
unfolding first_passed first_of
ids_stay limits moment before after none =
    ids_none _ (at_limit Features (passes limits.features (length before.features) (length after.features))) (some_passes limits.ids before.counters after.counters) none

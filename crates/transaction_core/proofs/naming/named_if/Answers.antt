use Rattle.std.proofs.Common.{ℕ, Option, Some, Result, Ok, Err, subst, sym, ap, ◌∙◌}
use Rattle.wfs_ends.specs.Read.{◌>>=◌}
use Rattle.wfs_model.specs.declared.reply.Refusal.{Refusal}
use Rattle.wfs_model.specs.Locking.{number_by}
use Rattle.transaction_core.specs.declared.fault.PlanFault.{PlanFault}
use Rattle.transaction_core.specs.Plan.{Answers, with_these}
use Rattle.transaction_core.proofs.Refused.{names, stays_refused}
use Rattle.transaction_core.proofs.naming.named_if.Goals as goal

pub returns-in-Ok : goal.returns-in-Ok
returns-in-Ok c = λ state features counters.
    rw c.in-Some.is
    (names (with_these state features counters c.args.locks.now) c.args.moment c.in-Some.id c.status.result c.status.ensures
    ∙ ap (λ (r : Result ℕ Refusal). r >>= λ number. let s : Result (Option ℕ) Refusal = Ok (Some number) in s) c.in-Ok.ensures)

pub returns-in-Err : goal.returns-in-Err
returns-in-Err c = λ state features counters.
    rw c.in-Some.is
    (subst (λ (said : Result (Option ℕ) Refusal). let r : Result (Option ℕ) PlanFault = Err c.in-Err.fault in Answers r said)
    (sym (names (with_these state features counters c.args.locks.now) c.args.moment c.in-Some.id c.status.result c.status.ensures))
    (stays_refused c.in-Err.fault (number_by c.in-Some.id c.status.result) (λ number. Ok (Some number)) c.in-Err.ensures))

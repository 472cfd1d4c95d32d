use Rattle.std.proofs.Common.{Result, ap, ◌∙◌, subst, ℕ}
use Rattle.wfs_model.specs.declared.reply.Refusal.{Refusal}
use Rattle.transaction_core.specs.Plan.{Answers}
use Rattle.wfs_machine.proofs.Telling.{named_is}
use Rattle.wfs_machine.proofs.plain.Plain.named.Goals as goal

pub returns : goal.returns
returns c =
    let table = c.self.inside.locks in
    subst (λ (said : Result ℕ Refusal). Answers c.number_by.result said)
    (named_is c.args.self.now.state c.args.moment c.args.id table c.status.result
    (c.self.invariant.opening ∙ ap (λ m. m.state.opening) c.self.view_is) (ap (λ m. m.state.locks) c.self.view_is) (c.self.invariant.given ∙ ap (λ m. m.state.given) c.self.view_is) c.status.ensures)
    c.number_by.ensures

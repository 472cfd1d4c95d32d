use Rattle.std.proofs.Common.{◌≡◌, ◌⊎◌, ⊎_elim, inl, inr, ◌∙◌, subst, sym}
use Rattle.left_right.specs.Log.{InStep}
use Rattle.snapshot_reads.specs.declared.shown.Shown.{Shown}
use Rattle.snapshot_reads.proofs.Showing.{applied, in_step_renewed}
use Rattle.snapshot_reads.proofs.steps.let_go.Goals as goal

pub invariant_of-writer : goal.invariant_of-writer
invariant_of-writer g c =
    let w = c.args.writer in
    let values = c.open-open.ensures.values in
    let shown : c.shelve.result.shown.value ≡ w.desk.shown.value = λ i. ((c.shelve.ensures.0 ∙ values.0) i).value in
    let now = c.renew.new.spare in
    let is : (now ≡ w.desk.shown.value) ⊎ (now ≡ w.desk.spare.value) = ⊎_elim
    (λ same. inl (same ∙ (c.get.ensures ∙ (λ i. (values.0 i).value))))
    (λ same. inr (same ∙ (c.deref_mut.ensures.value ∙ values.1)))
    c.renew.ensures in
    let kept : ∥ InStep applied w.desk.shown.value now w.log.items w.behind w.ahead ∥₁ = in_step_renewed w.desk.shown.value w.desk.spare.value now w.log.items w.behind w.ahead c.requires.none is w.in_step in
    record { in_step = subst (λ (z : Shown × Shown). ∥ InStep applied z.0 z.1 w.log.items w.behind w.ahead ∥₁) (λ i. (sym shown i, sym c.shelve.ensures.1 i)) kept }

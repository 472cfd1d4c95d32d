use Rattle.std.proofs.Common.{ap, sym, ◌∙◌, subst}
use Rattle.wfs_model.specs.Step.{lock_taken}
use Rattle.wfs_machine.specs.Told.{AreFree, IsSaid, division_of}
use Rattle.wfs_machine.proofs.Telling.{said_on, divided_on}
use Rattle.wfs_machine.proofs.Takings.{taken_is, taken_by, lock_done, taken_is_free, lock_settles}
use Rattle.wfs_machine.proofs.plain.Plain.lock.Goals as goal

pub returns-in-Err : goal.returns-in-Err
returns-in-Err c =
    c.fail.ensures (lock_taken c.args.self.now.schema c.args.self.now.state c.args.moment c.args.asked.now c.args.take c.args.period)
    (subst (IsSaid c.in-Err.fault) (sym (taken_is c.args.self.now.schema c.args.self.now.state c.args.moment c.args.asked.now c.args.take c.args.period)) (said_on c.in-Err.fault _ _ c.in-Err.ensures))

pub returns-in-Err-divide : goal.returns-in-Err-divide
returns-in-Err-divide c =
    let said = rw (ap (λ m. m.schema) c.self.view_is, ap (λ m. m.state.locks) c.self.view_is) at c.in-Err-divide.ensures in
    c.fail-in-Err-divide.ensures (lock_taken c.args.self.now.schema c.args.self.now.state c.args.moment c.args.asked.now c.args.take c.args.period)
    (subst (IsSaid c.in-Err-divide.fault) (sym (taken_by c.args.self.now.schema c.args.self.now.state c.args.moment c.args.asked.now c.args.take c.args.period c.in-Ok.ids c.in-Ok.ensures)) (divided_on c.in-Err-divide.fault _ (lock_done c.args.self.now.state c.args.moment c.args.period) said))

pub take_lock-requires-clause-free : goal.take_lock-requires-clause-free
take_lock-requires-clause-free c =
    let is = rw (ap (λ m. m.schema) c.self.view_is, ap (λ m. m.state.locks) c.self.view_is) at c.in-Ok-divide.ensures in
    subst (AreFree c.args.self.now.state.locks c.args.moment) (sym (c.in_ok-taken.ensures ∙ c.items.ensures))
    (taken_is_free c.args.self.now.schema c.args.self.now.state.locks c.args.moment c.args.take c.in-Ok.ids (division_of c.in-Ok-divide.division) is)

pub returns : goal.returns
returns c =
    let is = rw (ap (λ m. m.schema) c.self.view_is, ap (λ m. m.state.locks) c.self.view_is) at c.in-Ok-divide.ensures in
    let taken = c.in_ok-taken.ensures ∙ c.items.ensures in
    lock_settles c.args.self.now c.take_lock.new.self c.args.moment c.args.asked.now c.args.take c.args.period c.in-Ok.ids (division_of c.in-Ok-divide.division) c.in_ok-lock.lock c.in-Ok.ensures is
    (rw taken at c.in_ok-lock.ensures.lock) (rw taken at c.in_ok-lock.ensures.state) c.in_ok-lock.ensures.schema

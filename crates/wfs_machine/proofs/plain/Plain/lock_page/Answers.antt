use Rattle.std.proofs.Common.{length, ap, sym, ◌∙◌, subst}
use Rattle.query_core.specs.Paging.{page_of}
use Rattle.query_core.specs.Selecting.{held}
use Rattle.wfs_model.specs.Step.{page_locked}
use Rattle.wfs_machine.specs.Told.{IsSaid, division_of}
use Rattle.wfs_machine.proofs.Telling.{said_on, divided_on}
use Rattle.wfs_machine.proofs.Takings.{page_is, page_by, page_done, taken_is_free, page_settles}
use Rattle.wfs_machine.proofs.plain.Plain.lock_page.Goals as goal

pub returns-in-Err : goal.returns-in-Err
returns-in-Err c =
    c.fail.ensures (page_locked c.args.self.now.schema c.args.self.now.state c.args.moment c.args.present.now c.args.asked.now c.args.take c.args.period)
    (subst (IsSaid c.in-Err.fault) (sym (page_is c.args.self.now.schema c.args.self.now.state c.args.moment c.args.present.now c.args.asked.now c.args.take c.args.period)) (said_on c.in-Err.fault _ _ c.in-Err.ensures))

pub returns-in-Err-divide : goal.returns-in-Err-divide
returns-in-Err-divide c =
    let shown = c.in_ok-shown.ensures ∙ c.page.ensures ∙ ap (page_of c.args.present.now.start c.args.present.now.count) c.items-2.ensures in
    let said = rw (ap (λ m. m.schema) c.self.view_is, ap (λ m. m.state.locks) c.self.view_is, shown) at c.in-Err-divide.ensures in
    c.fail-in-Err-divide.ensures (page_locked c.args.self.now.schema c.args.self.now.state c.args.moment c.args.present.now c.args.asked.now c.args.take c.args.period)
    (subst (IsSaid c.in-Err-divide.fault) (sym (page_by c.args.self.now.schema c.args.self.now.state c.args.moment c.args.present.now c.args.asked.now c.args.take c.args.period c.in-Ok.ids c.in-Ok.ensures)) (divided_on c.in-Err-divide.fault _ (page_done c.args.self.now.state c.args.moment c.args.period c.in-Ok.ids) said))

pub take_lock-requires-clause-free : goal.take_lock-requires-clause-free
take_lock-requires-clause-free c =
    let is = rw (ap (λ m. m.schema) c.self.view_is, ap (λ m. m.state.locks) c.self.view_is) at c.in-Ok-divide.ensures in
    taken_is_free c.args.self.now.schema c.args.self.now.state.locks c.args.moment c.args.take c.in_ok-shown.shown (division_of c.in-Ok-divide.division) is

pub returns : goal.returns
returns c =
    let shown = c.in_ok-shown.ensures ∙ c.page.ensures ∙ ap (page_of c.args.present.now.start c.args.present.now.count) c.items-2.ensures in
    let is = rw (ap (λ m. m.schema) c.self.view_is, ap (λ m. m.state.locks) c.self.view_is, shown) at c.in-Ok-divide.ensures in
    page_settles c.args.self.now c.take_lock.new.self c.args.moment c.args.present.now c.args.asked.now c.args.take c.args.period c.in-Ok.ids (division_of c.in-Ok-divide.division) c.in_ok-lock.lock c.in_ok-features.features (length c.items.result.now) c.in-Ok.ensures is c.in_ok-lock.ensures.lock
    (c.in_ok-features.ensures ∙ ap (held c.args.self.now.state.features) c.items-3.ensures) (ap length c.items.ensures) c.in_ok-lock.ensures.state c.in_ok-lock.ensures.schema

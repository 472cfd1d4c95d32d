use Rattle.wfsd_program.specs.Serving.{opened, unheard}
use Rattle.wfsd_program.proofs.Filling.{as_many, for_these, ready}
use Rattle.wfsd_program.proofs.serving.open_doors.Goals as goal

pub fill-slots-requires : goal.fill-slots-requires
fill-slots-requires g c = for_these g.A.Acceptor.accepting g.C.Clock.moments _ _ _ _ c.in-Ok.ensures.opens.number c.requires.places

pub serve_links-requires-clause-some : goal.serve_links-requires-clause-some
serve_links-requires-clause-some g c = λ _ _. rw (as_many g.A.Acceptor.accepting g.C.Clock.moments _ _ _ c.fill-slots.ensures.acceptors c.in-Ok.ensures.opens.number) c.requires.workers.some

pub serve_links-requires-clause-most : goal.serve_links-requires-clause-most
serve_links-requires-clause-most g c = λ _ _. rw (as_many g.A.Acceptor.accepting g.C.Clock.moments _ _ _ c.fill-slots.ensures.acceptors c.in-Ok.ensures.opens.number) c.requires.workers.most

pub returns-in-Ok-clause-serves : goal.returns-in-Ok-clause-serves
returns-in-Ok-clause-serves g c =
    opened c.fill-slots.result.items
    (ready g.A.Acceptor.accepting g.C.Clock.moments _ _ _ _ _ _ _ c.as_str.ensures.value c.in-Ok.ensures.opens c.fill-slots.ensures.acceptors c.fill-slots.ensures.twins)
    c.serve_links.ensures.serves

pub returns-in-Err-clause-serves : goal.returns-in-Err-clause-serves
returns-in-Err-clause-serves g c = unheard (record { fault = c.in-Err.fault; refuses = c.in-Err.ensures.err; leaves = rw (c.say_unheard.ensures.status, c.new.ensures.items) at c.leave_standing.ensures.leaves; says = c.say_unheard.ensures.says })

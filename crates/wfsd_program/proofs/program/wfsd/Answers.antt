use Rattle.std.proofs.Common.{refl}
use Rattle.wfs_words.specs.declared.command.Command.TheVariants as command
use Rattle.wfsd_commands.proofs.Asked.{ask_for}
use Rattle.wfsd_program.specs.Runs.{talks, checks, compacts, drills, serves}
use Rattle.wfsd_program.proofs.Ranges.{has_workers}
use Rattle.wfsd_program.proofs.Standing.{as_done, left_alone, none_there}
use Rattle.wfsd_program.proofs.program.wfsd.Goals as goal

pub serve-requires-clause-workers : goal.serve-requires-clause-workers
serve-requires-clause-workers g c = λ _ _.
    has_workers _ (record { listen = c.in-Ok-Serve.listen; workers = c.in-Ok-Serve.workers; connections = c.in-Ok-Serve.connections })
    (ask_for _ (command.Serve c.in-Ok-Serve.listen c.in-Ok-Serve.workers c.in-Ok-Serve.connections) (rw c.in-Ok-Serve.field-0-is at c.in-Ok-Serve.ensures.command))

pub returns-in-Ok-Serve-clause-runs : goal.returns-in-Ok-Serve-clause-runs
returns-in-Ok-Serve-clause-runs g c =
    serves (record { listen = c.in-Ok-Serve.listen; workers = c.in-Ok-Serve.workers; connections = c.in-Ok-Serve.connections })
    (ask_for _ (command.Serve c.in-Ok-Serve.listen c.in-Ok-Serve.workers c.in-Ok-Serve.connections) (rw c.in-Ok-Serve.field-0-is at c.in-Ok-Serve.ensures.command))
    c.serve.ensures.serves (record { input = refl; clock = refl })

pub returns-in-Ok-Talk-clause-runs : goal.returns-in-Ok-Talk-clause-runs
returns-in-Ok-Talk-clause-runs g c =
    talks (ask_for _ (command.Talk) (rw c.in-Ok-Talk.field-0-is at c.in-Ok-Talk.ensures.command)) (rw c.without_workers.ensures.done c.talk.ensures.talks)
    (record { doors = record { nobody = c.without_workers.ensures.nobody; doors = refl }; left = as_done _ c.without_workers.result _ c.without_workers.ensures.done c.talk.ensures.left })

pub returns-in-Ok-Check-clause-runs : goal.returns-in-Ok-Check-clause-runs
returns-in-Ok-Check-clause-runs g c =
    checks (ask_for _ (command.Check) (rw c.in-Ok-Check.field-0-is at c.in-Ok-Check.ensures.command)) (rw c.without_workers-in-Ok-Check.ensures.done c.check_store.ensures.checks) (record { input = refl; clock = refl })
    (record { doors = record { nobody = c.without_workers-in-Ok-Check.ensures.nobody; doors = refl }; left = none_there _ c.without_workers-in-Ok-Check.result _ c.without_workers-in-Ok-Check.ensures.done c.check_store.ensures.none })

pub returns-in-Ok-Compact-clause-runs : goal.returns-in-Ok-Compact-clause-runs
returns-in-Ok-Compact-clause-runs g c =
    compacts (ask_for _ (command.Compact) (rw c.in-Ok-Compact.field-0-is at c.in-Ok-Compact.ensures.command)) (rw c.without_workers-in-Ok-Compact.ensures.done c.compact_store.ensures.compacts) (record { input = refl; clock = refl })
    (record { doors = record { nobody = c.without_workers-in-Ok-Compact.ensures.nobody; doors = refl }; left = as_done _ c.without_workers-in-Ok-Compact.result _ c.without_workers-in-Ok-Compact.ensures.done c.compact_store.ensures.left })

pub returns-in-Ok-Drill-clause-runs : goal.returns-in-Ok-Drill-clause-runs
returns-in-Ok-Drill-clause-runs g c =
    drills c.in-Ok-Drill.rounds (ask_for _ (command.Drill c.in-Ok-Drill.rounds) (rw c.in-Ok-Drill.field-0-is at c.in-Ok-Drill.ensures.command)) (rw c.without_workers-in-Ok-Drill.ensures.done c.drill_rounds.ensures.drills) (record { input = refl; clock = refl })
    (record { doors = record { nobody = c.without_workers-in-Ok-Drill.ensures.nobody; doors = refl }; left = as_done _ c.without_workers-in-Ok-Drill.result _ c.without_workers-in-Ok-Drill.ensures.done c.drill_rounds.ensures.left })

pub returns-in-Ok-Drill-clause-left : goal.returns-in-Ok-Drill-clause-left
returns-in-Ok-Drill-clause-left g c =
    left_alone g.D.Disk c.args.disks _ (as_done _ c.without_workers-in-Ok-Drill.result _ c.without_workers-in-Ok-Drill.ensures.done c.drill_rounds.ensures.left)

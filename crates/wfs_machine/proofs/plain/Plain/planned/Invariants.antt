use Rattle.wfs_machine.proofs.plain.Plain.planned.Given as goal

abbrev pub ghosts-planned_under : goal.ghosts-planned_under
ghosts-planned_under a = record { name = a.blank.name; parts = a.blank.parts }

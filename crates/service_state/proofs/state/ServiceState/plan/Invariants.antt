use Rattle.service_state.proofs.state.ServiceState.plan.Given as goal

abbrev pub ghosts-plan_under : goal.ghosts-plan_under
ghosts-plan_under a = record { name = a.blank.name; parts = a.blank.parts }

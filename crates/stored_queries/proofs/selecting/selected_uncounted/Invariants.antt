use Rattle.stored_queries.proofs.selecting.selected_uncounted.Given as goal

abbrev pub ghosts-selected_under : goal.ghosts-selected_under
ghosts-selected_under g a = record { name = a.blank.name; parts = a.blank.parts }

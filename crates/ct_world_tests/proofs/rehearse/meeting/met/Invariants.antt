use Rattle.ct_world_tests.proofs.rehearse.meeting.met.Given as goal

abbrev pub ghosts-met_in : goal.ghosts-met_in
ghosts-met_in g a = record { name = a.blank.name; parts = a.blank.parts }

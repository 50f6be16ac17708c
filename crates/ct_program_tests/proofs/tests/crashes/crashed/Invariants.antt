use Rattle.ct_program_tests.proofs.tests.crashes.crashed.Given as goal

abbrev pub ghosts-played_in : goal.ghosts-played_in
ghosts-played_in a = record { name = a.blank.name; parts = a.blank.parts }

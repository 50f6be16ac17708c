use Rattle.ct_world_tests.proofs.rehearse.runs.a_turn_asks_its_detector_once.Given as goal

abbrev pub ghosts-asking : goal.ghosts-asking
ghosts-asking g a = record { name = a.blank.name; parts = a.blank.parts }

use Rattle.ct_world_tests.proofs.rehearse.runs.one_member_delivers.Given as goal

abbrev pub ghosts-one_member : goal.ghosts-one_member
ghosts-one_member g a = record { name = a.blank.name; parts = a.blank.parts }

use Rattle.ct_rehearse.proofs.rehearsing.rehearse.Given as goal

abbrev pub ghosts-rehearse_in : goal.ghosts-rehearse_in
ghosts-rehearse_in g a = record { name = a.blank.name; parts = a.blank.parts }

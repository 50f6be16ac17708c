use Rattle.ct_growths.proofs.main.Given as goal

-- the shares of the hall are those of the blank's ledger
abbrev pub ghosts-tried : goal.ghosts-tried
ghosts-tried g a = record { name = a.blank.name; parts = a.blank.parts }

use Rattle.lab_data.proofs.lab.work_on.Given as goal

abbrev pub ghosts-work_sized : goal.ghosts-work_sized
ghosts-work_sized g a = record { n = a.machine.n; cap = a.machine.cap }

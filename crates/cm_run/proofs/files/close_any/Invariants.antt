use Rattle.cm_run.proofs.files.close_any.Given as goal

abbrev pub ghosts-close_sized : goal.ghosts-close_sized
ghosts-close_sized g a = record { n = a.machine.n; cap = a.machine.cap }

use Rattle.cm_sizes.proofs.opening.open_behind.Given as goal

abbrev pub ghosts-machine_behind : goal.ghosts-machine_behind
ghosts-machine_behind g a = record { n = a.n; cap = a.cap }

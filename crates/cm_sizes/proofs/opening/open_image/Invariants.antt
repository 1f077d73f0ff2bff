use Rattle.cm_sizes.proofs.opening.open_image.Given as goal

abbrev pub ghosts-machine_of : goal.ghosts-machine_of
ghosts-machine_of a = record { n = a.n; cap = a.cap }

use Rattle.lab_front.proofs.images.front_any.Given as goal

abbrev pub ghosts-front_sized : goal.ghosts-front_sized
ghosts-front_sized g a = record { n = a.machine.n; cap = a.machine.cap }

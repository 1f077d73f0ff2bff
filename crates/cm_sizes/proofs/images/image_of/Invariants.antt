use Rattle.cm_sizes.proofs.images.image_of.Given as goal

abbrev pub ghosts-sized_image : goal.ghosts-sized_image
ghosts-sized_image a = record { n = a.machine.n; cap = a.machine.cap }

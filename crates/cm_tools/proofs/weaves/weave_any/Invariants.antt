use Rattle.cm_tools.proofs.weaves.weave_any.Given as goal

abbrev pub ghosts-weave_sized : goal.ghosts-weave_sized
ghosts-weave_sized g a = record { n = a.machine.n; cap = a.machine.cap }

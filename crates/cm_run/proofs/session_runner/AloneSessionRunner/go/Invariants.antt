use Rattle.cm_run.proofs.session_runner.AloneSessionRunner.go.Given as goal

abbrev pub ghosts-go_alone : goal.ghosts-go_alone
ghosts-go_alone g a = record { n = a.machine.n; cap = a.machine.cap }

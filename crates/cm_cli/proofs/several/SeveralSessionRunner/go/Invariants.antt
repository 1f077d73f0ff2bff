use Rattle.cm_cli.proofs.several.SeveralSessionRunner.go.Given as goal

abbrev pub ghosts-go_by_workers : goal.ghosts-go_by_workers
ghosts-go_by_workers g a = record { n = a.machine.n; cap = a.machine.cap }

use Rattle.test_mutants_lab.proofs.loads.table.Goals as goal

pub returns : goal.returns
returns c = search

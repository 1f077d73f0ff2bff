use Rattle.test_mutants_lab.proofs.blanks.fresh.Goals as goal

pub returns-clause-value : goal.returns-clause-value
returns-clause-value c = search

pub returns-clause-refused : goal.returns-clause-refused
returns-clause-refused c = search

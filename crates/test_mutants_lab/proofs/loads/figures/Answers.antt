use Rattle.test_mutants_lab.proofs.loads.figures.Goals as goal

pub returns-clause-value : goal.returns-clause-value
returns-clause-value c = search

pub returns-clause-accepted : goal.returns-clause-accepted
returns-clause-accepted c = search

pub returns-clause-refused : goal.returns-clause-refused
returns-clause-refused c = search

pub returns-clause-trial : goal.returns-clause-trial
returns-clause-trial c = search

use Rattle.test_mutants_lab.proofs.studies.study.Goals as goal

pub returns-clause-value : goal.returns-clause-value
returns-clause-value g c = search

pub returns-clause-refused : goal.returns-clause-refused
returns-clause-refused g c = search

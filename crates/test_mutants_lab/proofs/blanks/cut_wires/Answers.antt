use Rattle.test_mutants_lab.proofs.blanks.cut_wires.Goals as goal

pub returns-clause-value : goal.returns-clause-value
returns-clause-value c = search

pub returns-clause-refused : goal.returns-clause-refused
returns-clause-refused c = search

pub returns-clause-count : goal.returns-clause-count
returns-clause-count c = search

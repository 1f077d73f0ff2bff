use Rattle.test_mutants_lab.proofs.loads.fault.Goals as goal

pub returns-clause-value : goal.returns-clause-value
returns-clause-value c = search

pub returns-clause-sizes : goal.returns-clause-sizes
returns-clause-sizes c = search

pub returns-clause-wires : goal.returns-clause-wires
returns-clause-wires c = search

pub returns-clause-few : goal.returns-clause-few
returns-clause-few c = search

pub returns-clause-skip : goal.returns-clause-skip
returns-clause-skip c = search

pub returns-clause-seeds : goal.returns-clause-seeds
returns-clause-seeds c = search

use Rattle.test_mutants_lab.proofs.fronts.front.Goals as goal

pub returns-clause-ends : goal.returns-clause-ends
returns-clause-ends g c = search

pub returns-clause-end : goal.returns-clause-end
returns-clause-end g c = search

pub returns-clause-read : goal.returns-clause-read
returns-clause-read g c = search

pub returns-clause-write : goal.returns-clause-write
returns-clause-write g c = search

pub returns-clause-threads : goal.returns-clause-threads
returns-clause-threads g c = search

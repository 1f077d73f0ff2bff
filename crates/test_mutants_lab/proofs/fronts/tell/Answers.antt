use Rattle.test_mutants_lab.proofs.fronts.tell.Goals as goal

pub returns-clause-answer : goal.returns-clause-answer
returns-clause-answer g c = search

pub returns-clause-front : goal.returns-clause-front
returns-clause-front g c = search

pub returns-clause-err : goal.returns-clause-err
returns-clause-err g c = search

pub returns-clause-thread : goal.returns-clause-thread
returns-clause-thread g c = search

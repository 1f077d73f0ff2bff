use Rattle.test_mutants_texts.proofs.figures.read_picture.Goals as goal

pub returns-clause-value : goal.returns-clause-value
returns-clause-value c = search

pub returns-clause-count : goal.returns-clause-count
returns-clause-count c = search

pub returns-clause-within : goal.returns-clause-within
returns-clause-within c = search

pub returns-clause-refused : goal.returns-clause-refused
returns-clause-refused c = search

use Rattle.test_mutants_lab.proofs.words.read_words.Goals as goal

pub returns-clause-once : goal.returns-clause-once
returns-clause-once c = search

pub returns-clause-value : goal.returns-clause-value
returns-clause-value c = search

pub returns-clause-refused : goal.returns-clause-refused
returns-clause-refused c = search

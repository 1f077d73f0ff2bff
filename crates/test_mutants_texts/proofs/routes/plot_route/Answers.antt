use Rattle.test_mutants_texts.proofs.routes.plot_route.Goals as goal

pub returns-clause-value : goal.returns-clause-value
returns-clause-value c = search

pub returns-clause-refused : goal.returns-clause-refused
returns-clause-refused c = search

use Rattle.test_mutants_texts.proofs.figures.write_picture.Goals as goal

pub returns : goal.returns
returns c = search

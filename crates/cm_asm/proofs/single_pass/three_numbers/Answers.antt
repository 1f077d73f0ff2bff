use Rattle.cm_asm.proofs.single_pass.three_numbers.Goals as goal

pub returns : goal.returns
returns c = record {
  after_first = c.in_ok-first.first.rest.now;
  after_second = c.in_ok-second.second.rest.now;
  one = c.in_ok-first.ensures;
  two = c.in_ok-second.ensures;
  three = c.in_ok-third.ensures;
}

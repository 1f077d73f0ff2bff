use Rattle.std.proofs.Common.{arith, rules}
use Rattle.std.proofs.lemmas.Grind.{common_steps}
use Rattle.cm_bits.proofs.TextLemmas.{lines_of-before_end, lines_of-last}
use Rattle.cm_bits.proofs.text.LinesIterator.next.Goals as goal

pub returns-then-end-rest-clause-steps : goal.returns-then-end-rest-clause-steps
returns-then-end-rest-clause-steps c =
    lines_of-before_end c.args.self.now.rest.now c.find-end.result c.find-end.ensures.place (omega arith)

pub returns-then-end-rest-clause-goes : goal.returns-then-end-rest-clause-goes
returns-then-end-rest-clause-goes c =
    let step = lines_of-before_end c.args.self.now.rest.now c.find-end.result c.find-end.ensures.place (omega arith) in
    search (rules, arith)

pub returns-else-end-rest-clause-steps : goal.returns-else-end-rest-clause-steps
returns-else-end-rest-clause-steps c = lines_of-last c.args.self.now.rest.now c.find-end.result c.find-end.ensures.place
    c.if-end-rest.false (grind (arith, common_steps))

pub returns-else-end-rest-clause-goes : goal.returns-else-end-rest-clause-goes
returns-else-end-rest-clause-goes c =
    let step = lines_of-last c.args.self.now.rest.now c.find-end.result c.find-end.ensures.place c.if-end-rest.false
    (grind (arith, common_steps)) in
    search (rules, arith)

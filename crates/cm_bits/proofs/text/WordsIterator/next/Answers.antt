use Rattle.std.proofs.Common.{arith, rules}
use Rattle.cm_bits.proofs.TextLemmas.{words_in-after_blanks, words_in-all_blank}
use Rattle.cm_bits.proofs.text.WordsIterator.next.Goals as goal

pub returns-then-end-gt0-clause-steps : goal.returns-then-end-gt0-clause-steps
returns-then-end-gt0-clause-steps c =
    words_in-after_blanks c.args.self.now.rest.now c.blanks_len.result c.word_len-end.result c.blanks_len.ensures.place
    c.blanks_len.ensures.within
    c.word_len-end.ensures.place c.word_len-end.ensures.within (omega arith)

pub returns-then-end-gt0-clause-goes : goal.returns-then-end-gt0-clause-goes
returns-then-end-gt0-clause-goes c =
    let step = words_in-after_blanks c.args.self.now.rest.now c.blanks_len.result c.word_len-end.result
    c.blanks_len.ensures.place c.blanks_len.ensures.within
    c.word_len-end.ensures.place c.word_len-end.ensures.within (omega arith) in
    search (rules, arith)

pub returns-else-end-gt0-clause-steps : goal.returns-else-end-gt0-clause-steps
returns-else-end-gt0-clause-steps c =
    words_in-all_blank c.args.self.now.rest.now c.blanks_len.result c.word_len-end.result c.blanks_len.ensures.place
    c.blanks_len.ensures.within
    c.word_len-end.ensures.place (omega arith)

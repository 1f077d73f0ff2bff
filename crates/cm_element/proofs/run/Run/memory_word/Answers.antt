use Rattle.std.proofs.Common.{ℕ, ◌+◌, ◌*◌, ◌<◌, length, refl, sym, ◌∙◌, arith}
use Rattle.std.proofs.lemmas.Grind.{get_or_default_zero}
use Rattle.cm_element.proofs.Columns.{length-chips_of, plane_in, has_word, chip_is_whole, row_within}
use Rattle.cm_element.proofs.run.Run.memory_word.Goals as goal

pub word-requires-clause-place : goal.word-requires-clause-place
word-requires-clause-place c =
    has_word c.self.inside.memory c.self.inside.flags.items c.self.inside.stride c.self.inside.chips c.args.chip
    c.self.invariant (rw (← c.self.view_is) at c.requires.chip)

pub returns : goal.returns
returns c =
    let run = c.self.inside in
    let m = run.memory in
    let f = run.flags.items in
    let there = rw (← c.self.view_is) at c.requires.chip in
    let here = rw (length-chips_of m f run.stride run.chips) at there in
    let index : ℕ = c.args.at * run.stride + c.args.chip in
    let inside : index < length m =
    omega (
      arith,
      row_within c.args.at 4096 run.stride c.requires.at,
      c.self.invariant.memory_words,
      has_word m f run.stride run.chips c.args.chip c.self.invariant there,
    ) in
    record {
      value = λ p h. rw (← c.self.view_is)
          (plane_in m f run.stride run.chips c.args.chip c.args.at index c.word.result here c.requires.at inside refl
          (c.word.ensures.value ∙ sym (get_or_default_zero m index c.word.result inside)) p h);
      whole = rw (← c.self.view_is) (chip_is_whole m f run.stride run.chips c.args.chip c.self.invariant there);
    }

use Rattle.std.proofs.Common.{◌≡◌, ℕ, ◌+◌, ◌*◌, ◌<◌, length, ap, ◌∙◌, arith}
use Rattle.cm_element.proofs.Columns.{length-chips_of, flag_plane_in, has_word, chip_is_whole}
use Rattle.cm_element.proofs.run.Run.flag_plane.Goals as goal

pub word_at-here-requires-clause-chip : goal.word_at-here-requires-clause-chip
word_at-here-requires-clause-chip c =
    has_word c.self.inside.memory c.self.inside.flags.items c.self.inside.stride c.self.inside.chips c.args.chip
    c.self.invariant (rw (← c.self.view_is) at c.requires.chip)

pub returns : goal.returns
returns c =
    let m = c.self.inside.memory in
    let f = c.self.inside.flags.items in
    let there = rw (← c.self.view_is) at c.requires.chip in
    let here = rw (length-chips_of m f c.self.inside.stride c.self.inside.chips) at there in
    let number : c.from.result ≡ c.args.number = c.from.ensures ∙ c.get.ensures.value in
    let place : c.word_at-here.result ≡ c.args.number * c.self.inside.stride + c.args.chip =
    c.word_at-here.ensures.value ∙ ap (λ (i : ℕ). i * c.self.inside.stride + c.args.chip) number in
    let inside : c.word_at-here.result < length f =
    omega (arith, c.word_at-here.ensures.within, c.self.invariant.flag_words) in
    record {
      value = λ p h. rw (← c.self.view_is)
          (flag_plane_in m f c.self.inside.stride c.self.inside.chips c.args.chip c.args.number
          c.word_at-here.result c.index.result.now
          here (omega (arith, c.get.ensures.value, c.get.ensures.in_range)) inside place c.index.ensures p h);
      whole = rw (← c.self.view_is)
          (chip_is_whole m f c.self.inside.stride c.self.inside.chips c.args.chip c.self.invariant there);
    }

use Rattle.std.proofs.Common.{◌≡◌, ℕ, ◌+◌, ◌*◌, [], get_or, sym, ap, ◌∙◌, arith}
use Rattle.cm_bits.specs.Bit.{bit}
use Rattle.cm_element.specs.Runs.{chip_column, chips_of}
use Rattle.cm_element.specs.Wide.{with_flag_plane}
use Rattle.cm_element.proofs.Columns.{length-chips_of, chip_at-chips_of, has_word}
use Rattle.cm_element.proofs.Replacing.{flags_set, flags_set_rows}
use Rattle.cm_element.proofs.Widening.{put_flag_plane}
use Rattle.cm_element.proofs.run.Run.poke_flag_plane.Goals as goal

pub word_at-here-requires-clause-chip : goal.word_at-here-requires-clause-chip
word_at-here-requires-clause-chip c =
    has_word c.self.inside.memory c.self.inside.flags.items c.self.inside.stride c.self.inside.chips c.args.chip
    c.self.invariant (rw (← c.self.view_is) at c.requires.chip)

pub invariant_of-self : goal.invariant_of-self
invariant_of-self c =
    let run = c.self.inside in
    let here = rw (← c.self.view_is, length-chips_of run.memory run.flags.items run.stride run.chips)
    at c.requires.chip in
    let number : c.from.result ≡ c.args.number = c.from.ensures ∙ c.get.ensures.value in
    rw (c.word_at-here.ensures.value, number)
    (flags_set_rows run.memory run.flags.items run.stride run.chips c.args.chip c.args.number c.args.plane
    c.self.invariant here c.requires.other)

pub returns : goal.returns
returns c =
    let run = c.self.inside in
    let m = run.memory in
    let f = run.flags.items in
    let chip = c.args.chip in
    let here = rw (← c.self.view_is, length-chips_of m f run.stride run.chips) at c.requires.chip in
    let number : c.from.result ≡ c.args.number = c.from.ensures ∙ c.get.ensures.value in
    let place : c.word_at-here.result ≡ c.args.number * run.stride + chip = c.word_at-here.ensures.value
    ∙ ap (λ (i : ℕ). i * run.stride + chip) number in
    record {
      value = rw (← c.self.view_is, place)
          (flags_set m f run.stride run.chips chip c.args.number c.args.plane (with_flag_plane (get_or (chips_of m f
          run.stride run.chips) chip []) c.args.number (bit c.args.plane)) c.self.invariant here
          (omega (arith, c.get.ensures.value, c.get.ensures.in_range))
          (put_flag_plane (chip_column m run.stride 4096 chip) (chip_column f run.stride 16 chip) c.args.number c.args.plane
          ∙ ap (λ v. with_flag_plane v c.args.number (bit c.args.plane))
          (sym (chip_at-chips_of m f run.stride run.chips chip here))));
    }

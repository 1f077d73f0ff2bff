use Rattle.std.proofs.Common.{◌≡◌, ℕ, ◌+◌, ◌*◌, [], get_or, set, sym, ap, ◌∙◌, arith}
use Rattle.cm_bits.specs.Bit.{bit}
use Rattle.cm_element.specs.Runs.{chip_column, chips_of}
use Rattle.cm_element.specs.Wide.{with_memory_plane}
use Rattle.cm_element.proofs.Columns.{length-chips_of, chip_at-chips_of, has_word}
use Rattle.cm_element.proofs.Replacing.{memory_set}
use Rattle.cm_element.proofs.Widening.{put_memory_plane}
use Rattle.cm_element.proofs.run.Run.poke_plane.Goals as goal

pub put-requires-clause-place : goal.put-requires-clause-place
put-requires-clause-place c =
    has_word c.self.inside.memory c.self.inside.flags.items c.self.inside.stride c.self.inside.chips c.args.chip
    c.self.invariant (rw (← c.self.view_is) at c.requires.chip)

pub returns : goal.returns
returns c =
    let run = c.self.inside in
    let m = run.memory in
    let f = run.flags.items in
    let chip = c.args.chip in
    let here = rw (← c.self.view_is, length-chips_of m f run.stride run.chips) at c.requires.chip in
    let number : c.from.result ≡ c.args.at = c.from.ensures ∙ c.get.ensures.value in
    record {
      value = rw (← c.self.view_is)
          ((λ j. chips_of ((c.put.ensures.value
          ∙ ap (λ (i : ℕ). set m (i * run.stride + chip) c.args.plane) number) j) f run.stride run.chips)
          ∙ memory_set m f run.stride run.chips chip c.args.at c.args.plane
          (with_memory_plane (get_or (chips_of m f run.stride run.chips) chip []) c.args.at (bit c.args.plane))
          c.self.invariant here (omega (arith, c.get.ensures.value, c.get.ensures.in_range))
          (put_memory_plane (chip_column m run.stride 4096 chip) (chip_column f run.stride 16 chip) c.args.at c.args.plane
          ∙ ap (λ v. with_memory_plane v c.args.at (bit c.args.plane))
          (sym (chip_at-chips_of m f run.stride run.chips chip here))));
    }

use Rattle.std.proofs.Common.{◌≡◌, ℕ, ◌+◌, ◌*◌, ◌<◌, ◌≤◌, get_or, sym, ap, ◌∙◌, arith}
use Rattle.cm_bits.specs.Bit.{bit}
use Rattle.cm_element.specs.Runs.{chip_column}
use Rattle.cm_model.specs.Processor.{memory_bit}
use Rattle.cm_model.specs.Chip.{processor_at}
use Rattle.cm_element.proofs.Columns.{length-chips_of, chip_at-chips_of, get_or-chip_column}
use Rattle.cm_element.proofs.Planes.{memory_bit-chip_of}
use Rattle.cm_element.proofs.run.Run.write_planes.Goals as goal

pub write-requires-clause-there : goal.write-requires-clause-there
write-requires-clause-there c =
    let run = c.self.inside in
    let there = rw (← c.self.view_is, length-chips_of run.memory run.flags.items run.stride run.chips)
    at c.requires.chips in
    omega (arith, there, c.from.ensures, c.from-2.ensures, c.self.invariant.within)

pub returns : goal.returns
returns c =
    let run = c.self.inside in
    let m = run.memory in
    let f = run.flags.items in
    let there : c.args.first + c.args.count ≤ run.chips =
    rw (← c.self.view_is, length-chips_of m f run.stride run.chips) at c.requires.chips in
    rw (← c.self.view_is) (record {
      value = λ k a h inside p below. let here : c.args.first + k < run.chips = omega (arith, h, there) in
          let column_is : c.from.result + k ≡ c.args.first + k = ap (λ (i : ℕ). i + k) c.from.ensures in
          ap (λ (w : ℕ). bit w p) (c.write.ensures.value a k inside (omega (arith, h, c.from-2.ensures))
          ∙ ap (λ (i : ℕ). get_or m (a * run.stride + i) 0) column_is
          ∙ sym (get_or-chip_column m run.stride 4096 (c.args.first + k) a inside))
          ∙ sym (memory_bit-chip_of (chip_column m run.stride 4096 (c.args.first + k))
          (chip_column f run.stride 16 (c.args.first + k)) p a below)
          ∙ sym (ap (λ v. memory_bit (processor_at v p) a)
          (chip_at-chips_of m f run.stride run.chips (c.args.first + k) here));
    })

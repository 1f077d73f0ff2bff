use Rattle.std.proofs.Common.{◌≡◌, ℕ, ◌+◌, ◌*◌, ◌<◌, length, get_or, sym, ap, ◌∙◌, arith}
use Rattle.cm_bits.specs.Bit.{bit}
use Rattle.cm_element.specs.Runs.{chip_column, chips_of}
use Rattle.cm_model.specs.Processor.{memory_bit}
use Rattle.cm_model.specs.Chip.{processor_at}
use Rattle.cm_element.proofs.Columns.{length-chips_of, chip_at-chips_of, get_or-chip_column}
use Rattle.cm_element.proofs.Planes.{memory_bit-chip_of}
use Rattle.cm_element.proofs.run.Run.plane_row.Goals as goal

pub returns : goal.returns
returns c =
    let run = c.self.inside in
    let m = run.memory in
    let f = run.flags.items in
    let address : c.from.result ≡ c.args.at = c.from.ensures ∙ c.get.ensures.value in
    let count : length (chips_of m f run.stride run.chips) ≡ run.chips = length-chips_of m f run.stride run.chips in
    rw (← c.self.view_is) (record {
      count = c.row.ensures.count ∙ sym count;
      value = λ k h p below. let here : k < run.chips = omega (arith, h, count) in
          ap (λ (w : ℕ). bit w p) (c.row.ensures.value k here
          ∙ ap (λ (i : ℕ). get_or m (i * run.stride + k) 0) address
          ∙ sym (get_or-chip_column m run.stride 4096 k c.args.at
          (omega (arith, c.get.ensures.value, c.get.ensures.in_range))))
          ∙ sym (memory_bit-chip_of (chip_column m run.stride 4096 k) (chip_column f run.stride 16 k) p c.args.at below)
          ∙ sym (ap (λ v. memory_bit (processor_at v p) c.args.at) (chip_at-chips_of m f run.stride run.chips k here));
    })

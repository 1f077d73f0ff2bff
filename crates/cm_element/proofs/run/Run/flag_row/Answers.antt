use Rattle.std.proofs.Common.{◌≡◌, ℕ, ◌+◌, ◌-◌, ◌*◌, ◌<◌, ◌≤◌, length, get_or, sym, ap, ◌∙◌, arith}
use Rattle.cm_bits.specs.Bit.{bit}
use Rattle.cm_element.specs.Runs.{chip_column, chips_of}
use Rattle.cm_model.specs.Processor.{flag}
use Rattle.cm_model.specs.Chip.{processor_at}
use Rattle.cm_element.proofs.Columns.{length-chips_of, chip_at-chips_of, get_or-chip_column, chip_is_whole}
use Rattle.cm_element.proofs.Laying.{get_or-part, length-part}
use Rattle.cm_element.proofs.Planes.{flag-chip_of}
use Rattle.cm_element.proofs.run.Run.flag_row.Goals as goal

pub returns : goal.returns
returns c =
    let run = c.self.inside in
    let m = run.memory in
    let f = run.flags.items in
    let first : ℕ = c.row-first.result in
    let number : c.from.result ≡ c.args.number = c.from.ensures ∙ c.get.ensures.value in
    let place : first ≡ c.args.number * run.stride = c.row-first.ensures.value
    ∙ ap (λ (i : ℕ). i * run.stride) number in
    let few : first + run.chips - first ≡ run.chips = omega arith in
    let inside : first + run.chips ≤ length f =
    omega (arith, c.row-first.ensures.within, c.self.invariant.within, c.self.invariant.flag_words) in
    let count : length (chips_of m f run.stride run.chips) ≡ run.chips = length-chips_of m f run.stride run.chips in
    rw (← c.self.view_is, c.deref.ensures.value) (record {
      count = length-part f first (first + run.chips) run.chips few inside ∙ sym count;
      value = λ k h p below. let here : k < run.chips = omega (arith, h, count) in
          ap (λ (w : ℕ). bit w p) (get_or-part f first (first + run.chips) run.chips k few here
          ∙ ap (λ (i : ℕ). get_or f (i + k) 0) place
          ∙ sym (get_or-chip_column f run.stride 16 k c.args.number
          (omega (arith, c.get.ensures.value, c.get.ensures.in_range))))
          ∙ sym (flag-chip_of (chip_column m run.stride 4096 k) (chip_column f run.stride 16 k) p c.args.number below)
          ∙ sym (ap (λ v. flag (processor_at v p) c.args.number) (chip_at-chips_of m f run.stride run.chips k here));
      whole = λ k h. chip_is_whole m f run.stride run.chips k c.self.invariant h;
    })

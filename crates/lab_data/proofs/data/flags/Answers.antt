use Rattle.std.proofs.Common.{◌≡◌, ℕ, ◌++◌, ◌∷◌, [], Bool, length, ap, ◌∙◌, sym, arith}
use Rattle.cm_bits.specs.declared.place.Place.{Place}
use Rattle.cm_bits.specs.Bit.{bit_number}
use Rattle.cm_model.specs.Each.{tabulate}
use Rattle.cm_model.specs.Processor.{flag}
use Rattle.cm_model.specs.Chip.{processor_at}
use Rattle.cm_model.specs.Array.{processor_of}
use Rattle.cm_model.proofs.Each.{length-tabulate}
use Rattle.lab_data.specs.Data.{processors, place_in, flags_of}
use Rattle.lab_data.proofs.Filling.{tabulate-more}
use Rattle.lab_data.proofs.data.flags.Goals as goal

pub loop-index-init : goal.loop-index-init
unfolding tabulate
loop-index-init g c = c.in_ok-flags.ensures.items

pub loop-index-preserved : goal.loop-index-preserved
loop-index-preserved g c =
    let number = c.args.number in
    let chips = c.args.machine.now.machine.chips in
    let read = λ (i : ℕ). bit_number (flag (processor_of chips (place_in g.S.Sizes.n c.args.order i)) number) in
    let bit : c.flag-bit.result ≡ flag (processor_of chips (place_in g.S.Sizes.n c.args.order c.loop-index.index)) number =
    c.flag-bit.ensures.value
    ∙ (λ j. flag (processor_at (c.chip.ensures.value j) c.place_in-here.result.proc) number)
    ∙ ap (λ (place : Place). flag (processor_of chips place) number) c.place_in-here.ensures.value in
    c.in-Ok.ensures.items
    ∙ (λ j. c.loop-index.invariant j ++ c.bit_number.ensures.value j ∷ [])
    ∙ ap (λ (b : Bool). tabulate 0 c.loop-index.index read ++ bit_number b ∷ []) bit
    ∙ sym (tabulate-more read c.loop-index.index)

pub returns : goal.returns
unfolding flags_of
returns g c =
    let read = λ (i : ℕ).
    bit_number (flag (processor_of c.args.machine.now.machine.chips (place_in g.S.Sizes.n c.args.order i)) c.args.number) in
    let all : c.loop-index.index ≡ processors g.S.Sizes.n = omega (
      arith,
      c.loop-index-test.false,
      c.loop-index.auto.index-end,
      c.processors-count.ensures.value,
    ) in
    let value : c.loop-index.flags.items ≡ tabulate 0 (processors g.S.Sizes.n) read =
    c.loop-index.invariant ∙ ap (λ (count : ℕ). tabulate 0 count read) all in
    record { value = value; count = ap length value ∙ length-tabulate 0 (processors g.S.Sizes.n) read }

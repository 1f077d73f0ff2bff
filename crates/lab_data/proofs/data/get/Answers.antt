use Rattle.std.proofs.Common.{◌≡◌, ℕ, ◌++◌, ◌∷◌, [], length, ap, ◌∙◌, sym, arith}
use Rattle.cm_bits.specs.declared.place.Place.{Place}
use Rattle.cm_model.specs.Each.{tabulate}
use Rattle.cm_model.specs.Processor.{field_value}
use Rattle.cm_model.specs.Chip.{processor_at}
use Rattle.cm_model.specs.Array.{processor_of}
use Rattle.cm_model.proofs.Each.{length-tabulate}
use Rattle.lab_data.specs.Data.{processors, place_in, numbers_of}
use Rattle.lab_data.proofs.Filling.{tabulate-more}
use Rattle.lab_data.proofs.data.get.Goals as goal

pub loop-index-init : goal.loop-index-init
unfolding tabulate
loop-index-init g c = c.in_ok-numbers.ensures.items

pub loop-index-preserved : goal.loop-index-preserved
loop-index-preserved g c =
    let read = λ (i : ℕ). field_value (processor_of c.args.machine.now.machine.chips (place_in g.S.Sizes.n c.args.order i))
    c.args.field.at c.args.field.len in
    let number : c.field-number.result ≡ read c.loop-index.index =
    c.field-number.ensures.value
    ∙ (λ j. field_value (processor_at (c.chip.ensures.value j) c.place_in-place.result.proc) c.args.field.at
    c.args.field.len)
    ∙ ap (λ (place : Place). field_value (processor_of c.args.machine.now.machine.chips place) c.args.field.at
    c.args.field.len) c.place_in-place.ensures.value in
    c.in-Ok.ensures.items
    ∙ (λ j. c.loop-index.invariant j ++ number j ∷ [])
    ∙ sym (tabulate-more read c.loop-index.index)

pub returns : goal.returns
unfolding numbers_of
returns g c =
    let read = λ (i : ℕ). field_value (processor_of c.args.machine.now.machine.chips (place_in g.S.Sizes.n c.args.order i))
    c.args.field.at c.args.field.len in
    let all : c.loop-index.index ≡ processors g.S.Sizes.n = omega (
      arith,
      c.loop-index-test.false,
      c.loop-index.auto.index-end,
      c.processors-count.ensures.value,
    ) in
    let value : c.loop-index.numbers.items ≡ tabulate 0 (processors g.S.Sizes.n) read =
    c.loop-index.invariant ∙ ap (λ (count : ℕ). tabulate 0 count read) all in
    record { value = value; count = ap length value ∙ length-tabulate 0 (processors g.S.Sizes.n) read }

use Rattle.std.proofs.Common.{◌≡◌, ◌≢◌, true, false, sym, ◌∙◌, arith, ◌==◌}
use Rattle.std.proofs.lemmas.Bool.{eqb-false, ne_eqb}
use Rattle.cm_model.specs.Instruction.{takes_incoming}
use Rattle.cm_element.specs.Runs.{chip_of_rows}
use Rattle.cm_element.specs.Steps.{along_chain}
use Rattle.cm_element.proofs.Stepping.{rows_stepped_along, chip_stepped, chip_stepped_alone, row_changed, zero_kept}
use Rattle.cm_element.proofs.run.rows.step_rows.Goals as goal

pub returns-then-eq-clause-value : goal.returns-then-eq-clause-value
returns-then-eq-clause-value c =
    let nano = c.args.nano.now in
    let memory = c.args.memory.now in
    let flags = c.args.flags.now in
    let zero_flag : (nano.write == 8) ≡ true = sym c.eq.ensures ∙ c.if-eq.true in
    rows_stepped_along nano memory flags c.compute_memory.new.self flags c.args.stride c.args.chips
    (λ chip h. chip_stepped_alone nano c.is_always-always.result memory flags c.compute_memory.new.self c.args.stride
    c.args.chips chip c.places-at.result
    (along_chain nano (chip_of_rows memory flags c.args.stride chip))
    (record {
      rows = c.requires.rows;
      places = c.places-at.ensures.value;
      here = h;
      everywhere = c.is_always-always.ensures.value;
      stored = c.compute_memory.ensures.memory;
    }) zero_flag)

pub returns-else-eq-clause-rows : goal.returns-else-eq-clause-rows
returns-else-eq-clause-rows c =
    let nano = c.args.nano.now in
    let other : nano.write ≢ 8 = eqb-false nano.write 8 (sym c.eq.ensures ∙ c.if-eq.false) in
    record {
      memory_words = omega (arith, c.compute.ensures.words, c.requires.rows.memory_words);
      flag_words = omega (arith, c.compute.auto.flags, c.requires.rows.flag_words);
      within = c.requires.rows.within;
      few = c.requires.rows.few;
      zero = zero_kept nano c.args.stride c.args.chips c.args.memory.now c.args.flags.now
          c.compute.new.flags c.requires.rows other
          (row_changed nano.flag_table c.eq-else-eq.result c.is_always-always.result nano.sense c.places-at.result
          c.places-at.result.write nano.write c.args.stride c.args.chips c.args.memory.now c.args.flags.now
          c.args.flags.now c.compute.new.flags
          c.places-at.ensures.value.write c.compute.ensures.flags);
    }

pub returns-else-eq-clause-value : goal.returns-else-eq-clause-value
returns-else-eq-clause-value c =
    let nano = c.args.nano.now in
    let other : (nano.write == 8) ≡ false = sym c.eq.ensures ∙ c.if-eq.false in
    let apart : (nano.write == 10) ≡ false = ne_eqb nano.write 10 c.requires.apart in
    let taken : takes_incoming nano ≡ c.eq-else-eq.result = rw apart (sym c.eq-else-eq.ensures) in
    rows_stepped_along nano c.args.memory.now c.args.flags.now c.compute.new.self c.compute.new.flags
    c.args.stride c.args.chips
    (λ chip h. chip_stepped nano c.is_always-always.result c.eq-else-eq.result c.args.memory.now c.args.flags.now
    c.compute.new.self c.compute.new.flags c.args.stride c.args.chips chip c.places-at.result
    (record {
      rows = c.requires.rows;
      places = c.places-at.ensures.value;
      here = h;
      everywhere = c.is_always-always.ensures.value;
      stored = c.compute.ensures.memory;
    }) taken other c.compute.ensures.flags)

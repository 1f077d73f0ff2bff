use Rattle.std.proofs.Common.{ℕ, ◌+◌, ◌*◌, ◌<◌, length, get_or, ap, ◌∙◌, arith}
use Rattle.cm_bits.specs.Bit.{bit}
use Rattle.cm_element.proofs.Columns.{IsRowChanged}
use Rattle.cm_element.proofs.Stepping.{rows_stepped, chip_taken, zero_kept, taker_is_not_zero}
use Rattle.cm_element.proofs.run.rows.take_rows.Goals as goal

pub merge-requires-clause-all : goal.merge-requires-clause-all
merge-requires-clause-all c = λ all.
    let both = c.is_always-always.ensures.value all in (
      both.1,
      λ chip h. ap (λ (i : ℕ). get_or c.args.flags.now (i + chip) 0)
          (c.places-at.ensures.value.cond ∙ ap (λ (n : ℕ). n * c.args.stride) both.0)
          ∙ c.requires.rows.zero chip (omega (arith, h, c.requires.incoming)),
    )

pub returns-clause-rows : goal.returns-clause-rows
returns-clause-rows c =
    let changed : IsRowChanged c.args.nano.now.write c.args.stride c.args.chips c.args.flags.now
    c.put_row.new.rows = record {
      below = λ i h. c.put_row.ensures.below i (omega (arith, h, c.places-at.ensures.value.write));
      above = λ i h. c.put_row.ensures.above i
          (omega (arith, h, c.places-at.ensures.value.write, c.merge.auto.incoming, c.requires.incoming));
    } in
    record {
      memory_words = omega (arith, c.compute_memory.ensures.words, c.requires.rows.memory_words);
      flag_words = omega (arith, c.put_row.auto.rows, c.requires.rows.flag_words);
      within = c.requires.rows.within;
      few = c.requires.rows.few;
      zero = zero_kept c.args.nano.now c.args.stride c.args.chips c.args.memory.now c.args.flags.now c.put_row.new.rows
          c.requires.rows (taker_is_not_zero c.args.nano.now c.requires.taken) changed;
    }

pub returns-clause-value : goal.returns-clause-value
returns-clause-value c =
    let nano = c.args.nano.now in
    let at = c.places-at.result in
    let places = c.places-at.ensures.value in
    let changed : IsRowChanged nano.write c.args.stride c.args.chips c.args.flags.now c.put_row.new.rows = record {
      below = λ i h. c.put_row.ensures.below i (omega (arith, h, places.write));
      above = λ i h. c.put_row.ensures.above i
          (omega (arith, h, places.write, c.merge.auto.incoming, c.requires.incoming));
    } in
    rows_stepped nano c.args.memory.now c.args.flags.now c.compute_memory.new.self c.put_row.new.rows c.args.stride
    c.args.chips (λ i. bit (get_or c.args.incoming.now i 0))
    (λ chip h. let here : chip < length c.merge.new.incoming =
    omega (arith, h, c.merge.auto.incoming, c.requires.incoming) in
    chip_taken nano c.is_always-always.result c.args.memory.now c.args.flags.now c.compute_memory.new.self c.put_row.new.rows
    c.merge.new.incoming c.args.stride c.args.chips chip at c.args.incoming.now
    (record {
      rows = c.requires.rows;
      places = places;
      here = h;
      everywhere = c.is_always-always.ensures.value;
      stored = c.compute_memory.ensures.memory;
    }) c.requires.taken c.requires.incoming c.merge.ensures.value (c.put_row.ensures.value chip here) changed)

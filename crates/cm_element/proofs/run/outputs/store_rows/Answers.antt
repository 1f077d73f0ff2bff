use Rattle.std.proofs.Common.{ℕ, ◌*◌, subst, ◌≡◌, ◌≢◌, ◌==◌, true, false, Bool, get_or, sym, ap, ◌∙◌, arith, if◌then◌else◌}
use Rattle.std.proofs.lemmas.Bool.{not-true, not-false, eqb-false}
use Rattle.cm_bits.specs.Bit.{bit}
use Rattle.cm_model.specs.Instruction.{takes_incoming}
use Rattle.cm_element.specs.Steps.{IsStored}
use Rattle.cm_element.proofs.Stepping.{rows_stepped, zero_kept}
use Rattle.cm_element.proofs.Halves.{chip_flag_stored, chip_flags_kept, row_stored_into}
use Rattle.cm_element.proofs.run.outputs.store_rows.Goals as goal

pub returns-then-takes_incoming-clause-value : goal.returns-then-takes_incoming-clause-value
returns-then-takes_incoming-clause-value c =
    let nano = c.args.nano.now in
    let outputs = c.args.outputs.now in
    let incoming = c.args.incoming.now in
    let other : (nano.write == 8) ≡ false = not-true (nano.write == 8) (sym c.ne.ensures ∙ c.if-ne.true) in
    let taken : takes_incoming nano ≡ true = sym c.takes_incoming.ensures.value ∙ c.if-takes_incoming.true in
    let stored = rw c.deref-then-takes_incoming.ensures.value at c.store_row.ensures.value in
    rows_stepped nano c.args.memory.now c.args.flags.now c.store.new.self c.store_row.new.rows
    c.args.stride c.args.chips (λ i. bit (get_or incoming i 0))
    (λ chip h. chip_flag_stored nano c.args.memory.now c.args.flags.now c.store.new.self
    c.store_row.new.rows outputs c.args.stride c.args.chips c.places-at.result
    (get_or incoming chip 0) chip incoming
    (record {
      rows = c.requires.rows;
      places = c.places-at.ensures.value;
      room = c.requires.room;
      are = c.requires.outputs;
      stored = subst (λ (n : ℕ). IsStored n c.args.outputs.now.holds.items c.args.outputs.now.mem.items c.args.memory.now c.store.new.self)
          (ap (λ (i : ℕ). i * c.args.stride) (c.from.ensures ∙ c.get.ensures.value) ∙ sym c.places-at.ensures.value.a)
          (rw (c.deref.ensures.value, c.deref-2.ensures.value) at c.store.ensures.value);
    }) h other c.requires.incoming
    (λ p. sym (ap (λ (b : Bool). if b then bit (get_or incoming chip 0) p else bit (get_or outputs.flag.items chip 0) p)
    taken)) stored)

pub returns-else-takes_incoming-clause-rows : goal.returns-else-takes_incoming-clause-rows
returns-else-takes_incoming-clause-rows c =
    let nano = c.args.nano.now in
    let outputs = c.args.outputs.now in
    let other : nano.write ≢ 8 =
    eqb-false nano.write 8 (not-true (nano.write == 8) (sym c.ne.ensures ∙ c.if-ne.true)) in
    let stored = rw (c.deref-else-takes_incoming.ensures.value, c.deref-else-takes_incoming-2.ensures.value)
    at c.store_row-else-takes_incoming.ensures.value in
    record {
      memory_words = omega (arith, c.store.ensures.words, c.requires.rows.memory_words);
      flag_words = omega (arith, c.store_row-else-takes_incoming.auto.rows, c.requires.rows.flag_words);
      within = c.requires.rows.within;
      few = c.requires.rows.few;
      zero = zero_kept nano c.args.stride c.args.chips c.args.memory.now c.args.flags.now
          c.store_row-else-takes_incoming.new.rows c.requires.rows other
          (row_stored_into c.places-at.result.write nano.write c.args.stride c.args.chips outputs.holds.items
          outputs.flag.items c.args.flags.now c.store_row-else-takes_incoming.new.rows
          c.places-at.ensures.value.write c.requires.room.flag stored);
    }

pub returns-else-takes_incoming-clause-value : goal.returns-else-takes_incoming-clause-value
returns-else-takes_incoming-clause-value c =
    let nano = c.args.nano.now in
    let outputs = c.args.outputs.now in
    let incoming = c.args.incoming.now in
    let other : (nano.write == 8) ≡ false = not-true (nano.write == 8) (sym c.ne.ensures ∙ c.if-ne.true) in
    let alone : takes_incoming nano ≡ false = sym c.takes_incoming.ensures.value ∙ c.if-takes_incoming.false in
    let stored = rw (c.deref-else-takes_incoming.ensures.value, c.deref-else-takes_incoming-2.ensures.value)
    at c.store_row-else-takes_incoming.ensures.value in
    rows_stepped nano c.args.memory.now c.args.flags.now c.store.new.self c.store_row-else-takes_incoming.new.rows
    c.args.stride c.args.chips (λ i. bit (get_or incoming i 0))
    (λ chip h. chip_flag_stored nano c.args.memory.now c.args.flags.now c.store.new.self
    c.store_row-else-takes_incoming.new.rows outputs c.args.stride c.args.chips c.places-at.result
    (get_or incoming chip 0) chip outputs.flag.items
    (record {
      rows = c.requires.rows;
      places = c.places-at.ensures.value;
      room = c.requires.room;
      are = c.requires.outputs;
      stored = subst (λ (n : ℕ). IsStored n c.args.outputs.now.holds.items c.args.outputs.now.mem.items c.args.memory.now c.store.new.self)
          (ap (λ (i : ℕ). i * c.args.stride) (c.from.ensures ∙ c.get.ensures.value) ∙ sym c.places-at.ensures.value.a)
          (rw (c.deref.ensures.value, c.deref-2.ensures.value) at c.store.ensures.value);
    }) h other c.requires.room.flag
    (λ p. sym (ap (λ (b : Bool). if b then bit (get_or incoming chip 0) p else bit (get_or outputs.flag.items chip 0) p)
    alone)) stored)

pub returns-else-ne-clause-value : goal.returns-else-ne-clause-value
returns-else-ne-clause-value c =
    let nano = c.args.nano.now in
    let incoming = c.args.incoming.now in
    let zero_flag : (nano.write == 8) ≡ true = not-false (nano.write == 8) (sym c.ne.ensures ∙ c.if-ne.false) in
    rows_stepped nano c.args.memory.now c.args.flags.now c.store.new.self c.args.flags.now c.args.stride
    c.args.chips (λ i. bit (get_or incoming i 0))
    (λ chip h. chip_flags_kept nano c.args.memory.now c.args.flags.now c.store.new.self c.args.outputs.now
    c.args.stride c.args.chips c.places-at.result (get_or incoming chip 0) chip
    (record {
      rows = c.requires.rows;
      places = c.places-at.ensures.value;
      room = c.requires.room;
      are = c.requires.outputs;
      stored = subst (λ (n : ℕ). IsStored n c.args.outputs.now.holds.items c.args.outputs.now.mem.items c.args.memory.now c.store.new.self)
          (ap (λ (i : ℕ). i * c.args.stride) (c.from.ensures ∙ c.get.ensures.value) ∙ sym c.places-at.ensures.value.a)
          (rw (c.deref.ensures.value, c.deref-2.ensures.value) at c.store.ensures.value);
    }) h zero_flag)

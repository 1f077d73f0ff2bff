use Rattle.std.proofs.Common.{◌≡◌, ℕ, ◌<◌, [], length, set, get_or, sym, ap, ◌∙◌, arith, get_or-set_same}
use Rattle.std.proofs.lemmas.List.{set-get_or, set-set}
use Rattle.cm_model.specs.Array.{chip_at}
use Rattle.cm_element.specs.Wide.{with_memory_field}
use Rattle.lab_data.specs.Data.{index_in}
use Rattle.lab_data.proofs.Putting.{with_chips, chip_filled, chip_filled-none, chip_filled-all, chip_filled-more}
use Rattle.lab_data.proofs.data.put_chip.Goals as goal

pub loop-p-init : goal.loop-p-init
loop-p-init g c =
    let chips = c.args.machine.now.machine.chips in
    record {
      value = ap (with_chips c.args.machine.now)
          (sym (ap (set chips c.args.chip)
          (sym (chip_filled-none g.S.Sizes.n c.args.order c.args.field.at c.args.field.len c.args.numbers.now c.args.chip
          (get_or chips c.args.chip []) (c.requires.whole.whole c.args.chip c.requires.chip)))
          ∙ set-get_or chips c.args.chip []));
      whole = c.requires.whole;
    }

pub loop-p-preserved : goal.loop-p-preserved
loop-p-preserved g c =
    let chips = c.args.machine.now.machine.chips in
    let chip = chip_at chips c.args.chip in
    let filled = chip_filled g.S.Sizes.n c.args.order c.args.field.at c.args.field.len c.args.numbers.now c.args.chip chip in
    let here : c.unwrap-proc.result ≡ c.loop-p.p = rw c.unwrap-proc.ensures at c.new.ensures.value in
    let there : c.args.chip < length chips = omega (arith, c.requires.chip, c.requires.whole.chip_count) in
    record {
      value = c.put_number.ensures.value
          ∙ (λ j. with_chips (c.loop-p.invariant.value j)
          (set (c.loop-p.invariant.value j).machine.chips c.args.chip
          (with_memory_field (chip_at (c.loop-p.invariant.value j).machine.chips c.args.chip) (here j) c.args.field.at
          c.args.field.len (get_or c.args.numbers.now c.index_in.result 0))))
          ∙ ap (with_chips c.args.machine.now)
          (set-set chips c.args.chip (filled c.loop-p.p)
          (with_memory_field (chip_at (set chips c.args.chip (filled c.loop-p.p)) c.args.chip) c.loop-p.p c.args.field.at
          c.args.field.len (get_or c.args.numbers.now c.index_in.result 0))
          ∙ ap (λ z. set chips c.args.chip
          (with_memory_field z c.loop-p.p c.args.field.at c.args.field.len
          (get_or c.args.numbers.now c.index_in.result 0)))
          (get_or-set_same chips c.args.chip (filled c.loop-p.p) [] there)
          ∙ ap (set chips c.args.chip)
          (chip_filled-more g.S.Sizes.n c.args.order c.args.field.at c.args.field.len c.args.numbers.now c.args.chip chip
          c.loop-p.p (get_or c.args.numbers.now c.index_in.result 0) c.loop-p-test.true
          (ap (λ (k : ℕ). get_or c.args.numbers.now k 0)
          (c.index_in.ensures.value ∙ ap (λ (p : ℕ). index_in g.S.Sizes.n c.args.order (record {
            chip = c.args.chip;
            proc = p;
          })) here))));
      whole = c.put_number.ensures.whole;
    }

pub returns-clause-value : goal.returns-clause-value
returns-clause-value g c =
    let chips = c.args.machine.now.machine.chips in
    let all : c.loop-p.p ≡ 16 = omega (arith, c.loop-p-test.false, c.loop-p.auto.p-end) in
    c.loop-p.invariant.value
    ∙ ap (λ (done : ℕ). with_chips c.args.machine.now (set chips c.args.chip
    (chip_filled g.S.Sizes.n c.args.order c.args.field.at c.args.field.len c.args.numbers.now c.args.chip
    (chip_at chips c.args.chip) done))) all
    ∙ ap (λ chip. with_chips c.args.machine.now (set chips c.args.chip chip))
    (chip_filled-all g.S.Sizes.n c.args.order c.args.field.at c.args.field.len c.args.numbers.now c.args.chip
    (chip_at chips c.args.chip))

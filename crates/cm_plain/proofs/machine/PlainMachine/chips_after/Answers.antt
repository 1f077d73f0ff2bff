use Rattle.std.proofs.Common.{ℕ, ◌+◌, sym, ◌∙◌, ap, arith}
use Rattle.cm_model.specs.Each.{tabulate}
use Rattle.cm_model.specs.Array.{after_nano, chip_at, incoming}
use Rattle.cm_model.specs.Chip.{chip_after}
use Rattle.cm_plain.proofs.Made.{tabulate-zero, pushed}
use Rattle.cm_plain.proofs.machine.PlainMachine.chips_after.Goals as goal

pub loop-chip-init : goal.loop-chip-init
loop-chip-init g c = record {
  items = c.in_ok-chips.ensures.items ∙ sym (tabulate-zero _);
  len = omega (arith, c.in_ok-chips.ensures.len);
  room = omega (arith, c.in_ok-chips.ensures.capacity, c.len.ensures, c.self.invariant.1);
}

pub loop-chip-preserved : goal.loop-chip-preserved
loop-chip-preserved g c = record {
  items = pushed c.loop-chip.chip _ c.loop-chip.chips.items c.push_reserved.new.self.items c.in_ok-after.after
      c.loop-chip.invariant.items c.push_reserved.ensures.items c.in_ok-after.ensures.value;
  len = c.push_reserved.ensures.len ∙ ap (λ (n : ℕ). n + 1) c.loop-chip.invariant.len;
  room = omega (arith, c.push_reserved.ensures.capacity, c.loop-chip.invariant.room);
}

pub returns-clause-value : goal.returns-clause-value
unfolding after_nano
returns-clause-value g c =
    let nano = c.args.nano.now in
    let chips = c.args.self.now in
    c.loop-chip.invariant.items
    ∙ ap (λ (n : ℕ). tabulate 0 n (λ k. chip_after nano (incoming g.row.N nano chips k) (chip_at chips k)))
    (omega arith ∙ c.chip_count-chip-end.ensures.value)

use Rattle.std.proofs.Common.{◌≡◌, ◌+◌, sym, ap, ◌∙◌, subst, arith}
use Rattle.cm_model.specs.Keeping.{IsMachine}
use Rattle.cm_array.specs.Parts.{MachineView}
use Rattle.cm_array.specs.Pokes.{machine_with_memory_bit}
use Rattle.lab_data.proofs.Fields.{no_bits_yet, one_more_bit}
use Rattle.lab_data.proofs.Putting.{with_chips}
use Rattle.lab_data.proofs.data.put_number.Goals as goal

pub loop-i-init : goal.loop-i-init
loop-i-init g c = record {
  value = ap (with_chips c.args.machine.now)
      (no_bits_yet c.args.machine.now.machine.chips c.args.chip c.args.proc c.at-at.result c.args.number);
  whole = c.requires.whole;
}

pub loop-i-preserved : goal.loop-i-preserved
loop-i-preserved g c =
    let at : c.unwrap.result ≡ c.at-at.result + c.loop-i.i = rw c.unwrap.ensures at c.new.ensures.value in
    record {
      value = c.poke.ensures.value
          ∙ (λ j. record (c.loop-i.invariant.value j) {
            machine = machine_with_memory_bit (c.loop-i.invariant.value j).machine c.args.chip c.args.proc (at j)
                (c.bit_of.ensures.value j);
          })
          ∙ ap (with_chips c.args.machine.now)
          (one_more_bit c.args.machine.now.machine.chips c.args.chip c.args.proc c.at-at.result c.loop-i.i c.args.number
          (omega (arith, c.requires.chip, c.requires.whole.chip_count))
          (c.requires.whole.whole c.args.chip c.requires.chip)
          (omega (arith, c.get-proc.ensures.value, c.get-proc.ensures.in_range))
          (omega (arith, c.at-at.ensures.within, c.loop-i-test.true, c.len-i-end.ensures.value)));
      whole = subst (λ (kept : MachineView). IsMachine g.S.Sizes.n g.S.Sizes.cap kept.machine) (sym c.poke.ensures.value)
          (c.pokes_keep_machines.ensures g.S.Sizes.n g.S.Sizes.cap c.loop-i.machine.machine c.args.chip c.args.proc
          c.unwrap.result c.bit_of.result c.requires.chip c.loop-i.invariant.whole).machine;
    }

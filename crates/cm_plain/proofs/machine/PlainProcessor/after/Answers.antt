use Rattle.std.proofs.Common.{◌≡◌, ◌==◌, sym, ◌∙◌, set}
use Rattle.std.proofs.lemmas.Bool.{not-true, not-false}
use Rattle.cm_model.specs.Instruction.{memory_output}
use Rattle.cm_plain.proofs.Made.{processor_after-kept, processor_after-stored, processor_after-dropped}
use Rattle.cm_plain.proofs.machine.PlainProcessor.after.Goals as goal
use Rattle.cm_plain.proofs.machine.PlainProcessor.after.Goals.{then-ne, else-ne}

pub returns-then-flag-nano : goal.returns-then-flag-nano
returns-then-flag-nano c = record {
  value = c.in_ok-after.ensures.value
      ∙ sym (processor_after-kept c.args.nano.now c.args.incoming c.flag.result c.args.self.now c.flag.ensures.value
      c.if-flag-nano.true);
}

pub returns : goal.returns
returns c =
    let nano = c.args.nano.now in
    let old = c.args.self.now in
    let poked : c.poke.new.self ≡ record old { memory = set old.memory nano.a (memory_output nano old) } =
    c.poke.ensures.value
    ∙ (λ i. let v = c.in_ok-after.ensures.value i in
    record v { memory = set v.memory nano.a (c.memory_output.ensures.value i) }) in
    record {
      value = elim c.if-ne.branch [
        | then-ne w ↦
            let other = not-true (nano.write == 8) (sym c.ne.ensures ∙ w.if-ne.true) in
            w.after-is ∙ w.poke_flag.ensures.value
            ∙ (λ i. let v = poked i in record v { flags = set v.flags nano.write (w.stored.ensures.value i) })
            ∙ sym (processor_after-stored nano c.args.incoming c.flag.result old c.flag.ensures.value
            c.if-flag-nano.false other)
        | else-ne w ↦
            let zero_flag = not-false (nano.write == 8) (sym c.ne.ensures ∙ w.if-ne.false) in
            w.after-is ∙ poked ∙ sym
            (processor_after-dropped nano c.args.incoming c.flag.result old c.flag.ensures.value
            c.if-flag-nano.false zero_flag)
      ];
    }

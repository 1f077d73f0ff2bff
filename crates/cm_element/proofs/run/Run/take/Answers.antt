use Rattle.std.proofs.Common.{ℕ, List, [], length, get_or, ap, ◌∙◌, arith}
use Rattle.std.proofs.lemmas.List.{with_items_is}
use Rattle.cm_bits.specs.Bit.{bit}
use Rattle.cm_model.specs.Each.{tabulate}
use Rattle.cm_model.specs.Chip.{chip_after}
use Rattle.cm_element.specs.Runs.{chips_of}
use Rattle.cm_element.proofs.Columns.{length-chips_of}
use Rattle.cm_element.proofs.run.Run.take.Goals as goal

pub take_rows-requires-clause-incoming : goal.take_rows-requires-clause-incoming
take_rows-requires-clause-incoming c =
    rw (
      ← c.self.view_is,
      length-chips_of c.self.inside.memory c.self.inside.flags.items c.self.inside.stride c.self.inside.chips,
    ) at c.requires.incoming

pub returns : goal.returns
returns c =
    let run = c.self.inside in
    let memory : List ℕ = c.take_rows.new.memory in
    let flags : List ℕ = c.take_rows.new.flags in
    let lent_flags = c.deref_mut.ensures in
    let kept = c.take_rows.ensures.rows in
    let flags_is = with_items_is run.flags flags
    (omega (arith, kept.flag_words, c.self.invariant.flag_words, ap length lent_flags.value, lent_flags.len)) in
    record {
      value = rw (← c.self.view_is, length-chips_of run.memory run.flags.items run.stride run.chips)
          ((λ j. chips_of memory (flags_is j) run.stride run.chips)
          ∙ c.take_rows.ensures.value
          ∙ (λ j. tabulate 0 run.chips (λ i. chip_after c.args.nano.now (bit (get_or c.args.incoming.now i 0))
          (get_or (chips_of run.memory (lent_flags.value j) run.stride run.chips) i []))));
    }

use Rattle.std.proofs.Common.{◌≡◌, ◌==◌, Bool, true, false, cond, List, [], set, sym, ap, ◌∙◌, get_or-set_same}
use Rattle.std.proofs.lemmas.Bool.{not-true, not-false}
use Rattle.std.proofs.lemmas.List.{set-set}
use Rattle.cm_bits.specs.Bit.{bit}
use Rattle.cm_model.specs.Processor.{Processor}
use Rattle.cm_model.specs.Instruction.{takes_incoming}
use Rattle.cm_model.specs.Array.{Chips, chip_at}
use Rattle.cm_element.specs.Wide.{with_memory_plane, with_flag_plane}
use Rattle.cm_element.proofs.Storing.{both_put, memory_put, bit-choice}
use Rattle.cm_element.proofs.run.Run.chip_store.Goals as goal

pub returns-then-ne : goal.returns-then-ne
returns-then-ne c =
    let nano = c.args.nano.now in
    let run : Chips = c.args.self.now in
    let old : List Processor = chip_at run c.args.chip in
    let put : List Processor = with_memory_plane old nano.a (bit c.chosen-memory.result) in
    let other : (nano.write == 8) ≡ false = not-true (nano.write == 8) (sym c.ne.ensures ∙ c.if-ne.true) in
    let now : c.poke_plane.new.self ≡ set run c.args.chip put = c.poke_plane.ensures.value in
    let here : chip_at (set run c.args.chip put) c.args.chip ≡ put =
    get_or-set_same run c.args.chip put [] c.requires.chip in
    let choice = c.stored_plane-stored.ensures.value in
    record {
      value = c.poke_flag_plane.ensures.value
          ∙ ap (λ (chips : Chips). set chips c.args.chip
          (with_flag_plane (chip_at chips c.args.chip) nano.write (bit c.chosen.result))) now
          ∙ set-set run c.args.chip put
          (with_flag_plane (chip_at (set run c.args.chip put) c.args.chip) nano.write (bit c.chosen.result))
          ∙ ap (λ (v : List Processor). set run c.args.chip (with_flag_plane v nano.write (bit c.chosen.result))) here
          ∙ ap (set run c.args.chip) (both_put nano old c.args.outputs c.args.incoming c.chosen-memory.result
          c.chosen.result c.requires.outputs other
          (λ p h. c.chosen-memory.ensures.value p ∙ ap (λ (v : Bool). cond (bit c.args.outputs.holds p)
          (bit c.args.outputs.mem p) v) (c.plane.ensures.value p h))
          (λ p h. c.chosen.ensures.value p
          ∙ (λ i. cond (bit c.args.outputs.holds p)
          ((ap (λ w. bit w p) choice ∙ bit-choice (takes_incoming nano) c.args.incoming c.args.outputs.flag p) i)
          (c.flag_plane-own.ensures.value p h i))));
    }

pub returns-else-ne : goal.returns-else-ne
returns-else-ne c =
    let nano = c.args.nano.now in
    let run : Chips = c.args.self.now in
    let old : List Processor = chip_at run c.args.chip in
    let zero_flag : (nano.write == 8) ≡ true = not-false (nano.write == 8) (sym c.ne.ensures ∙ c.if-ne.false) in
    record {
      value = c.poke_plane.ensures.value
          ∙ ap (set run c.args.chip)
          (memory_put nano old c.args.outputs c.args.incoming c.chosen-memory.result c.requires.outputs zero_flag
          (λ p h. c.chosen-memory.ensures.value p ∙ ap (λ (v : Bool). cond (bit c.args.outputs.holds p)
          (bit c.args.outputs.mem p) v) (c.plane.ensures.value p h)));
    }

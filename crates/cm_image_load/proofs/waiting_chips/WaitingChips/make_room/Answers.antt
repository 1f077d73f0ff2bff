use Rattle.std.proofs.Common.{◌∙◌, length, ap, arith}
use Rattle.cm_model.specs.Array.{Chips}
use Rattle.cm_image_load.specs.WaitingChips.{with_waiting}
use Rattle.cm_image_load.proofs.Waiting.{length-chips_beside, nothing_waits}
use Rattle.cm_image_load.proofs.waiting_chips.WaitingChips.make_room.Goals as goal

pub returns-then-self-eq-WIDTH-clause-value : goal.returns-then-self-eq-WIDTH-clause-value
returns-then-self-eq-WIDTH-clause-value g c =
    ap (λ (chips : Chips). with_waiting c.args.end c.put.new.builder chips) c.put.ensures.none
    ∙ nothing_waits c.args.end c.put.new.builder ∙ c.put.ensures.value

pub returns-else-self-eq-WIDTH-clause-room : goal.returns-else-self-eq-WIDTH-clause-room
returns-else-self-eq-WIDTH-clause-room g c =
    let run = c.self.inside in
    omega (
      arith,
      c.self.invariant.few,
      c.if-self-eq-WIDTH.false,
      ap length c.self.view_is,
      length-chips_beside run.memory.items run.flags.items run.count,
    )

use Rattle.std.proofs.Common.{◌≡◌, ◌+◌, ◌-◌, ◌<◌, List, length, set, ap, ◌∙◌, arith}
use Rattle.cm_bits.specs.Bit.{bit}
use Rattle.cm_model.specs.Processor.{Processor}
use Rattle.cm_model.specs.Array.{Chips, chip_at}
use Rattle.cm_element.specs.Near.{with_near}
use Rattle.cm_element.specs.Wide.{with_flag_plane}
use Rattle.cm_element.proofs.Nearing.{length-with_near, near_put}
use Rattle.cm_element.proofs.near.NearRun.poke_flag_plane.Goals as goal

pub come_near-requires-clause-chip : goal.come_near-requires-clause-chip
come_near-requires-clause-chip c =
    let run = c.self.inside in
    let same : with_near run.far run.near run.first ≡ c.args.self.now = c.self.view_is in
    omega (
      arith,
      c.requires.chip,
      ap length same,
      length-with_near run.far run.near run.first run.width run.chips c.self.invariant,
    )

pub returns : goal.returns
returns c =
    let run = c.self.inside in
    let far : Chips = c.come_near.new.far in
    let near : Chips = c.come_near.new.near in
    let first = c.come_near.new.place in
    let chip = c.args.chip in
    let same : with_near far near first ≡ c.args.self.now = c.come_near.ensures.value ∙ c.self.view_is in
    let place : first + (chip - first) ≡ chip = omega (arith, c.come_near.ensures.below) in
    let here : chip - first < run.width =
    omega (arith, c.come_near.ensures.below, c.come_near.ensures.above) in
    record {
      value = near_put far near c.poke_flag_plane.new.self first run.width run.chips (chip - first) chip
          (λ (v : List Processor). with_flag_plane v c.args.number (bit c.args.plane))
          c.come_near.ensures.near here place c.poke_flag_plane.ensures.value
          ∙ ap (λ (chips : Chips). set chips chip
          (with_flag_plane (chip_at chips chip) c.args.number (bit c.args.plane)))
          same;
    }

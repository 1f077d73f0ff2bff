use Rattle.std.proofs.Common.{rules, ◌≡◌, ℕ, ◌^◌, sym, ap, ◌∙◌, arith, length}
use Rattle.cm_model.specs.Each.{tabulate}
use Rattle.cm_model.specs.Array.{chip_at}
use Rattle.cm_model.specs.Letters.{chip_after_delivery}
use Rattle.cm_model.specs.Buffers.{delivered_in}
use Rattle.cm_model.proofs.Each.{length-tabulate}
use Rattle.cm_plain.proofs.Made.{tabulate-zero, pushed}
use Rattle.cm_plain.proofs.router.PlainRouter.chips_after_delivery.Goals as goal

pub loop-chip-init : goal.loop-chip-init
loop-chip-init g c = c.new-chips.ensures.items ∙ sym (tabulate-zero _)

pub loop-chip-preserved : goal.loop-chip-preserved
loop-chip-preserved g c =
    pushed c.loop-chip.chip _ c.loop-chip.chips.items c.push.new.self.items c.in_ok-after.after c.loop-chip.invariant
    c.in-Ok.ensures.items (search rules)

pub invariant_of-result : goal.invariant_of-result
invariant_of-result g c =
    let all : c.loop-chip.chip ≡ 2 ^ g.row.N = omega arith ∙ c.chip_count-chip-end.ensures.value in
    (c.self.invariant.0, ap length c.loop-chip.invariant ∙ length-tabulate 0 c.loop-chip.chip _ ∙ all)

pub returns : goal.returns
returns g c =
    let all : c.loop-chip.chip ≡ 2 ^ g.row.N = omega arith ∙ c.chip_count-chip-end.ensures.value in
    record {
      value = c.loop-chip.invariant
          ∙ ap (λ (n : ℕ). tabulate 0 n
          (λ k. chip_after_delivery (delivered_in c.args.self.now k) (chip_at c.args.self.now.chips k))) all;
    }

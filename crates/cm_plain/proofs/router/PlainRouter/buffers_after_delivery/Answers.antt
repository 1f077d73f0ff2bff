use Rattle.std.proofs.Common.{rules, ◌≡◌, ℕ, ◌^◌, [], sym, ap, ◌∙◌, arith}
use Rattle.cm_model.specs.Each.{tabulate}
use Rattle.cm_model.specs.Array.{chip_at, nth_or_nil}
use Rattle.cm_model.specs.Letters.{can_receive}
use Rattle.cm_model.specs.OneChip.{kept}
use Rattle.cm_plain.proofs.Made.{tabulate-zero, pushed}
use Rattle.cm_plain.proofs.router.PlainRouter.buffers_after_delivery.Goals as goal

pub loop-chip-init : goal.loop-chip-init
loop-chip-init g c = c.new-buffers.ensures.items ∙ sym (tabulate-zero _)

pub loop-chip-preserved : goal.loop-chip-preserved
loop-chip-preserved g c =
    pushed c.loop-chip.chip _ c.loop-chip.buffers.items c.push.new.self.items _ c.loop-chip.invariant
    c.in-Ok.ensures.items (search rules)

pub returns : goal.returns
returns g c =
    let all : c.loop-chip.chip ≡ 2 ^ g.row.N = omega arith ∙ c.chip_count-chip-end.ensures.value in
    record {
      value = c.loop-chip.invariant
          ∙ ap (λ (n : ℕ). tabulate 0 n
          (λ k. kept (can_receive (chip_at c.args.self.now.chips k)) [] (nth_or_nil c.args.self.now.buffers k))) all;
    }

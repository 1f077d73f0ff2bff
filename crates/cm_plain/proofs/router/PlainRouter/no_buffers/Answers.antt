use Rattle.std.proofs.Common.{◌≡◌, ℕ, ◌^◌, [], List, sym, ap, ◌∙◌, arith}
use Rattle.cm_model.specs.declared.message.Message.{Message}
use Rattle.cm_model.specs.Each.{tabulate}
use Rattle.cm_plain.proofs.Made.{tabulate-zero, pushed}
use Rattle.cm_plain.proofs.router.PlainRouter.no_buffers.Goals as goal

pub loop-chip-init : goal.loop-chip-init
loop-chip-init g c = c.new-buffers.ensures.items ∙ sym (tabulate-zero _)

pub loop-chip-preserved : goal.loop-chip-preserved
loop-chip-preserved g c =
    pushed c.loop-chip._chip _ c.loop-chip.buffers.items c.push.new.self.items c.empty-buffer.result
    c.loop-chip.invariant c.in-Ok.ensures.items c.empty-buffer.ensures.value

pub returns : goal.returns
returns g c =
    let all : c.loop-chip._chip ≡ 2 ^ g.row.N = omega arith ∙ c.chip_count-chip-end.ensures.value in
    record { value = c.loop-chip.invariant ∙ ap (λ (n : ℕ). tabulate {X = List Message} 0 n (λ k. [])) all }

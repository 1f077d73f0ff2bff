use Rattle.std.proofs.Common.{◌≡◌, ℕ, ◌^◌, [], List, sym, ap, ◌∙◌, arith}
use Rattle.cm_model.specs.declared.message.Event.{Event}
use Rattle.cm_model.specs.Each.{tabulate}
use Rattle.cm_plain.proofs.Made.{tabulate-zero, pushed}
use Rattle.cm_plain.proofs.router.PlainRouter.no_logs.Goals as goal

pub loop-chip-init : goal.loop-chip-init
loop-chip-init g c = c.new-logs.ensures.items ∙ sym (tabulate-zero _)

pub loop-chip-preserved : goal.loop-chip-preserved
loop-chip-preserved g c =
    pushed c.loop-chip._chip _ c.loop-chip.logs.items c.push.new.self.items c.empty-log.result c.loop-chip.invariant
    c.in-Ok.ensures.items c.empty-log.ensures.value

pub returns : goal.returns
returns g c =
    let all : c.loop-chip._chip ≡ 2 ^ g.row.N = omega arith ∙ c.chip_count-chip-end.ensures.value in
    record { value = c.loop-chip.invariant ∙ ap (λ (n : ℕ). tabulate {X = List Event} 0 n (λ k. [])) all }

use Rattle.std.proofs.Common.{rules, ◌≡◌, ℕ, ◌^◌, bit_xor, sym, ap, ◌∙◌, arith}
use Rattle.cm_model.specs.Each.{tabulate}
use Rattle.cm_model.specs.Array.{nth_or_nil}
use Rattle.cm_model.specs.Wiring.{way_of}
use Rattle.cm_model.specs.Buffers.{sent_across, buffer_after_dimension}
use Rattle.cm_plain.proofs.Made.{tabulate-zero, pushed}
use Rattle.cm_plain.proofs.router.PlainRouter.buffers_after_dimension.Goals as goal

pub loop-chip-init : goal.loop-chip-init
loop-chip-init g c = c.new-buffers.ensures.items ∙ sym (tabulate-zero _)

pub loop-chip-preserved : goal.loop-chip-preserved
loop-chip-preserved g c =
    pushed c.loop-chip.chip _ c.loop-chip.buffers.items c.push.new.self.items c.in_ok-after.after
    c.loop-chip.invariant c.in-Ok.ensures.items (search rules)

pub returns : goal.returns
returns g c =
    let all : c.loop-chip.chip ≡ 2 ^ g.row.N = omega arith ∙ c.chip_count-chip-end.ensures.value in
    record {
      value = c.loop-chip.invariant
          ∙ ap (λ (n : ℕ). tabulate 0 n
          (λ k. buffer_after_dimension (way_of c.args.self.now.routing k c.args.dim) g.row.CAP c.args.dim
          (nth_or_nil c.args.self.now.buffers k)
          (sent_across c.args.self.now.routing g.row.CAP c.args.dim c.args.self.now.buffers
          (bit_xor k (2 ^ c.args.dim))))) all;
    }

use Rattle.std.proofs.Common.{◌≡◌, ℕ, ◌++◌, ◌^◌, map, flat_map, sym, ap, ◌∙◌, arith}
use Rattle.std.specs.List.{range_with_len}
use Rattle.cm_model.specs.declared.message.Message.{Message}
use Rattle.lab_study.specs.Traces.{trace_of, trace_after, traces_at, all_traces, by_sender}
use Rattle.lab_study.proofs.Sums.{flat_map-more}
use Rattle.lab_study.proofs.ways.Ways.after.Goals as goal

pub loop-chip-init : goal.loop-chip-init
loop-chip-init c = c.in_ok-next.ensures.value

pub loop-chip-preserved : goal.loop-chip-preserved
loop-chip-preserved c =
    let chip = c.loop-chip.chip in
    let at = traces_at c.args.self.now c.args.machine.now.machine in
    let follow = λ (m : Message). trace_after (trace_of c.args.self.now chip m) m in
    let before = flat_map at (range_with_len 0 chip) in
    c.in_ok-follow_chip.ensures.ok c.args.machine.now.n before c.loop-chip.invariant
    ∙ ap (λ ms. by_sender c.args.machine.now.n (before ++ map follow ms)) c.buffer.ensures.value
    ∙ ap (by_sender c.args.machine.now.n) (sym (flat_map-more at chip))

pub returns : goal.returns
unfolding all_traces
returns c =
    let all : c.loop-chip.chip ≡ 2 ^ c.args.machine.now.n =
    omega (arith, c.loop-chip-test.false, c.loop-chip.auto.chip-end, c.chips-chip-end.ensures.value) in
    record {
      value = c.loop-chip.invariant
          ∙ ap (λ (k : ℕ). by_sender c.args.machine.now.n
          (flat_map (traces_at c.args.self.now c.args.machine.now.machine) (range_with_len 0 k))) all;
    }

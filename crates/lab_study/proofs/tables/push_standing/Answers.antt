use Rattle.std.proofs.Common.{◌≡◌, ℕ, ◌++◌, ◌^◌, flat_map, ap, ◌∙◌, arith}
use Rattle.std.specs.List.{range_with_len}
use Rattle.lab_study.specs.Traces.{trace_of}
use Rattle.lab_study.specs.Tables.{trace_line, standing_text_at, standing_text}
use Rattle.lab_study.proofs.Sums.{text-more}
use Rattle.lab_study.proofs.tables.push_standing.Goals as goal

pub loop-chip-preserved : goal.loop-chip-preserved
loop-chip-preserved c =
    text-more (standing_text_at c.args.ways.now c.args.machine.now.machine) c.args.text.now.items c.loop-chip.text.items
    c.push_buffer.new.text.items c.loop-chip.chip c.loop-chip.invariant
    (c.in_ok-push_buffer.ensures.ok
    ∙ ap (λ ms. c.loop-chip.text.items
    ++ flat_map (λ m. trace_line c.loop-chip.chip m (trace_of c.args.ways.now c.loop-chip.chip m)) ms)
    c.buffer.ensures.value)

pub returns : goal.returns
unfolding standing_text
returns c =
    let all : c.loop-chip.chip ≡ 2 ^ c.args.machine.now.n =
    omega (arith, c.loop-chip-test.false, c.loop-chip.auto.chip-end, c.chips-chip-end.ensures.value) in
    record {
      ok = c.loop-chip.invariant
          ∙ ap (λ (k : ℕ). c.args.text.now.items
          ++ flat_map (standing_text_at c.args.ways.now c.args.machine.now.machine) (range_with_len 0 k)) all;
    }

use Rattle.std.proofs.Common.{◌≡◌, ℕ, ◌++◌, ◌^◌, flat_map, ap, ◌∙◌, arith}
use Rattle.std.specs.List.{range_with_len}
use Rattle.lab_study.specs.Tables.{event_text, delivered_text_at, delivered_text}
use Rattle.lab_study.proofs.Sums.{text-more}
use Rattle.lab_study.proofs.tables.push_delivered.Goals as goal

pub loop-chip-preserved : goal.loop-chip-preserved
loop-chip-preserved c =
    text-more (delivered_text_at c.args.clock c.args.before.now c.args.ways.now c.args.machine.now.machine)
    c.args.text.now.items c.loop-chip.text.items c.push_events.new.text.items c.loop-chip.chip c.loop-chip.invariant
    (c.in_ok-push_events.ensures.ok
    ∙ ap (λ events. c.loop-chip.text.items ++ flat_map (event_text c.args.clock c.args.ways.now c.loop-chip.chip) events)
    c.events_behind-events.ensures.value)

pub returns : goal.returns
unfolding delivered_text
returns c =
    let all : c.loop-chip.chip ≡ 2 ^ c.args.machine.now.n =
    omega (arith, c.loop-chip-test.false, c.loop-chip.auto.chip-end, c.chips-chip-end.ensures.value) in
    record {
      ok = c.loop-chip.invariant
          ∙ ap (λ (k : ℕ). c.args.text.now.items
          ++ flat_map (delivered_text_at c.args.clock c.args.before.now c.args.ways.now c.args.machine.now.machine)
          (range_with_len 0 k)) all;
    }

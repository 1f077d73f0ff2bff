use Rattle.std.proofs.Common.{◌≡◌, ℕ, ◌++◌, ◌^◌, map, flat_map, sym, ap, ◌∙◌, arith}
use Rattle.std.specs.List.{range_with_len}
use Rattle.lab_study.specs.Holdings.{held, held_at, holdings}
use Rattle.lab_study.proofs.Sums.{flat_map-more}
use Rattle.lab_study.proofs.holdings.holdings.Goals as goal

pub loop-chip-preserved : goal.loop-chip-preserved
loop-chip-preserved c =
    let chip = c.loop-chip.chip in
    c.in_ok-push_held.ensures.ok
    ∙ (λ j. c.loop-chip.invariant j ++ map (held chip) (c.buffer.ensures.value j))
    ∙ sym (flat_map-more (held_at c.args.machine.now.machine) chip)

pub returns : goal.returns
unfolding holdings
returns c =
    let all : c.loop-chip.chip ≡ 2 ^ c.args.machine.now.n =
    omega (arith, c.loop-chip-test.false, c.loop-chip.auto.chip-end, c.chips-chip-end.ensures.value) in
    record {
      value = c.loop-chip.invariant
          ∙ ap (λ (k : ℕ). flat_map (held_at c.args.machine.now.machine) (range_with_len 0 k)) all;
    }

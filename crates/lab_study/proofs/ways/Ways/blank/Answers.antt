use Rattle.std.proofs.Common.{◌≡◌, ℕ, ◌++◌, ◌∷◌, ◌^◌, List, [], map, sym, ap, ◌∙◌, arith}
use Rattle.std.proofs.lemmas.List.{map-append}
use Rattle.cm_model.specs.Each.{tabulate}
use Rattle.lab_study.specs.declared.trace.Trace.{Trace}
use Rattle.lab_study.specs.Traces.{by_sender}
use Rattle.lab_machine.proofs.Tabulating.{tabulate-more}
use Rattle.lab_study.proofs.ways.Ways.blank.Goals as goal

pub loop-chip-init : goal.loop-chip-init
unfolding tabulate
loop-chip-init c = record {
  so_far = ap (map (λ traces. traces.items)) c.in_ok-by_sender.ensures.items;
  within = omega arith;
}

pub loop-chip-preserved : goal.loop-chip-preserved
loop-chip-preserved c =
    let none : ℕ → List Trace = λ b. [] in
    record {
      so_far = ap (map (λ traces. traces.items)) c.in-Ok.ensures.items
          ∙ map-append (λ traces. traces.items) c.loop-chip.by_sender.items (c.no_traces.result ∷ [])
          ∙ (λ j. c.loop-chip.invariant.so_far j ++ c.no_traces.ensures.value j ∷ [])
          ∙ sym (tabulate-more none c.loop-chip._chip);
      within = omega (arith, c.loop-chip-test.true);
    }

pub returns : goal.returns
unfolding by_sender
returns c =
    let all : c.loop-chip._chip ≡ 2 ^ c.args.machine.now.n = omega (
      arith,
      c.loop-chip-test.false,
      c.loop-chip.invariant.within,
      c.chips-chips.ensures.value,
    ) in
    let none : ℕ → List Trace = λ b. [] in
    record { value = c.loop-chip.invariant.so_far ∙ ap (λ (k : ℕ). tabulate 0 k none) all }

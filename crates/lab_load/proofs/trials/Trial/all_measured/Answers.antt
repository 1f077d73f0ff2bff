use Rattle.std.proofs.Common.{ℕ, ◌+◌, length, subst, ap, ◌∙◌}
use Rattle.std.proofs.lemmas.List.{length_push}
use Rattle.lab_load.specs.declared.figures.Figures.{Figures}
use Rattle.lab_load.specs.declared.trials.Trial.{Trial}
use Rattle.lab_load.specs.Spreads.{seeded}
use Rattle.lab_load.specs.Trials.{AreFiguresOf}
use Rattle.lab_load.proofs.Adding.{each_pushed}
use Rattle.lab_load.proofs.trials.Trial.all_measured.Goals as goal

pub loop-k-preserved : goal.loop-k-preserved
loop-k-preserved c =
    let trial = c.args.self.now in
    let before = c.loop-k.loads.items in
    record {
      count = ap length c.in_ok-push_load.ensures.ok
          ∙ (length_push before c.in_ok-figures.figures ∙ ap (λ (n : ℕ). n + 1) c.loop-k.invariant.count);
      each = each_pushed
          (λ (k : ℕ) (f : Figures). AreFiguresOf (seeded trial k) c.args.targets.now c.args.cuts.now c.args.rate f)
          before c.push_load.new.loads.items c.in_ok-figures.figures c.loop-k.k c.loop-k.invariant.count
          c.in_ok-push_load.ensures.ok
          (subst (λ (t : Trial). AreFiguresOf t c.args.targets.now c.args.cuts.now c.args.rate c.in_ok-figures.figures)
          c.seeded.ensures.value c.in_ok-figures.ensures.value)
          c.loop-k.invariant.each;
    }

-- How a watcher is told of one act more.
use Rattle.std.proofs.Common.{◌≡◌, ℕ, ◌+◌, add-one, subst, sym, ◌∙◌}
use Rattle.lab_study.specs.Watching.{WasTold}

-- it is told that one act more is done
pub one_more_told : {W : Type 0} (sees : W → ℕ → ℕ → W → Type 0) (all : ℕ) (from : W) (done : ℕ) (at : W)
    (number count : ℕ) (to : W) → number ≡ done + 1 → count ≡ all → WasTold sees all from done at → sees at number count to
    → WasTold sees all from (done + 1) to
one_more_told {W} sees all from done at number count to next whole told now =
    subst (λ (k : ℕ). WasTold sees all from k to) (sym (add-one done))
    (at, told, subst (λ (k : ℕ). sees at k all to) (next ∙ add-one done) (subst (λ (k : ℕ). sees at number k to) whole now))

-- The account after a run.
use Rattle.std.proofs.Common.{◌≡◌, ℕ, List, ◌++◌, sym, subst}
use Rattle.cm_model.specs.declared.act.Act.{Act}
use Rattle.cm_model.specs.Machine.{Machine, run_of}
use Rattle.cm_model.specs.Account.{account, newly_injected, SameLines}
use Rattle.cm_model.proofs.Accounting.{account_is_conserved}

-- it is that before the run, and the lines of what was injected
pub account_after_run : (n cap : ℕ) (before after : Machine) (acts : List Act) → after ≡ run_of n cap before acts
    → SameLines (account n after) (account n before ++ newly_injected n before after)
account_after_run n cap before after acts is =
    subst (λ (m : Machine). SameLines (account n m) (account n before ++ newly_injected n before m)) (sym is)
    (account_is_conserved n cap before acts)

-- Laws of studies, each the contract of a function of its name. Ours.
use Rattle.std.specs.Prelude.{◌≡◌, ℕ, ◌+◌, [], ◌∷◌, length}
use Rattle.cm_model.specs.declared.act.Act.TheVariants.{Cycle}
use Rattle.cm_model.specs.Machine.{Machine, run_of}
use Rattle.cm_model.specs.Account.{newly_injected}
use Rattle.cm_model.specs.Deliveries.{standing_lines, newly_delivered}
use Rattle.lab_study.specs.declared.counts.Counts.{Counts}
use Rattle.lab_study.specs.Counts.{log_lengths, counts_of}
use Rattle.lab_study.specs.Traces.{Traces}

-- the numbers of a petit cycle are those of the lines of the account: of what was injected, what was delivered and
-- what stands; and what stood before and was taken was delivered or stands
pub record AgreesWithTheAccount (n : ℕ) (before after : Machine) (counts : Counts) : Type 0 where
  pub taken : counts.taken ≡ length (newly_injected n before after)
  pub delivered : counts.delivered ≡ length (newly_delivered n before after)
  pub standing : counts.standing ≡ length (standing_lines n after)
  pub balance : length (standing_lines n before) + counts.taken ≡ counts.standing + counts.delivered

-- so it is of every petit cycle
abbrev pub CountsAgreeWithTheAccount : Type 0
CountsAgreeWithTheAccount = (n cap : ℕ) (traces : Traces) (machine : Machine)
    → AgreesWithTheAccount n machine (run_of n cap machine (Cycle ∷ []))
    (counts_of n cap (log_lengths n machine) traces (run_of n cap machine (Cycle ∷ [])))

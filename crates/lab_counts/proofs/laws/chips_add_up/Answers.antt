use Rattle.lab_counts.proofs.Together.{chips_through-together}
use Rattle.lab_counts.proofs.laws.chips_add_up.Goals as goal

pub returns : goal.returns
returns c = record {
  after_a_cycle = λ n cap machine dims chips within all same.
      chips_through-together n cap machine dims chips n within all same;
}

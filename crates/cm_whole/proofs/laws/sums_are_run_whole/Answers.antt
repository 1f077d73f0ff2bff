use Rattle.cm_whole.proofs.Example.{accepted, whole, poked}
use Rattle.cm_whole.proofs.laws.sums_are_run_whole.Goals as goal

pub returns : goal.returns
returns c = record { accepted = accepted; whole = whole; poked = poked }

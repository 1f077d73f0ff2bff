use Rattle.cm_truth.proofs.Entries.{looked_up}
use Rattle.cm_truth.proofs.alone.apply_alone.Goals as goal

pub returns : goal.returns
returns c = record { value = λ p h. rw c.from.ensures (looked_up c.args.table c.args.a c.args.b c.args.f p h) }

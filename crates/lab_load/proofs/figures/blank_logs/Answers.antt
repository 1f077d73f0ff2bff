use Rattle.std.proofs.Common.{rules, []}
use Rattle.std.proofs.iter.runs.Sources.{ranges}
use Rattle.lab_load.proofs.Emptying.{readings-alike}
use Rattle.lab_load.proofs.figures.blank_logs.Goals as goal

pub returns : goal.returns
returns c = record { value = readings-alike _ [] _ _ (search (rules, ranges)) (λ k d below. search (rules, ranges)) }

use Rattle.std.proofs.Common.{rules}
use Rattle.std.proofs.iter.runs.Sources.{ranges}
use Rattle.cm_subcube.proofs.Exchanging.{no_lane}
use Rattle.cm_subcube.proofs.parcel.no_messages.Goals as goal

pub returns : goal.returns
returns c = record { value = no_lane _ _ (search (rules, ranges)) (λ k d below. search (rules, ranges)) }

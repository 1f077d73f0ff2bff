use Rattle.lab_load.proofs.Conserving.{taken_are_delivered_or_stand, stood_are_delivered_or_stand}
use Rattle.lab_load.proofs.laws.messages_are_delivered_or_stand.Goals as goal

pub returns : goal.returns
returns c = record { taken = taken_are_delivered_or_stand; stood = stood_are_delivered_or_stand }

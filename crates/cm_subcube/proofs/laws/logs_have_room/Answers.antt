use Rattle.cm_subcube.proofs.Counting.{events_shared, deliveries_shared}
use Rattle.cm_subcube.proofs.laws.logs_have_room.Goals as goal

pub returns : goal.returns
returns c = record { events = events_shared; counts = deliveries_shared }

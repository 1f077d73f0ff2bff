use Rattle.std.proofs.Common.{◌≡◌, ◌+◌, ◌-◌, ◌<◌, ◌≤◌, length, set, vec_len, vec_capacity}
use Rattle.cm_model.specs.Array.{chip_at}
use Rattle.cm_model.specs.Chip.{IsPlane}
use Rattle.cm_model.specs.Letters.{can_receive}
use Rattle.cm_model.proofs.Scan.{Scan}
use Rattle.cm_router.specs.Deliveries.{run_after, AreBefore}
use Rattle.cm_router.proofs.node.Node.deliver.Given as goal

abbrev pub invariant-loop-place : goal.invariant-loop-place
invariant-loop-place l = record {
  scan : Scan (chip_at l.run l.chip) l.fn.self.messages l.fn.log.items l.here
      (chip_at (run_after l.deliveries l.run) l.chip) l.self-inside.messages.items l.place l.log.items;
  others : run_after l.deliveries l.run ≡ set l.run l.chip (chip_at (run_after l.deliveries l.run) l.chip);
  receivers : IsPlane l.receivers (can_receive (chip_at (run_after l.deliveries l.run) l.chip));
  before : AreBefore (l.chip + 1) l.deliveries;
  numbers : record {
    room : l.self-inside.room ≡ l.fn.self.room;
    places : length l.deliveries + (length l.self-inside.messages.items - l.place) ≤ 15;
    log_room : vec_len l.log + (length l.self-inside.messages.items - l.place) ≤ vec_capacity l.log;
    log_len : vec_len l.log + (length l.self-inside.messages.items - l.place) ≤ vec_len l.fn.log + l.fn.self.room;
    capacity : vec_capacity l.fn.log ≤ vec_capacity l.log;
    within : length l.self-inside.messages.items ≤ l.self-inside.room;
    some : 0 < l.self-inside.room;
    most : l.self-inside.room ≤ 15;
  };
}

abbrev pub decreases-loop-place : goal.decreases-loop-place
decreases-loop-place l = length l.self-inside.messages.items - l.place

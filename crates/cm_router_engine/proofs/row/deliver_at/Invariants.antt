use Rattle.std.proofs.Common.{◌≡◌, ◌+◌, ◌-◌, ◌≤◌, length, set, vec_len, vec_capacity}
use Rattle.cm_model.specs.Array.{chip_at, nth_or_nil}
use Rattle.cm_model.specs.Chip.{IsPlane}
use Rattle.cm_model.specs.Letters.{can_receive}
use Rattle.cm_router.specs.Deliveries.{run_after, AreBefore}
use Rattle.cm_router_engine.specs.Standing.{standing, HaveMessages, IsWritten}
use Rattle.cm_model.proofs.Scan.{Scan}
use Rattle.cm_router_engine.proofs.row.deliver_at.Given as goal

abbrev pub decreases-loop-ticket : goal.decreases-loop-ticket
decreases-loop-ticket l = length (nth_or_nil l.slots l.chip) + (15 - l.place)

abbrev pub invariant-loop-ticket : goal.invariant-loop-ticket
invariant-loop-ticket l = record {
  scan : Scan (chip_at (run_after l.fn.deliveries l.run) l.chip) (standing l.row (nth_or_nil l.fn.slots l.chip))
      l.fn.log.items l.here (chip_at (run_after l.deliveries l.run) l.chip) (standing l.row (nth_or_nil l.slots l.chip))
      l.place l.log.items;
  run : run_after l.deliveries l.run
      ≡ set (run_after l.fn.deliveries l.run) l.chip (chip_at (run_after l.deliveries l.run) l.chip);
  inside : l.chip + 1 ≤ length (run_after l.deliveries l.run);
  receivers : IsPlane l.receivers (can_receive (chip_at (run_after l.deliveries l.run) l.chip));
  before : AreBefore (l.chip + 1) l.deliveries;
  room : length l.deliveries + (length (nth_or_nil l.slots l.chip) - l.place) ≤ 128;
  kept : HaveMessages (length l.row) (nth_or_nil l.slots l.chip);
  fewer : length (nth_or_nil l.slots l.chip) ≤ length (nth_or_nil l.fn.slots l.chip);
  others : IsWritten l.chip l.fn.slots l.slots;
  len : vec_len l.log + (length (nth_or_nil l.slots l.chip) - l.place)
      ≤ vec_len l.fn.log + length (nth_or_nil l.fn.slots l.chip);
  capacity : vec_capacity l.fn.log ≤ vec_capacity l.log;
}

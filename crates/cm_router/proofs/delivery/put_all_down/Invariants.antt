use Rattle.std.proofs.Common.{◌≡◌, length, take}
use Rattle.cm_router.specs.Deliveries.{run_after}
use Rattle.cm_router.proofs.delivery.put_all_down.Given as goal

abbrev pub invariant-loop-delivery : goal.invariant-loop-delivery
invariant-loop-delivery l = record {
  run : l.run ≡ run_after (take l.delivery-index l.deliveries) l.fn.run;
  chips : length l.run ≡ length l.fn.run;
}

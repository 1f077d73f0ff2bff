use Rattle.std.proofs.Common.{◌≡◌, ◌+◌, true, false, [], ◌∷◌, List, remove, set, Some, get_or-set_same, length, sym, ap}
use Rattle.std.proofs.Common.{◌∙◌, arith, length-set}
use Rattle.std.proofs.lemmas.Grind.{elements}
use Rattle.std.proofs.lemmas.List.{length-map, append-nil}
use Rattle.std.proofs.lemmas.List.Edits.{length-remove}
use Rattle.std.proofs.lemmas.Option.{slice_get_within}
use Rattle.std.specs.List.{slice_get}
use Rattle.cm_model.specs.Processor.{Processor}
use Rattle.cm_model.specs.Array.{Chips, chip_at, nth_or_nil}
use Rattle.cm_model.specs.Letters.{chip_after_delivery}
use Rattle.cm_model.proofs.Leaving.{past_none}
use Rattle.cm_model.proofs.Scan.{HandsOver, scan_ends}
use Rattle.cm_router.specs.Deliveries.{run_after}
use Rattle.cm_router_engine.specs.Standing.{message_of_ticket}
use Rattle.cm_router_engine.proofs.Carrying.{without_kept}
use Rattle.cm_router_engine.proofs.Keeping.{written_again, scan_taken, scan_passed, scan_to}
use Rattle.cm_model.specs.Chip.{IsPlane}
use Rattle.cm_model.specs.Letters.{can_receive}
use Rattle.cm_router_engine.proofs.row.deliver_at.Goals as goal

pub next_given-place-requires-clause-kept : goal.next_given-place-requires-clause-kept
next_given-place-requires-clause-kept c =
    let queue = nth_or_nil c.loop-ticket.slots c.args.chip in
    let here : nth_or_nil c.remove.new.self c.args.chip ≡ remove queue c.loop-ticket.place = grind (arith, elements) in
    rw here (without_kept _ queue (Some c.loop-ticket.place) c.loop-ticket.invariant.kept)

pub next_given-place-requires-clause-from : goal.next_given-place-requires-clause-from
next_given-place-requires-clause-from c =
    let queue = nth_or_nil c.loop-ticket.slots c.args.chip in
    let here : nth_or_nil c.remove.new.self c.args.chip ≡ remove queue c.loop-ticket.place = grind (arith, elements) in
    let inside = slice_get_within queue c.loop-ticket.place c.in-Some.ticket (sym c.in-Some.ensures.value) in
    rw here (grind (arith, length-remove, inside))

pub loop-ticket-smaller-then-is_delivered : goal.loop-ticket-smaller-then-is_delivered
loop-ticket-smaller-then-is_delivered c =
    let queue = nth_or_nil c.loop-ticket.slots c.args.chip in
    let here : nth_or_nil c.remove.new.self c.args.chip ≡ remove queue c.loop-ticket.place = grind (arith, elements) in
    let inside = slice_get_within queue c.loop-ticket.place c.in-Some.ticket (sym c.in-Some.ensures.value) in
    let long : length (nth_or_nil c.remove.new.self c.args.chip) + 1 ≡ length queue =
    rw here (grind (arith, length-remove, inside)) in
    omega (arith, long, c.next_given-place.ensures.from)

pub next_given-place-requires-else-is_delivered-clause-from
    : goal.next_given-place-requires-else-is_delivered-clause-from
next_given-place-requires-else-is_delivered-clause-from c =
    let queue = nth_or_nil c.loop-ticket.slots c.args.chip in
    omega (arith, slice_get_within queue c.loop-ticket.place c.in-Some.ticket (sym c.in-Some.ensures.value))

pub loop-ticket-preserved-then-is_delivered : goal.loop-ticket-preserved-then-is_delivered
loop-ticket-preserved-then-is_delivered c =
    let was = c.loop-ticket.invariant in
    let step = c.if-is_delivered.ensures in
    let run : Chips = c.args.run.now in
    let place = c.args.chip in
    let first : Chips = run_after c.args.deliveries.now run in
    let old : Chips = run_after c.loop-ticket.deliveries run in
    let m = message_of_ticket c.args.row.now c.in-Some.ticket in
    let chip : List Processor = chip_after_delivery (m ∷ []) (chip_at old place) in
    let put = step.later run in
    let now : chip_at (run_after c.is_delivered.new.deliveries run) place ≡ chip =
    ap (λ (r : Chips). chip_at r place) put ∙ get_or-set_same old place chip [] (omega (arith, was.inside)) in
    let next : HandsOver true (chip_at first place) m (chip_at old place) chip =
    λ seen gone. step.step (chip_at first place) (chip_at old place) seen gone was.receivers in
    let queue = nth_or_nil c.loop-ticket.slots place in
    let is : Some c.in-Some.ticket ≡ slice_get queue c.loop-ticket.place = c.in-Some.ensures.value in
    let inside = slice_get_within queue c.loop-ticket.place c.in-Some.ticket (sym is) in
    let here : nth_or_nil c.remove.new.self place ≡ remove queue c.loop-ticket.place = grind (arith, elements) in
    let passing = c.next_given-place.ensures in
    let able : IsPlane c.is_delivered.new.receivers
    (can_receive (chip_at (run_after c.is_delivered.new.deliveries run) place)) =
    rw now (step.receivers (chip_at first place) (chip_at old place) was.scan.seen was.scan.gone was.receivers) in
    record {
      scan = scan_to c.loop-ticket.place c.next_given-place.result c.args.row.now (nth_or_nil c.remove.new.self place)
          passing.from passing.within
          (λ j t from below at. passing.passed j t from below at (chip_at first place) _ able)
          (rw (here, step.log, now) (scan_taken c.args.row.now queue c.in-Some.ticket is was.scan next));
      run = written_again place first old _ chip put now was.run;
      inside = omega (arith, was.inside, ap length put, length-set old place chip);
      receivers = able;
      before = step.before (place + 1) (omega arith) was.before;
      room = grind (arith, length-remove, step.count);
      kept = rw here (without_kept _ queue (Some c.loop-ticket.place) was.kept);
      fewer = grind (arith, length-remove);
      others = written_again c.args.chip c.args.slots.now _ _ _ c.remove.ensures.value here was.others;
      len = grind (arith, length-remove);
      capacity = omega (arith, was.capacity, step.capacity);
    }

pub loop-ticket-preserved : goal.loop-ticket-preserved
loop-ticket-preserved c =
    let was = c.loop-ticket.invariant in
    let step = c.if-is_delivered.ensures in
    let run : Chips = c.args.run.now in
    let place = c.args.chip in
    let first : Chips = run_after c.args.deliveries.now run in
    let old : Chips = run_after c.loop-ticket.deliveries run in
    let m = message_of_ticket c.args.row.now c.in-Some.ticket in
    let chip : List Processor = chip_at old place in
    let put = step.later run in
    let now : chip_at (run_after c.is_delivered.new.deliveries run) place ≡ chip =
    ap (λ (r : Chips). chip_at r place) put ∙ get_or-set_same old place chip [] (omega (arith, was.inside)) in
    let next : HandsOver false (chip_at first place) m chip chip =
    λ seen gone. step.step (chip_at first place) chip seen gone was.receivers in
    let queue = nth_or_nil c.loop-ticket.slots place in
    let is : Some c.in-Some.ticket ≡ slice_get queue c.loop-ticket.place = c.in-Some.ensures.value in
    let passing = c.next_given-place-else-is_delivered.ensures in
    let able : IsPlane c.is_delivered.new.receivers
    (can_receive (chip_at (run_after c.is_delivered.new.deliveries run) place)) =
    rw now (step.receivers (chip_at first place) chip was.scan.seen was.scan.gone was.receivers) in
    record {
      scan = scan_to (c.loop-ticket.place + 1) c.next_given-place-else-is_delivered.result c.args.row.now queue
          passing.from passing.within
          (λ j t from below at. passing.passed j t from below at (chip_at first place) _ able)
          (rw (step.log, append-nil, now) (scan_passed c.args.row.now queue c.in-Some.ticket is was.scan next));
      run = written_again place first old _ chip put now was.run;
      inside = omega (arith, was.inside, ap length put, length-set old place chip);
      receivers = able;
      before = step.before (place + 1) (omega arith) was.before;
      room = grind (arith, step.count);
      kept = was.kept;
      fewer = was.fewer;
      others = was.others;
      len = grind arith;
      capacity = omega (arith, was.capacity, step.capacity);
    }

pub returns : goal.returns
returns c =
    let was = c.loop-ticket in
    let queue = nth_or_nil was.slots c.args.chip in
    let past = past_none queue was.place (sym c.in_default.ensures.value) in
    let all = scan_ends _ _ _ _ _ _ _ _ was.invariant.scan (rw length-map past) in
    record {
      value = all.value;
      kept = was.invariant.kept;
      fewer = was.invariant.fewer;
      others = was.invariant.others;
      chip = was.invariant.run ∙ ap (set (run_after c.args.deliveries.now c.args.run.now) c.args.chip) all.chip_is;
      before = was.invariant.before;
      log = all.log_is;
      len = omega (arith, was.invariant.len);
      capacity = was.invariant.capacity;
    }

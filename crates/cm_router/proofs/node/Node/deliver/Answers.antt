use Rattle.std.proofs.Common.{◌≡◌, ◌<◌, ◌+◌, true, false, [], ◌∷◌, List, ap, sym, ◌∙◌, arith, get_or, set, length}
use Rattle.std.proofs.lemmas.List.{append-nil, set-get_or, set-set}
use Rattle.cm_model.specs.Processor.{Processor}
use Rattle.cm_model.specs.Array.{Chips, chip_at}
use Rattle.cm_model.specs.Letters.{chip_after_delivery}
use Rattle.cm_model.proofs.Scan.{HandsOver, scan_begins, scan_accepts, scan_keeps}
use Rattle.cm_router.specs.Deliveries.{run_after}
use Rattle.cm_router.proofs.Delivering.{length_run_after, chip_then}
use Rattle.cm_router.proofs.node.Node.deliver.Goals as goal

pub loop-place-init : goal.loop-place-init
loop-place-init c =
    let none = c.new-deliveries.ensures.value in
    record {
      scan = rw (none, ap (λ node. node.messages) c.self.view_is)
          (scan_begins _ _ _ _ (rw none at c.receivers-receivers.ensures.gone));
      others = rw none (sym (set-get_or c.args.run.now c.args.chip []));
      receivers = c.receivers-receivers.ensures.value;
      before = rw none (λ k d l. absurd (omega arith));
      numbers = grind (arith, none);
    }

pub loop-place-preserved-then-hand_over : goal.loop-place-preserved-then-hand_over
loop-place-preserved-then-hand_over c =
    let here = c.loop-place in
    let was = here.invariant in
    let run : Chips = c.args.run.now in
    let place = c.args.chip in
    let before : List Processor = chip_at run place in
    let given = c.hand_over.ensures in
    let m = c.index-deref-place.result in
    let next : get_or here.self-inside.messages.items here.place m ≡ m = grind arith in
    let told = rw c.if-hand_over.true at given.log in
    let one = rw c.if-hand_over.true at given.count in
    let put = rw c.if-hand_over.true at (given.later run) in
    let old : Chips = run_after here.deliveries run in
    let inside : place < length old = omega (arith, c.requires.chip, length_run_after here.deliveries run) in
    let chip : List Processor = chip_after_delivery (m ∷ []) (chip_at old place) in
    let now : chip_at (run_after c.hand_over.new.self run) place ≡ chip = chip_then old _ place chip inside put in
    let step : HandsOver true before m (chip_at old place) chip =
    λ seen gone. rw c.if-hand_over.true at (given.step before (chip_at old place) seen gone was.receivers) in
    record {
      scan = rw (c.remove.ensures.items, told, now)
          (scan_accepts _ _ _ _ _ _ _ _ _ _ was.scan (omega arith) next step);
      others = put ∙ ap (λ (r : Chips). set r place chip) was.others ∙ set-set run place (chip_at old place) chip
          ∙ ap (set run place) (sym now);
      receivers = rw now (rw c.if-hand_over.true at
          (given.receivers before (chip_at old place) was.scan.seen was.scan.gone was.receivers));
      before = given.before (place + 1) (omega arith) was.before;
      numbers = grind (arith, one);
    }

pub loop-place-preserved : goal.loop-place-preserved
loop-place-preserved c =
    let here = c.loop-place in
    let was = here.invariant in
    let run : Chips = c.args.run.now in
    let place = c.args.chip in
    let before : List Processor = chip_at run place in
    let given = c.hand_over.ensures in
    let m = c.index-deref-place.result in
    let next : get_or here.self-inside.messages.items here.place m ≡ m = grind arith in
    let told = rw (c.if-hand_over.false, append-nil) at given.log in
    let none = rw c.if-hand_over.false at given.count in
    let put = rw c.if-hand_over.false at (given.later run) in
    let old : Chips = run_after here.deliveries run in
    let inside : place < length old = omega (arith, c.requires.chip, length_run_after here.deliveries run) in
    let chip : List Processor = chip_at old place in
    let now : chip_at (run_after c.hand_over.new.self run) place ≡ chip = chip_then old _ place chip inside put in
    let step : HandsOver false before m chip chip =
    λ seen gone. rw c.if-hand_over.false at (given.step before chip seen gone was.receivers) in
    record {
      scan = rw (told, now) (scan_keeps _ _ _ _ _ _ _ _ _ _ was.scan (omega arith) next step);
      others = put ∙ ap (λ (r : Chips). set r place chip) was.others ∙ set-set run place chip chip
          ∙ ap (set run place) (sym now);
      receivers = rw now (rw c.if-hand_over.false at
          (given.receivers before chip was.scan.seen was.scan.gone was.receivers));
      before = given.before (place + 1) (omega arith) was.before;
      numbers = grind (arith, none);
    }

use Rattle.std.proofs.Common.{◌≡◌, ◌+◌, ◌^◌, ◌<◌, ◌∙◌, length, get_or, ap, inl, inr, ⊎_elim, arith}
use Rattle.std.specs.List.{All}
use Rattle.cm_model.specs.Array.{nth_or_nil}
use Rattle.cm_model.specs.Wiring.{way_of}
use Rattle.cm_model.proofs.Each.{length-tabulate}
use Rattle.cm_model.proofs.Flips.{across_below}
use Rattle.cm_router.specs.Routes.{routing_of}
use Rattle.cm_router_engine.specs.Standing.{HasMessage}
use Rattle.cm_router_engine.proofs.Carrying.{gone_kept, kept_more}
use Rattle.cm_router_engine.proofs.Leaving.{space_across, crossed}
use Rattle.cm_router_engine.proofs.routed.cross_by_chip.Goals as goal

pub take_in_by_chip-requires : goal.take_in_by_chip-requires
take_in_by_chip-requires c =
    let row = c.args.row.now in
    let routing = routing_of c.args.routing.now in
    let left = c.leave_by_chip.new.slots in
    let gone = c.leave_by_chip.new.leavers in
    let old = c.args.slots.now in
    let d = c.args.dim in
    let room = c.args.sizes.room in
    let many : length left ≡ 2 ^ c.args.span =
    ap length c.leave_by_chip.ensures.value ∙ (length-tabulate 0 (length old) _ ∙ c.requires.count) in
    let lanes : length gone ≡ 2 ^ c.args.span =
    ap length c.leave_by_chip.ensures.going ∙ (length-tabulate 0 (length old) _ ∙ c.requires.count) in
    let kept : All (HasMessage (length row)) gone =
    rw c.leave_by_chip.ensures.going
    (gone_kept room d (length row) (λ b. way_of routing (c.args.first + b) d) row old c.requires.kept (length old)) in
    record {
      dim = omega (arith, c.requires.dim, c.requires.span, c.args.sizes.bounds.dimension);
      rows = omega (arith, many, lanes);
      across = λ b l. rw many (across_below c.args.span d b c.requires.dim (rw many at l));
      numbers = λ k e l. kept_more (length row) 65535 (get_or gone k e) c.requires.few (kept k e l);
      space = λ b l. ⊎_elim (λ none. inl none) (λ (less : length (nth_or_nil left b) < room).
          inr (omega (arith, less, c.args.sizes.bounds.most_room)))
          (space_across row routing room d c.args.span c.args.first old left gone c.requires.begins c.requires.dim
          c.requires.count c.leave_by_chip.ensures.value c.leave_by_chip.ensures.going c.requires.within
          (omega (arith, c.args.sizes.bounds.some_room)) b (rw many at l));
    }

pub returns : goal.returns
returns c = record {
  value = c.take_in_by_chip.ensures.value
      ∙ crossed c.args.row.now (routing_of c.args.routing.now) c.args.sizes.room c.args.dim c.args.span c.args.first
      c.args.slots.now c.leave_by_chip.new.slots c.leave_by_chip.new.leavers c.requires.begins c.requires.dim
      c.requires.count c.leave_by_chip.ensures.value c.leave_by_chip.ensures.going;
}

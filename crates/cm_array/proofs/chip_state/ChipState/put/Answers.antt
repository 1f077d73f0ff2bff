use Rattle.std.proofs.Common.{◌≡◌, List, length, ap, sym, ◌∙◌, subst}
use Rattle.cm_model.specs.declared.message.Message.{Message}
use Rattle.cm_model.specs.declared.message.Event.{Event}
use Rattle.std.specs.List.{All}
use Rattle.cm_model.specs.Array.{Chips}
use Rattle.cm_model.specs.Wiring.{Routing, IsWireOf}
use Rattle.cm_blocks.specs.Parts.{sliced}
use Rattle.cm_router.specs.Logs.{Log}
use Rattle.cm_petit.specs.Routers.{events_of}
use Rattle.cm_array.specs.Cuts.{PartView, IsLaid}
use Rattle.cm_array.proofs.Lists.{items-lent}
use Rattle.cm_array.proofs.Laying.{all_chips_laid, cut_all}
use Rattle.cm_array.proofs.chip_state.ChipState.put.Goals as goal

pub returns-clause-chips : goal.returns-clause-chips
returns-clause-chips c =
    let from = c.piece.inside.state in
    subst (λ (chips : Chips). IsLaid c.args.at chips c.args.self.now.run c.lay.new.self)
    (ap (λ (k : PartView). k.part.chips) c.piece.view_is)
    (all_chips_laid c.args.at c.chips-count.result from.run c.args.self.now.run c.lay.new.self
    c.chips-count.ensures.value c.lay.ensures.value)

pub returns-clause-buffers : goal.returns-clause-buffers
returns-clause-buffers c =
    let from = c.piece.inside.state in
    let all = c.chips-count.ensures.value ∙ sym c.piece.invariant.buffer_count in
    subst (λ (buffers : List (List Message)).
    IsLaid c.args.at buffers c.args.self.now.crossing.buffers c.lay_buffers.new.to.buffers)
    (ap (sliced 0 c.chips-count.result) c.gather.ensures.value ∙ cut_all c.chips-count.result from.crossing.buffers all
    ∙ ap (λ (k : PartView). k.part.buffers) c.piece.view_is) c.lay_buffers.ensures.value

pub returns-clause-logs : goal.returns-clause-logs
returns-clause-logs c =
    let from = c.piece.inside.state in
    let old : List Log = c.args.self.now.logs.items in
    let is : c.deref_mut.result.now ≡ old = c.deref_mut.ensures.value in
    let lent = items-lent c.args.self.now.logs c.move_logs.new.to (c.move_logs.auto.to ∙ ap length is) in
    let first = subst (λ (events : List (List Event)).
    IsLaid c.args.at events (events_of c.deref_mut.result.now) (events_of c.move_logs.new.to))
    (ap events_of c.deref_mut-2.ensures.value ∙ ap (λ (k : PartView). k.part.logs) c.piece.view_is)
    c.move_logs.ensures.value in
    let next = subst (λ (logs : List Log). IsLaid c.args.at c.args.piece.now.part.logs (events_of logs)
    (events_of c.move_logs.new.to))
    is first in
    subst (λ (logs : List Log). IsLaid c.args.at c.args.piece.now.part.logs (events_of old) (events_of logs))
    (sym lent) next

pub route_as-requires : goal.route_as-requires
route_as-requires c = record {
  within = subst (λ (r : Routing). All (IsWireOf c.args.self.now.routing.cuts.dims) r.cuts)
      (ap (λ (k : PartView). k.part.routing) (sym c.piece.view_is)) c.requires.wires;
}

pub returns-clause-routing : goal.returns-clause-routing
returns-clause-routing c =
    c.route_as.ensures.value ∙ ap (λ (k : PartView). k.part.routing) c.piece.view_is

use Rattle.std.proofs.Common.{ℕ, List, [], IsTrue, length, ap, sym, ◌∙◌, subst}
use Rattle.cm_model.specs.declared.message.Message.{Message}
use Rattle.cm_model.specs.declared.message.Event.{Event}
use Rattle.cm_model.specs.Chip.{blank_chip}
use Rattle.cm_model.specs.Each.{tabulate}
use Rattle.cm_model.proofs.Each.{length-tabulate}
use Rattle.cm_router.specs.declared.routing.Routing.{Routing}
use Rattle.cm_router.specs.Routes.{routing_of}
use Rattle.cm_router_engine.specs.Standing.{InFlight}
use Rattle.cm_array.proofs.chip_state.ChipState.blank.Goals as goal

pub returns : goal.returns
returns c =
    let is = c.in_ok-state.ensures.value in
    let shape = c.in_ok-state.ensures.shape in
    let many = ap length c.in_ok-run.ensures.value ∙ length-tabulate 0 c.args.chips (λ k. blank_chip) in
    record {
      value = record {
        dims = λ i. (shape i).dims;
        room = λ i. (shape i).room;
        chips = is.chips ∙ c.in_ok-run.ensures.value;
        logs = c.in_ok-state-2.ensures.value
            ∙ ap (λ (k : ℕ). tabulate {X = List Event} 0 k (λ b. [])) c.from-count.ensures;
        row = is.row;
        clock = is.clock;
        sent = is.sent ∙ many;
        incoming = is.incoming ∙ many;
        buffers = ap (λ (crossing : InFlight). crossing.buffers) is.crossing ∙ c.in_ok-crossing.ensures.value
            ∙ ap (λ (k : ℕ). tabulate {X = List Message} 0 k (λ b. [])) c.from-count.ensures;
        gathered = subst (λ (crossing : InFlight). IsTrue crossing.gathered) (sym is.crossing)
            c.in_ok-crossing.ensures.gathered;
        cube = ap (λ (r : Routing). r.cuts.dims) is.routing ∙ c.in_ok-routing.ensures.dims;
        routing = ap routing_of is.routing ∙ c.in_ok-routing.ensures.value;
      };
    }

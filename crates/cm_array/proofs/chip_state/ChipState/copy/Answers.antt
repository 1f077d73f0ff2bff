use Rattle.std.proofs.Common.{length, ap, ◌∙◌, rules}
use Rattle.cm_petit.specs.Routers.{events_of}
use Rattle.cm_array.proofs.chip_state.ChipState.copy.Goals as goal

pub returns : goal.returns
returns c = record {
  value = record {
    shape = c.in_ok-copy.ensures.shape;
    chips = c.in_ok-copy.ensures.value.chips ∙ c.in_ok-run.ensures.value;
    logs = c.in_ok-copy-2.ensures.value ∙ ap events_of c.deref.ensures.value;
    row = search rules;
    clock = c.in_ok-copy.ensures.value.clock;
    sent = c.in_ok-copy.ensures.value.sent ∙ ap length c.in_ok-run.ensures.value;
    incoming = c.in_ok-copy.ensures.value.incoming ∙ ap length c.in_ok-run.ensures.value;
    crossing = c.in_ok-copy.ensures.value.crossing ∙ c.in_ok-crossing.ensures.value;
    routing = c.in_ok-copy.ensures.value.routing ∙ c.in_ok-routing.ensures.value;
  };
}

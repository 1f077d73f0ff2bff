use Rattle.std.proofs.Common.{◌≡◌, ◌<◌, length, get_or, below_more, sym, ap, ◌∙◌, arith}
use Rattle.std.proofs.lemmas.Option.{slice_get_within, get_or_from_slice_get}
use Rattle.cm_model.specs.Array.{nth_or_nil}
use Rattle.cm_model.proofs.Leaving.{past_none}
use Rattle.cm_slots.specs.Tickets.{has_to_go}
use Rattle.cm_router_engine.specs.Standing.{no_ticket}
use Rattle.cm_router_engine.proofs.Places.{found, none_found}
use Rattle.cm_router_engine.proofs.choosing.first_to_cross.Goals as goal

pub returns-then-has_to_go : goal.returns-then-has_to_go
returns-then-has_to_go c =
    let ts = nth_or_nil c.args.slots.now c.args.chip in
    let place = c.loop-ticket.place in
    let t = c.in-Some.ticket in
    let inside : place < length ts = slice_get_within ts place t (sym c.in-Some.ensures.value) in
    let is : get_or ts place no_ticket ≡ t = get_or_from_slice_get ts place t no_ticket (sym c.in-Some.ensures.value) in
    record {
      value = found (has_to_go c.args.dim) ts place no_ticket inside
          (ap (has_to_go c.args.dim) is ∙ (sym c.has_to_go.ensures.value ∙ c.if-has_to_go.true))
          c.loop-ticket.invariant.none;
      within = inside;
    }

pub loop-ticket-preserved : goal.loop-ticket-preserved
loop-ticket-preserved c =
    let ts = nth_or_nil c.args.slots.now c.args.chip in
    let t = c.in-Some.ticket in
    let is : get_or ts c.loop-ticket.place no_ticket ≡ t =
    get_or_from_slice_get ts c.loop-ticket.place t no_ticket (sym c.in-Some.ensures.value) in
    record {
      none = below_more _ _ c.loop-ticket.invariant.none
          (ap (has_to_go c.args.dim) is ∙ (sym c.has_to_go.ensures.value ∙ c.if-has_to_go.false));
      most = omega (arith, c.in-Some.ensures.most);
    }

pub returns-clause-value : goal.returns-clause-value
returns-clause-value c =
    let ts = nth_or_nil c.args.slots.now c.args.chip in
    let past = past_none ts c.loop-ticket.place (sym c.in_default.ensures.value) in
    none_found (has_to_go c.args.dim) ts no_ticket (λ k l. c.loop-ticket.invariant.none k (omega (arith, l, past)))

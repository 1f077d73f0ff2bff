use Rattle.std.proofs.Common.{◌≡◌, ◌<◌, [], length, get_or, set, sym, ◌∙◌, arith}
use Rattle.std.proofs.lemmas.Grind.{elements}
use Rattle.std.proofs.lemmas.List.{append_assoc, append-nil, map_more, take_all}
use Rattle.std.proofs.lemmas.Option.{slice_get_within, get_or_from_slice_get}
use Rattle.cm_model.specs.Array.{nth_or_nil}
use Rattle.cm_model.proofs.Leaving.{past_none}
use Rattle.cm_slots.specs.declared.ticket.Ticket.{Ticket}
use Rattle.cm_router_engine.specs.Standing.{message_of_ticket, no_ticket}
use Rattle.cm_router_engine.proofs.Keeping.{written_again}
use Rattle.cm_router_engine.proofs.row.carry_over.Goals as goal

pub loop-ticket-preserved : goal.loop-ticket-preserved
loop-ticket-preserved c =
    let was = c.loop-ticket.invariant in
    let kept = c.keep-number.ensures in
    let place = c.loop-ticket.place in
    let t = c.in-Some.ticket in
    let before = nth_or_nil c.args.slots.now c.args.here in
    let queue = nth_or_nil c.loop-ticket.slots c.args.here in
    let inside : place < length queue = slice_get_within queue place t (sym c.in-Some.ensures.value) in
    let same : get_or before place no_ticket ≡ t =
    sym (was.ahead place (omega arith)) ∙ get_or_from_slice_get queue place t no_ticket (sym c.in-Some.ensures.value) in
    let new : Ticket = record { rel = c.message_of-message.result.rel; number = c.keep-number.result } in
    let here : nth_or_nil c.replace.new.self c.args.here ≡ set queue place new = grind (arith, elements) in
    let more = map_more (message_of_ticket c.args.row.now) before place no_ticket (omega (arith, was.long)) in
    record {
      items = rw (kept.items, was.items, append_assoc, more, same, c.message_of-message.ensures.value);
      long = grind (arith, elements);
      done = grind (arith, elements);
      ahead = grind (arith, elements);
      others = written_again c.args.here c.args.slots.now _ _ _ c.replace.ensures.value here was.others;
      most = omega (arith, c.in-Some.ensures.most);
      len = omega (arith, was.len, kept.len);
      capacity = omega (arith, was.capacity, kept.capacity);
    }

pub returns : goal.returns
returns c =
    let was = c.loop-ticket.invariant in
    let queue = nth_or_nil c.loop-ticket.slots c.args.here in
    let past = past_none queue c.loop-ticket.place (sym c.in_default.ensures.value) in
    let all = take_all c.loop-ticket.place (nth_or_nil c.args.slots.now c.args.here) (omega (arith, was.long)) in
    record {
      items = rw all at was.items;
      value = record {
        begun = c.args.spare.now.items;
        rest = [];
        all = rw append-nil (rw all at was.items);
        long = was.long;
        each = λ j h. was.done j (omega (arith, was.long));
      };
      others = was.others;
      len = omega (arith, was.len, was.most);
      capacity = was.capacity;
    }

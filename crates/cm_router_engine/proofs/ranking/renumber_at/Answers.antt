use Rattle.std.proofs.Common.{◌≡◌, ℕ, ◌<◌, length, get_or, set, map, sym, ap, ◌∙◌, arith, ext_get_or, slice_index}
use Rattle.std.proofs.lemmas.Grind.{elements}
use Rattle.std.proofs.lemmas.List.{length-map, get_or-map}
use Rattle.std.proofs.lemmas.Option.{slice_get_within, get_or_from_slice_get}
use Rattle.cm_model.specs.Array.{nth_or_nil}
use Rattle.cm_model.proofs.Leaving.{past_none}
use Rattle.cm_slots.specs.declared.ticket.Ticket.{Ticket}
use Rattle.cm_router_engine.specs.Standing.{no_ticket}
use Rattle.cm_router_engine.specs.Ranking.{moved_ticket}
use Rattle.cm_router_engine.proofs.Keeping.{written_again}
use Rattle.cm_router_engine.proofs.ranking.renumber_at.Goals as goal

pub loop-ticket-preserved : goal.loop-ticket-preserved
loop-ticket-preserved c =
    let was = c.loop-ticket.invariant in
    let place = c.loop-ticket.place in
    let t = c.in-Some.ticket in
    let before = nth_or_nil c.args.slots.now c.args.here in
    let queue = nth_or_nil c.loop-ticket.slots c.args.here in
    let inside : place < length queue = slice_get_within queue place t (sym c.in-Some.ensures.value) in
    let same : get_or before place no_ticket ≡ t =
    sym (was.ahead place (omega arith)) ∙ get_or_from_slice_get queue place t no_ticket (sym c.in-Some.ensures.value) in
    let new : Ticket = record { rel = t.rel; number = slice_index c.args.moved.now c.from.result } in
    let is : new ≡ moved_ticket c.args.moved.now t =
    ap (λ (n : ℕ). record { rel = t.rel; number = slice_index c.args.moved.now n }) c.from.ensures in
    let here : nth_or_nil c.replace.new.self c.args.here ≡ set queue place new = grind (arith, elements) in
    record {
      long = grind (arith, elements);
      done = grind (arith, elements);
      ahead = grind (arith, elements);
      others = written_again c.args.here c.args.slots.now _ _ _ c.replace.ensures.value here was.others;
      most = omega (arith, c.in-Some.ensures.most);
    }

pub returns-clause-value : goal.returns-clause-value
returns-clause-value c =
    let was = c.loop-ticket.invariant in
    let f = moved_ticket c.args.moved.now in
    let before = nth_or_nil c.args.slots.now c.args.here in
    let queue = nth_or_nil c.loop-ticket.slots c.args.here in
    let past = past_none queue c.loop-ticket.place (sym c.in_default.ensures.value) in
    ext_get_or no_ticket queue (map f before) (was.long ∙ sym (length-map before f))
    (λ j l. was.done j (omega (arith, l, past))
    ∙ sym (get_or-map f before j no_ticket no_ticket (omega (arith, l, was.long))))

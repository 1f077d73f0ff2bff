use Rattle.std.proofs.Common.{◌≡◌, ◌++◌, [], ◌∷◌, sym, arith}
use Rattle.std.proofs.lemmas.Grind.{elements}
use Rattle.std.proofs.lemmas.List.{length-append, map-append, get_or_at}
use Rattle.cm_model.specs.Array.{nth_or_nil}
use Rattle.cm_slots.specs.declared.ticket.Ticket.{Ticket}
use Rattle.cm_router_engine.specs.Standing.{no_message}
use Rattle.cm_router_engine.proofs.Keeping.{standing_kept}
use Rattle.cm_router_engine.proofs.row.stand.Goals as goal

pub returns : goal.returns
returns c =
    let kept = c.keep-number.ensures in
    let m = c.args.message.now in
    let row = c.args.row.now.items in
    let queue = nth_or_nil c.args.slots.now c.args.here in
    let t : Ticket = record { rel = m.rel; number = c.keep-number.result } in
    let here : nth_or_nil c.arrive.new.self c.args.here ≡ queue ++ t ∷ [] = grind (arith, elements) in
    let others = standing_kept row (m ∷ []) queue c.requires.kept in
    let newest = get_or_at row m [] no_message c.keep-number.result (sym kept.number) in
    record {
      items = kept.items;
      value = rw (kept.items, here, map-append, others, newest);
      kept = grind (arith, elements);
      others = rw here c.arrive.ensures.value;
      long = rw (here, length-append);
      len = kept.len;
      capacity = kept.capacity;
    }

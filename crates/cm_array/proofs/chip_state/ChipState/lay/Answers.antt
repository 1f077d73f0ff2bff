use Rattle.std.proofs.Common.{ℕ, ◌+◌, List, length, ap, ◌∙◌, refl, arith}
use Rattle.std.proofs.lemmas.List.{length-map}
use Rattle.std.specs.List.{slice_range}
use Rattle.cm_blocks.specs.Parts.{sliced}
use Rattle.cm_router.specs.Logs.{Log}
use Rattle.cm_model.specs.declared.message.Event.{Event}
use Rattle.cm_petit.specs.Routers.{events_of}
use Rattle.cm_array.specs.Rows.{dealt}
use Rattle.cm_array.proofs.Dealing.{dealt-sliced}
use Rattle.cm_array.proofs.Machines.{length-logs, AreUnderWay-parts}
use Rattle.cm_array.proofs.Lists.{items-lent}
use Rattle.cm_array.proofs.Cutting.{within_fifteen, few_buffers, events_of-sliced}
use Rattle.cm_array.proofs.chip_state.ChipState.lay.Goals as goal

pub slice_bounds-lay_told-end : goal.slice_bounds-lay_told-end
slice_bounds-lay_told-end c =
    let old = c.args.from.now in
    let n = old.shape.dims in
    let cap = old.shape.room in
    omega (
      arith,
      c.requires.there,
      c.from-at.ensures,
      c.from-chips.ensures,
      c.deref.ensures.len,
      old.logs.ok.0,
      length-logs n cap old (AreUnderWay-parts n cap old c.requires.from),
    )

pub lay_all_buffers-requires-clause-few : goal.lay_all_buffers-requires-clause-few
lay_all_buffers-requires-clause-few c =
    few_buffers c.args.from.now.shape.dims c.args.from.now.shape.room c.args.from.now c.requires.from

pub lay_all_buffers-requires-clause-within : goal.lay_all_buffers-requires-clause-within
lay_all_buffers-requires-clause-within c =
    within_fifteen c.args.from.now.shape.dims c.args.from.now.shape.room c.args.from.now c.requires.from

pub returns : goal.returns
returns c =
    let old = c.args.from.now in
    let n = old.shape.dims in
    let cap = old.shape.room in
    let at = c.from-at.result in
    let chips = c.from-chips.result in
    let laid = items-lent c.args.self.now.logs c.lay_told.new.logs (c.lay_told.auto.logs ∙ ap length c.deref_mut.ensures.value) in
    record {
      value = record {
        dims = c.requires.room.dims;
        room = c.requires.room.room;
        chips = c.lay_chips.ensures.value;
        buffers = c.lay_all_buffers.ensures.value
            ∙ ap (λ (k : ℕ). sliced k chips old.crossing.buffers) c.from-at.ensures
            ∙ ap (λ (k : ℕ). sliced c.args.first k old.crossing.buffers) c.from-chips.ensures;
        gathered = c.lay_all_buffers.ensures.gathered;
        logs = ap events_of laid
            ∙ c.in_ok-lay_told.ensures.value
            ∙ (λ i. dealt c.args.first (events_of (slice_range (c.deref.ensures.value i) at (at + chips)))
            (c.deref-2.ensures.value i))
            ∙ ap (λ (logs : List (List Event)). dealt c.args.first logs old.row.items)
            (events_of-sliced at chips old.logs.items
            ∙ ap (λ (k : ℕ). sliced k chips (events_of old.logs.items)) c.from-at.ensures
            ∙ ap (λ (k : ℕ). sliced c.args.first k (events_of old.logs.items)) c.from-chips.ensures)
            ∙ dealt-sliced c.args.first c.args.count (events_of old.logs.items) old.row.items (omega (
              arith,
              c.requires.there,
              length-map old.logs.items (λ (log : Log). log.items),
              length-logs n cap old (AreUnderWay-parts n cap old c.requires.from),
            ));
        sent = c.requires.room.sent;
        incoming = c.requires.room.incoming;
        clock = refl;
        cube = c.route_as.ensures.cube ∙ c.requires.room.cube;
        routing = c.route_as.ensures.value;
      };
    }

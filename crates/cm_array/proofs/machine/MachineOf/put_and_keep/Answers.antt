use Rattle.std.proofs.Common.{◌≡◌, ℕ, ◌+◌, rules, List, [], length, map, ap, sym, ◌∙◌, arith, subst}
use Rattle.std.specs.List.{All}
use Rattle.std.proofs.lemmas.List.{length-map, length_push}
use Rattle.std.proofs.lemmas.Iterator.Adapters.{YieldsList-from_vec}
use Rattle.std.proofs.lemmas.Iterator.Consumers.{YieldsList-turn, YieldsList-end}
use Rattle.cm_model.specs.declared.message.Message.{Message}
use Rattle.cm_model.specs.declared.message.Event.{Event}
use Rattle.cm_model.specs.Wiring.{Routing, IsWireOf}
use Rattle.cm_model.proofs.Each.{length-tabulate}
use Rattle.cm_blocks.specs.Parts.{Part}
use Rattle.cm_router.specs.Logs.{Log}
use Rattle.cm_petit.specs.Routers.{events_of}
use Rattle.cm_array.specs.Cuts.{first_routing}
use Rattle.cm_array.proofs.Laying.{none_stand}
use Rattle.cm_array.proofs.Machines.{few_chips, length-logs, AreUnderWay-parts}
use Rattle.cm_array.proofs.Putting.{none_put, next_fits, next_put, next_held, machine_of-put, AreParts-all_put}
use Rattle.cm_array.proofs.machine.MachineOf.put_and_keep.Goals as goal

pub loop-piece-init : goal.loop-piece-init
loop-piece-init g c =
    let pieces = map (λ (piece : g.row.P.Denot). (g.P.IntoPart.held piece).part) c.args.pieces.items in
    let none : ℕ → List Message = λ k. [] in
    let parts = c.self.inside.state in
    let were = c.self.invariant in
    record {
      chips = none_put (λ (s : Part). s.chips) pieces parts.run;
      buffers = none_put (λ (s : Part). s.buffers) pieces c.clear.new.self.buffers;
      logs = none_put (λ (s : Part). s.logs) pieces (events_of parts.logs.items);
      row = search rules;
      empty = λ k l. none_stand (length parts.crossing.buffers)
          c.clear.new.self.buffers k c.clear.ensures.value;
      chip_count = were.machine.chip_count;
      buffer_count = ap length c.clear.ensures.value
          ∙ length-tabulate 0 (length parts.crossing.buffers) none ∙ were.machine.buffer_count;
      log_count = length-logs g.S.Sizes.n g.S.Sizes.cap parts (AreUnderWay-parts g.S.Sizes.n g.S.Sizes.cap parts were);
      sent_count = were.sized.sent_count;
      incoming_count = were.sized.incoming_count;
      dims = were.sized.dims;
      room = were.sized.room;
      cube = were.sized.cube;
      clock = λ l. absurd (omega (arith, l));
      routing = λ l. absurd (omega (arith, l));
      within = λ l. absurd (omega (arith, l));
    }

pub put-at-requires-clause-chips : goal.put-at-requires-clause-chips
put-at-requires-clause-chips g c =
    let pieces = c.args.pieces.items in
    let parts = map (λ (piece : g.row.P.Denot). (g.P.IntoPart.held piece).part) pieces in
    let j = length c.loop-piece.yielded in
    let s = c.into_part-part.result.part in
    let gives = c.into_iter-piece-iterator.ensures.into_iter_gives in
    let turn = YieldsList-turn (YieldsList-from_vec {s = c.into_iter-piece-iterator.result} pieces gives.0
    (gives.1 ∙ c.args.pieces.ok.0)) c.loop-piece.yielded
    c.loop-piece.piece-iterator
    c.loop-piece.yielded_by c.next.result c.next.new.self c.in-Some.piece c.in-Some.is c.next.ensures.steps in
    let next = next_held g.P.IntoPart.held pieces j c.in-Some.piece c.into_part-part.result turn c.into_part-part.ensures.value in
    omega (
      arith,
      next_fits (λ (x : Part). x.chips) parts j c.loop-piece.at s c.loop-piece.state.run next.0 next.1
          c.loop-piece.invariant.chips,
      c.loop-piece.invariant.chip_count,
      c.requires.whole.machine.chip_count,
    )

pub put-at-requires-clause-few : goal.put-at-requires-clause-few
put-at-requires-clause-few g c =
    omega (arith, c.loop-piece.invariant.chip_count, few_chips g.S.Sizes.n c.self.invariant.sized.sizes.dimension)

pub put-at-requires-clause-wires : goal.put-at-requires-clause-wires
put-at-requires-clause-wires g c =
    let pieces = c.args.pieces.items in
    let parts = map (λ (piece : g.row.P.Denot). (g.P.IntoPart.held piece).part) pieces in
    let j = length c.loop-piece.yielded in
    let s = c.into_part-part.result.part in
    let gives = c.into_iter-piece-iterator.ensures.into_iter_gives in
    let turn = YieldsList-turn (YieldsList-from_vec {s = c.into_iter-piece-iterator.result} pieces gives.0
    (gives.1 ∙ c.args.pieces.ok.0)) c.loop-piece.yielded
    c.loop-piece.piece-iterator
    c.loop-piece.yielded_by c.next.result c.next.new.self c.in-Some.piece c.in-Some.is c.next.ensures.steps in
    let next = next_held g.P.IntoPart.held pieces j c.in-Some.piece c.into_part-part.result turn c.into_part-part.ensures.value in
    let same : s.routing ≡ first_routing parts =
    ap (λ (x : Part). x.routing) next.1 ∙ c.requires.whole.routing j s next.0 in
    subst (λ (n : ℕ). All (IsWireOf n) s.routing.cuts) (sym c.loop-piece.invariant.cube)
    (subst (λ (r : Routing). All (IsWireOf g.S.Sizes.n) r.cuts) (sym same) c.requires.whole.machine.routing.within)

pub loop-piece-preserved : goal.loop-piece-preserved
loop-piece-preserved g c =
    let pieces = c.args.pieces.items in
    let parts = map (λ (piece : g.row.P.Denot). (g.P.IntoPart.held piece).part) pieces in
    let j = length c.loop-piece.yielded in
    let at = c.loop-piece.at in
    let s = c.into_part-part.result.part in
    let gives = c.into_iter-piece-iterator.ensures.into_iter_gives in
    let turn = YieldsList-turn (YieldsList-from_vec {s = c.into_iter-piece-iterator.result} pieces gives.0
    (gives.1 ∙ c.args.pieces.ok.0)) c.loop-piece.yielded
    c.loop-piece.piece-iterator
    c.loop-piece.yielded_by c.next.result c.next.new.self c.in-Some.piece c.in-Some.is c.next.ensures.steps in
    let next = next_held g.P.IntoPart.held pieces j c.in-Some.piece c.into_part-part.result turn c.into_part-part.ensures.value in
    let more = length_push c.loop-piece.yielded c.in-Some.piece in
    let were = c.loop-piece.invariant in
    let put = c.put-at.ensures in
    let old = c.loop-piece.state in
    let new = c.put-at.new.self in
    let events : Log → List Event = λ log. log.items in
    record {
      chips = next_put (λ (x : Part). x.chips) parts j at s old.run new.run _ _ next.0 next.1 more put.end
          were.chips put.chips;
      buffers = next_put (λ (x : Part). x.buffers)
          parts j at s old.crossing.buffers new.crossing.buffers _ _ next.0 next.1
          more (put.end ∙ ap (λ (k : ℕ). at + k) (sym put.buffer_count)) were.buffers put.buffers;
      logs = next_put (λ (x : Part). x.logs) parts j at s (events_of old.logs.items) (events_of new.logs.items) _ _
          next.0 next.1 more (put.end ∙ ap (λ (k : ℕ). at + k) (sym put.log_count)) were.logs put.logs;
      row = search rules;
      empty = λ k l. put.buffers.above k (omega (arith, l, put.end, put.buffer_count))
          ∙ were.empty k (omega (arith, l, put.end));
      chip_count = put.chips.count ∙ were.chip_count;
      buffer_count = put.buffers.count ∙ were.buffer_count;
      log_count = sym (length-map new.logs.items events) ∙ put.logs.count ∙ length-map old.logs.items events
          ∙ were.log_count;
      sent_count = put.sent ∙ were.sent_count;
      incoming_count = put.incoming ∙ were.incoming_count;
      dims = (λ i. (put.shape i).dims) ∙ were.dims;
      room = (λ i. (put.shape i).room) ∙ were.room;
      cube = put.cube ∙ were.cube;
      clock = λ l. put.clock ∙ ap (λ (x : Part). x.clock) next.1 ∙ c.requires.whole.clock j s next.0;
      routing = λ l. put.routing ∙ ap (λ (x : Part). x.routing) next.1 ∙ c.requires.whole.routing j s next.0;
      within = λ l. put.within;
    }

pub invariant_of-self : goal.invariant_of-self
invariant_of-self g c =
    let pieces = c.args.pieces.items in
    let parts = map (λ (piece : g.row.P.Denot). (g.P.IntoPart.held piece).part) pieces in
    let gives = c.into_iter-piece-iterator.ensures.into_iter_gives in
    let end = YieldsList-end (YieldsList-from_vec {s = c.into_iter-piece-iterator.result} pieces gives.0
    (gives.1 ∙ c.args.pieces.ok.0)) c.loop-piece.yielded
    c.loop-piece.piece-iterator
    c.loop-piece.yielded_by c.next.result c.next.new.self c.in-None.is c.next.ensures.steps in
    let all = end.1 ∙ sym (length-map pieces (λ (piece : g.row.P.Denot). (g.P.IntoPart.held piece).part)) in
    AreParts-all_put g.S.Sizes.n g.S.Sizes.cap parts (length c.loop-piece.yielded) c.loop-piece.at c.loop-piece.state
    c.gather.new.self c.loop-piece.invariant all c.requires.whole.machine c.gather.ensures.value
    c.self.invariant.sized.sizes c.gather.ensures.gathered

pub returns : goal.returns
returns g c =
    let pieces = c.args.pieces.items in
    let parts = map (λ (piece : g.row.P.Denot). (g.P.IntoPart.held piece).part) pieces in
    let gives = c.into_iter-piece-iterator.ensures.into_iter_gives in
    let end = YieldsList-end (YieldsList-from_vec {s = c.into_iter-piece-iterator.result} pieces gives.0
    (gives.1 ∙ c.args.pieces.ok.0)) c.loop-piece.yielded
    c.loop-piece.piece-iterator
    c.loop-piece.yielded_by c.next.result c.next.new.self c.in-None.is c.next.ensures.steps in
    let all = end.1 ∙ sym (length-map pieces (λ (piece : g.row.P.Denot). (g.P.IntoPart.held piece).part)) in
    record {
      value = machine_of-put g.S.Sizes.n g.S.Sizes.cap parts (length c.loop-piece.yielded) c.loop-piece.at c.loop-piece.state
          c.gather.new.self c.loop-piece.invariant all c.requires.whole.machine c.gather.ensures.value;
    }

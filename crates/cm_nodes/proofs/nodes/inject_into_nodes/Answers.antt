use Rattle.std.proofs.Common.{arith, ◌<◌, length, [], List}
use Rattle.std.proofs.lemmas.List.{map-set, get_or-map}
use Rattle.std.proofs.lemmas.Grind.{elements}
use Rattle.cm_blocks.specs.Steps.{part_after}
use Rattle.cm_router.specs.Buffer.{Buffer}
use Rattle.cm_petit.proofs.Making.{made_more, made_all}
use Rattle.cm_nodes.proofs.nodes.inject_into_nodes.Goals as goal

pub loop-c-preserved : goal.loop-c-preserved
loop-c-preserved c =
    let nodes : List Buffer = c.loop-c.nodes in
    let inside : c.loop-c.c < length nodes = omega (arith, c.loop-c.auto.nodes) in
    let room = c.loop-c.invariant.rooms c.loop-c.c c.index-nodes-c.result inside in
    let messages = get_or-map (λ (b : Buffer). b.messages) nodes c.loop-c.c c.index-nodes-c.result [] inside in
    record {
      injected = rw (c.inject.ensures.chip, map-set, c.inject.ensures.messages, room, ← messages)
          (made_more _ _ _ c.loop-c.invariant.injected (omega arith) (omega (arith, c.requires.nodes.node_count))
          (rw (room, ← messages) at c.inject.ensures.log) c.inject.ensures.len c.inject.ensures.capacity);
      rooms = grind (arith, elements);
    }

pub returns-clause-value : goal.returns-clause-value
unfolding part_after
returns-clause-value c = λ routing.
    made_all routing _ c.loop-c.invariant.injected (omega (arith, c.requires.nodes.node_count))

use Rattle.cm_subcube.proofs.Acting.{cycle_stopped, cycle_can_deliver, cycle_done}
use Rattle.cm_subcube.proofs.block.Block.go_through_cycle.Goals as goal

pub returns-then-self-gt0-clause-gone : goal.returns-then-self-gt0-clause-gone
returns-then-self-gt0-clause-gone c =
    (cycle_stopped c.args.self.now c.inject.new.self c.cross_within.new.self c.inject.ensures.gone
    c.cross_within.ensures.gone c.self.inside.k c.self.inside.part c.self.view_is c.self.invariant c.if-self-gt0.true).0

pub returns-then-self-gt0-clause-through : goal.returns-then-self-gt0-clause-through
returns-then-self-gt0-clause-through c =
    (cycle_stopped c.args.self.now c.inject.new.self c.cross_within.new.self c.inject.ensures.gone
    c.cross_within.ensures.gone c.self.inside.k c.self.inside.part c.self.view_is c.self.invariant c.if-self-gt0.true).1

pub deliver-requires : goal.deliver-requires
deliver-requires c = record {
  room = cycle_can_deliver c.args.self.now c.inject.new.self c.cross_within.new.self c.inject.ensures.gone
      c.cross_within.ensures.gone c.self.inside.k c.self.inside.part c.self.view_is c.self.invariant c.if-self-gt0.false
      c.requires.room;
}

pub returns-clause-gone : goal.returns-clause-gone
returns-clause-gone c =
    (cycle_done c.args.self.now c.inject.new.self c.cross_within.new.self c.inject.ensures.gone
    c.cross_within.ensures.gone c.self.inside.k c.self.inside.part c.self.view_is c.self.invariant c.if-self-gt0.false
    c.deliver.new.self c.deliver.ensures.gone).0

pub returns-clause-through : goal.returns-clause-through
returns-clause-through c =
    (cycle_done c.args.self.now c.inject.new.self c.cross_within.new.self c.inject.ensures.gone
    c.cross_within.ensures.gone c.self.inside.k c.self.inside.part c.self.view_is c.self.invariant c.if-self-gt0.false
    c.deliver.new.self c.deliver.ensures.gone).1

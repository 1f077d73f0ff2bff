use Rattle.std.proofs.Common.{◌+◌, drop, sym, ◌∙◌}
use Rattle.std.proofs.lemmas.List.{take_rest}
use Rattle.cm_subcube.specs.Local.{steps_behind}
use Rattle.cm_subcube.proofs.Acting.{can_begin, can_go_on, gone_stopped, gone_on}
use Rattle.cm_subcube.proofs.block.Block.go_behind.Goals as goal

pub finish-requires-clause-room : goal.finish-requires-clause-room
finish-requires-clause-room c =
    can_begin (steps_behind c.args.self.now.kept.dims c.args.round.now.kind)
    (drop (c.args.round.now.at + 1) c.args.acts.now) c.args.self.now c.requires.room

pub go-requires : goal.go-requires
go-requires c = record {
  room = rw (take_rest c.args.acts.now (c.args.round.now.at + 1))
      (can_go_on (steps_behind c.args.self.now.kept.dims c.args.round.now.kind)
      (drop (c.args.round.now.at + 1) c.args.acts.now) c.args.self.now c.finish.new.self c.finish.ensures.gone
      (sym c.finish.ensures.through ∙ c.if-finish.true) c.requires.room);
}

pub returns-then-finish : goal.returns-then-finish
returns-then-finish c = record {
  gone = gone_on (steps_behind c.args.self.now.kept.dims c.args.round.now.kind)
      (drop (c.args.round.now.at + 1) c.args.acts.now) c.args.self.now c.finish.new.self c.finish.ensures.gone
      (sym c.finish.ensures.through ∙ c.if-finish.true) c.go.new.self
      (rw (take_rest c.args.acts.now (c.args.round.now.at + 1)) at c.go.ensures.gone);
}

pub returns-else-finish : goal.returns-else-finish
returns-else-finish c = record {
  gone = gone_stopped (steps_behind c.args.self.now.kept.dims c.args.round.now.kind)
      (drop (c.args.round.now.at + 1) c.args.acts.now) c.args.self.now c.finish.new.self c.finish.ensures.gone
      (sym c.finish.ensures.through ∙ c.if-finish.false);
}

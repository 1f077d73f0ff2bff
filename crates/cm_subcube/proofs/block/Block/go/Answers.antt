use Rattle.std.proofs.Common.{◌+◌, drop, sym, ◌∙◌}
use Rattle.std.proofs.lemmas.List.{drop_all}
use Rattle.cm_model.specs.Steps.{steps_of}
use Rattle.cm_subcube.proofs.Going.{HasGone-none}
use Rattle.cm_subcube.proofs.Acting.{next_act, can_begin, can_go_on, gone_stopped, gone_on}
use Rattle.cm_subcube.proofs.block.Block.go.Goals as goal

pub go_through-requires : goal.go_through-requires
go_through-requires c =
    let here = c.loop-act in
    let next = next_act c.args.acts.now here.act-index c.act-item.result c.loop-act-test.true c.act-item.is in
    record {
      room = can_begin (steps_of here.self.kept.dims c.act-item.result)
          (drop (here.act-index + 1) c.args.acts.now) here.self (rw next at here.invariant.room);
    }

pub returns-then-not-go_through : goal.returns-then-not-go_through
returns-then-not-go_through c =
    let here = c.loop-act in
    let next = next_act c.args.acts.now here.act-index c.act-item.result c.loop-act-test.true c.act-item.is in
    record {
      gone = here.invariant.gone c.go_through.new.self (rw next (gone_stopped _
          (drop (here.act-index + 1) c.args.acts.now) here.self c.go_through.new.self c.go_through.ensures.gone
          (sym c.go_through.ensures.through ∙ c.if-not-go_through.true)));
    }

pub loop-act-preserved : goal.loop-act-preserved
loop-act-preserved c =
    let here = c.loop-act in
    let next = next_act c.args.acts.now here.act-index c.act-item.result c.loop-act-test.true c.act-item.is in
    let rest = drop (here.act-index + 1) c.args.acts.now in
    let through = sym c.go_through.ensures.through ∙ c.if-not-go_through.false in
    let steps = steps_of here.self.kept.dims c.act-item.result in
    record {
      room = can_go_on steps rest here.self c.go_through.new.self c.go_through.ensures.gone through
          (rw next at here.invariant.room);
      gone = λ new more. here.invariant.gone new (rw next (gone_on steps rest here.self c.go_through.new.self
          c.go_through.ensures.gone through new more));
    }

pub returns : goal.returns
returns c =
    let here = c.loop-act in
    record {
      gone = here.invariant.gone here.self
          (rw (drop_all here.act-index c.args.acts.now c.loop-act-test.false) (HasGone-none here.self));
    }

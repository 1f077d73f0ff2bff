use Rattle.std.proofs.Common.{subst, sym, ap}
use Rattle.std.specs.Option.{option_copied}
use Rattle.cm_subcube.specs.Rounds.{step_of}
use Rattle.cm_workers.specs.Posts.{lane_in}
use Rattle.cm_workers.proofs.Turning.{CanGoOn, can_go_on, still_can, exchange_of}
use Rattle.cm_workers.proofs.turn.go_on.Goals as goal
use Rattle.cm_workers.proofs.turn.go_on.Goals.{in-Some, in_default}

pub take_in-requires-clause-exchange : goal.take_in-requires-clause-exchange
take_in-requires-clause-exchange c =
    let block = c.args.block.now in
    exchange_of block.kept.dims block.k c.args.turn.now.acts.now
    (option_copied c.args.turn.now.before) c.in-Some.round.now
    (ap option_copied c.in-Some.is) c.requires.ready.behind

can : (c : goal.After-local-arg-3-1)
    → CanGoOn c.args.turn.now.acts.now (option_copied c.args.turn.now.before) c.match-turn.block
can c =
    let old = c.args.block.now in
    let acts = c.args.turn.now.acts.now in let before = option_copied c.args.turn.now.before in
    let could = can_go_on acts before (option_copied c.args.turn.now.next) old c.args.post.now c.requires.ready in
    elim c.match-turn.branch [
      | in-Some w ↦ subst (CanGoOn acts before) (sym w.block-is)
          (still_can acts before old w.take_in.new.block (step_of w.in-Some.round.now)
          (lane_in w.in-Some.round.now.kind c.args.post.now)
          w.take_in.new.block.kept.gathered w.take_in.ensures.value w.take_in.ensures.blocks could)
      | in_default w ↦ subst (CanGoOn acts before) (sym w.block-is) could
    ]

pub local-requires-clause-following : goal.local-requires-clause-following
local-requires-clause-following c = (can c).following

pub local-requires-clause-log_room : goal.local-requires-clause-log_room
local-requires-clause-log_room c = (can c).log_room

pub local-requires-clause-clock : goal.local-requires-clause-clock
local-requires-clause-clock c = (can c).clock

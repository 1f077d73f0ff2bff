use Rattle.std.proofs.Common.{arith}
use Rattle.std.specs.Option.{option_copied}
use Rattle.cm_workers.specs.Turns.{IsReadyForTurn, HasGoneOn}
use Rattle.cm_workers.proofs.PlaceByPlace.{still_so, next_place}
use Rattle.cm_workers.proofs.turn.go_on_all.Goals as goal

pub go_on-requires : goal.go_on-requires
go_on-requires c =
    let turn = c.args.turn.now in
    record {
      ready =
          still_so (HasGoneOn turn.acts.now (option_copied turn.before))
          (IsReadyForTurn turn.acts.now (option_copied turn.before) (option_copied turn.next))
          c.args.blocks.now c.args.posts.now c.loop-i.blocks
          c.loop-i.posts c.loop-i.i _ _ c.loop-i-test.true c.loop-i.invariant c.requires.ready.each;
    }

pub loop-i-preserved : goal.loop-i-preserved
loop-i-preserved c =
    let turn = c.args.turn.now in
    next_place (HasGoneOn turn.acts.now (option_copied turn.before))
    c.args.blocks.now c.args.posts.now c.loop-i.blocks c.loop-i.posts c.loop-i.i
    c.go_on.new.block c.index-blocks-i.result c.go_on.new.post c.index-posts-i.result
    c.loop-i-test.true (omega (arith, c.loop-i-test.true, c.requires.ready.len))
    c.loop-i.invariant c.go_on.ensures.value

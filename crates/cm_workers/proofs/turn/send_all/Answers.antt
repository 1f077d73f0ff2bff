use Rattle.std.proofs.Common.{arith}
use Rattle.std.specs.Option.{option_copied}
use Rattle.cm_workers.specs.Turns.{IsReadyToSend, HasSentDue}
use Rattle.cm_workers.proofs.PlaceByPlace.{still_so, next_place}
use Rattle.cm_workers.proofs.turn.send_all.Goals as goal

pub send-requires : goal.send-requires
send-requires c =
    record {
      ready =
          still_so (HasSentDue (option_copied c.args.next)) (IsReadyToSend (option_copied c.args.next))
          c.args.blocks.now c.args.posts.now c.loop-i.blocks
          c.loop-i.posts c.loop-i.i _ _ c.loop-i-test.true c.loop-i.invariant c.requires.ready.each;
    }

pub loop-i-preserved : goal.loop-i-preserved
loop-i-preserved c =
    next_place (HasSentDue (option_copied c.args.next))
    c.args.blocks.now c.args.posts.now c.loop-i.blocks c.loop-i.posts c.loop-i.i
    c.send.new.block c.index-blocks-i.result c.send.new.post c.index-posts-i.result
    c.loop-i-test.true (omega (arith, c.loop-i-test.true, c.requires.ready.len)) c.loop-i.invariant c.send.ensures.value

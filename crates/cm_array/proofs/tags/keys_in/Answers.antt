use Rattle.std.proofs.Common.{arith}
use Rattle.cm_array.proofs.Tagging.{keys_more, keys_all}
use Rattle.cm_array.proofs.tags.keys_in.Goals as goal

pub loop-c-preserved : goal.loop-c-preserved
loop-c-preserved c =
    keys_more c.args.crossing.now.buffers c.loop-c.c c.buffer.result.now c.loop-c.keys.items c.push_keys.new.keys.items
    (omega (arith, c.loop-c-test.true, c.chips-c-end.ensures.value)) c.buffer.ensures.value c.loop-c.invariant
    c.in_ok-push_keys.ensures.ok

pub returns : goal.returns
returns c =
    record {
      value =
          keys_all c.args.crossing.now.buffers c.loop-c.c c.loop-c.keys.items
          (omega (arith, c.loop-c-test.false, c.chips-c-end.ensures.value)) c.loop-c.invariant;
    }

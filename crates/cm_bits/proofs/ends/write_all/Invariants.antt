use Rattle.std.proofs.Common.{length, take, ◌-◌, ◌≤◌, ◌≡◌, false}
use Rattle.std.specs.Io.KnownBytes.{Appends}
use Rattle.cm_bits.proofs.ends.write_all.Given as goal

abbrev pub invariant-loop-done : goal.invariant-loop-done
invariant-loop-done g l =
    record {
      within : l.done ≤ length l.bytes;
      written : Appends (g.O.Sink.contents l.fn.sink) (g.O.Sink.contents l.sink) (take l.done l.bytes);
      working : g.O.Sink.has_failed l.sink ≡ false;
    }

abbrev pub decreases-loop-done : goal.decreases-loop-done
decreases-loop-done g l = length l.bytes - l.done

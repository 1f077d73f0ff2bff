use Rattle.std.proofs.Common.{◌≡◌, ℕ, ◌+◌, ◌-◌, ◌*◌, ◌^◌, ◌≤◌, false, List, ◌++◌, take, drop, length}
use Rattle.std.specs.Io.KnownBytes.{Consumes}
use Rattle.cm_debug.specs.BufferedOutput.{answered_bytes}
use Rattle.lab_front.specs.Front.{front_of}
use Rattle.cm_bits.specs.Text.{IsUnended}
use Rattle.lab_front.specs.Ends.{LINE_LIMIT, ALL, AreShort}
use Rattle.lab_front.proofs.Lines.{AreLinesOf}
use Rattle.lab_front.proofs.Told.{IsTold}
use Rattle.lab_front.proofs.talk.front.Given as goal

abbrev pub invariant-loop-front : goal.invariant-loop-front
invariant-loop-front g l = record {
  given : List ℕ;
  done : List (List ℕ);
  lines : AreLinesOf given done;
  consumed : Consumes (g.I.Source.left l.fn.commands) (g.I.Source.left l.commands) (given ++ drop l.place l.heard.items);
  told : IsTold g.S.Sizes.n g.S.Sizes.cap l.fn.machine.machine (g.O.Sink.contents l.fn.out) done
      (front_of l.machine.machine l.front)
      (g.O.Sink.contents l.out) l.answers.sent l.answers.bytes.items;
  within : l.place ≤ length l.heard.items;
  taken : l.taken + l.place ≡ length given + length l.heard.items;
  short : AreShort done;
  open_len : length l.heard.items ≤ l.place + (LINE_LIMIT + 1);
  seen_in : l.place + l.seen ≤ length l.heard.items;
  seen : IsUnended (take l.seen (drop l.place l.heard.items));
  few : l.taken ≤ ALL + 65536;
  sent : answered_bytes l.answers ≤ length given * 2 ^ 64;
  reading : g.I.Source.has_failed l.commands ≡ false;
  writing : g.O.Sink.has_failed l.out ≡ false;
  threads : g.R.Runner.threads_lacked l.runner ≡ g.R.Runner.threads_lacked l.fn.runner;
}

abbrev pub decreases-loop-front : goal.decreases-loop-front
decreases-loop-front g l = 2 * (ALL + 65536 - l.taken) + (length l.heard.items - l.place)

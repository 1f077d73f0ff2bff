use Rattle.std.proofs.Common.{◌≡◌, ℕ, ◌-◌, ◌*◌, ◌^◌, ◌≤◌, false, List, [], length}
use Rattle.std.specs.Io.KnownBytes.{Consumes}
use Rattle.cm_session.specs.Ends.{COMMANDS_LIMIT}
use Rattle.cm_debug.specs.Talk.{setting, talk, AreProcessed}
use Rattle.cm_debug.proofs.console.Console.hear_all.Given as goal

abbrev pub invariant-loop-count : goal.invariant-loop-count
invariant-loop-count g l = record {
  text : List ℕ;
  read : Consumes (g.I.Source.left l.fn.commands) (g.I.Source.left l.commands) text;
  told : AreProcessed g.S.Sizes.n g.S.Sizes.cap (setting l.fn.self.debugger.acts.now l.fn.machine.machine
      (g.O.Sink.contents l.fn.out) (g.R.Runner.threads_lacked l.fn.runner)) text
      (talk l.machine.machine l.self (g.O.Sink.contents l.out) (g.R.Runner.threads_lacked l.runner));
  none : l.self.output.bytes.items ≡ [];
  count : l.taken ≡ length text;
  within : l.taken ≤ COMMANDS_LIMIT;
  few : l.self.output.sent ≤ l.taken * 2 ^ 64;
  reading : g.I.Source.has_failed l.commands ≡ false;
  writing : g.O.Sink.has_failed l.out ≡ false;
}

abbrev pub decreases-loop-count : goal.decreases-loop-count
decreases-loop-count g l = COMMANDS_LIMIT - l.taken

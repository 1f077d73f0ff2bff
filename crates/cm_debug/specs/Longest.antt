-- How many acts a session hands to its runner at once: as many as may be; and what one such stretch does. Ours.
use Rattle.std.specs.Prelude.{◌≡◌, ℕ, ◌+◌, ◌-◌, ◌<◌, Bool, IsFalse, Result, Ok, Err, List, ◌++◌, drop, length, take}
use Rattle.cm_model.specs.declared.act.Act.{Act}
use Rattle.cm_model.specs.Machine.{run_of}
use Rattle.cm_array.specs.Acts.{is_long}
use Rattle.cm_array.specs.Faults.{lacked_after}
use Rattle.cm_session.specs.Stretches.{IsStretch}
use Rattle.cm_debug.specs.declared.debugger.Stops.{Stops}
use Rattle.cm_debug.specs.declared.out_of.OutOf.{OutOf}
use Rattle.cm_debug.specs.State.{DebuggerView, come, gone, stops_at}
use Rattle.cm_debug.specs.Telling.{is_thread}

-- with one act more, if there is one, a runner does not take them at once, or something is told or stops within
abbrev pub IsLongest : (ℕ → Bool) → Bool → ℕ → ℕ → List Act → ℕ → Type 0
IsLongest stops report position clock acts count =
    count < length acts → IsFalse (is_long (take (count + 1) acts))
    → IsStretch stops report position clock (take (count + 1) acts) → ⊥

-- a stretch is run, after which the debugger goes on as it would have before
pub record HasRunStretch (n cap : ℕ) (stops : Stops) (before after : DebuggerView) : Type 0 where
  pub answer : before.answer ++ (gone n cap stops before).answer ≡ after.answer ++ (come n cap stops after).answer
  pub session : (gone n cap stops before).session ≡ (come n cap stops after).session
  pub machine : after.session.machine ≡ run_of n cap before.session.machine
      (take (after.session.position - before.session.position) (drop before.session.position before.acts))
  pub further : before.session.position < after.session.position
  pub longest : IsLongest (stops_at stops before.session.breaks) before.session.report before.session.position
      before.session.machine.clock (drop before.session.position before.acts)
      (after.session.position - before.session.position)
  pub acts : after.acts ≡ before.acts
  pub lacked : after.lacked ≡ before.lacked

-- it is not
pub record IsNotRun (before after : DebuggerView) (want : OutOf) : Type 0 where
  pub machine : after.session.machine ≡ before.session.machine
  pub lacked : after.lacked ≡ lacked_after (is_thread want) before.lacked

-- how a stretch is run
abbrev pub Ran : ℕ → ℕ → Stops → DebuggerView → DebuggerView → Result (Unit {0}) OutOf → Type 0
Ran n cap stops before after (Ok done) = HasRunStretch n cap stops before after
Ran n cap stops before after (Err want) = IsNotRun before after want

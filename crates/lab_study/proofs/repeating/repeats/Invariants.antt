use Rattle.std.proofs.Common.{◌≡◌, ◌≤◌, drop, length}
use Rattle.lab_study.specs.Repeats.{repeats_from, repeats_table}
use Rattle.lab_study.specs.Study.{study_preceded_by}
use Rattle.lab_study.specs.Watching.{WasTold}
use Rattle.lab_study.proofs.repeating.repeats.Given as goal

-- what was told, and what the acts that are left tell, are the table; and the watcher was told of each act that is done
abbrev pub invariant-loop-done : goal.invariant-loop-done
invariant-loop-done g l = record {
  table :
      repeats_table l.initial.machine.n l.initial.machine.cap l.initial.machine.machine l.acts
      ≡ study_preceded_by l.text.items
      (repeats_from l.machine.n l.machine.cap l.calm l.machine.machine (drop l.done l.acts));
  within : l.done ≤ length l.acts;
  watched : WasTold g.W.Watch.sees (length l.acts) l.initial.watch l.done l.watch;
}

use Rattle.std.proofs.Common.{◌≡◌, ◌≤◌, drop, length}
use Rattle.lab_study.specs.Study.{studied, study_preceded_by, acts_table, lines_table}
use Rattle.lab_study.specs.Watching.{WasTold}
use Rattle.lab_study.proofs.studies.study_lines.Given as goal

-- what was told, and what the acts that are left tell, are the table; and the watcher was told of each act that is done
abbrev pub invariant-loop-done : goal.invariant-loop-done
invariant-loop-done g l = record {
  table :
      lines_table l.initial.machine.n l.initial.machine.cap l.table l.initial.machine.machine l.acts
      ≡ study_preceded_by l.text.items
      (acts_table l.machine.n l.machine.cap l.table (studied l.machine.machine l.known) (drop l.done l.acts));
  within : l.done ≤ length l.acts;
  watched : WasTold g.W.Watch.sees (length l.acts) l.initial.watch l.done l.watch;
}

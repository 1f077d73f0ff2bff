-- A study of a program: the table that is asked for. Ours.
use Rattle.std.specs.Prelude.{ℕ, Result, List}
use Rattle.cm_model.specs.declared.act.Act.{Act}
use Rattle.cm_model.specs.Machine.{Machine}
use Rattle.lab_study.specs.declared.studies.LinesOf.TheVariants as lines
use Rattle.lab_study.specs.declared.studies.StudyFault.{StudyFault}
use Rattle.lab_study.specs.declared.studies.Table.{Table}
use Rattle.lab_study.specs.declared.studies.Table.TheVariants.{Cycles, Messages, Repeats}
use Rattle.lab_study.specs.Repeats.{repeats_table}
use Rattle.lab_study.specs.Study.{lines_table}

-- the table of a program of these acts, on a machine of a cube of n dimensions whose routers have room for cap
-- messages each
unfoldable pub study_table : ℕ → ℕ → Table → Machine → List Act → Result (List ℕ) StudyFault
study_table n cap Cycles machine acts = lines_table n cap lines.Cycles machine acts
study_table n cap Messages machine acts = lines_table n cap lines.Messages machine acts
study_table n cap Repeats machine acts = repeats_table n cap machine acts

use Rattle.std.proofs.Common.{refl}
use Rattle.cm_system.proofs.Leading.{did_so}
use Rattle.cm_cli.proofs.performing.do_line.Goals as goal

pub returns-in-Chip : goal.returns-in-Chip
returns-in-Chip g c = record { does = rw c.in-Chip.is c.chip_line.ensures.does }

pub returns-in-List : goal.returns-in-List
returns-in-List g c = record {
  does = rw c.in-List.is (did_so c.list_line.ensures.does
      (λ trace h. ((refl, c.requires.reader), rw c.as_str.ensures.value at h)));
}

pub returns-in-Fresh : goal.returns-in-Fresh
returns-in-Fresh g c = record {
  does = rw c.in-Fresh.is (did_so c.fresh_line.ensures.does
      (λ trace h. (
        ((refl, c.requires.reader), refl, c.requires.writer),
        rw c.as_str-in-Fresh.ensures.value at h,
      )));
}

pub run_files-requires : goal.run_files-requires
run_files-requires g c = record {
  can = λ any shared. tt;
  alone = λ one wants. wants;
  reader = c.requires.reader;
  writer = c.requires.writer;
}

pub returns-then-workers-eq1 : goal.returns-then-workers-eq1
returns-then-workers-eq1 g c = record { does = rw c.in-Run.is c.run_files.ensures.does }

pub returns-else-workers-eq1 : goal.returns-else-workers-eq1
returns-else-workers-eq1 g c = record { does = rw c.in-Run.is c.run_files-in-Run.ensures.does }

pub returns-in-Weave : goal.returns-in-Weave
returns-in-Weave g c = record {
  does = rw c.in-Weave.is (did_so c.weave_files.ensures.does (λ trace h. ((refl, c.requires.reader), h)));
}

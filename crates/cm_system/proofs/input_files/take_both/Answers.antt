use Rattle.std.proofs.Common.{inl}
use Rattle.cm_system.specs.InputFiles.{reads_by}
use Rattle.cm_system.proofs.Leading.{did_so}
use Rattle.cm_system.proofs.Taking.{both_so, text_refused}
use Rattle.cm_system.proofs.input_files.take_both.Goals as goal

pub returns-in-Ok : goal.returns-in-Ok
returns-in-Ok g c = record {
  value = both_so c.take_program.new.system (reads_by g.H.File.Source.left g.H.File.Source.has_failed) c.args.image.now c.args.program.now
      c.in-Ok.machine c.take_program.result c.in-Ok.ensures.value c.take_program.ensures.value
      c.take_program.ensures.same;
  refused = text_refused c.take_program.new.system (reads_by g.H.File.Source.left g.H.File.Source.has_failed) c.args.image.now
      c.args.program.now c.in-Ok.machine c.take_program.result c.in-Ok.ensures.value c.take_program.ensures.refused;
}

pub returns-in-Err : goal.returns-in-Err
returns-in-Err g c = record {
  value = tt;
  refused = did_so c.in-Err.ensures.refused (λ trace refused. inl refused);
}

use Rattle.std.proofs.Common.{inl}
use Rattle.cm_system.specs.InputFiles.{reads_by}
use Rattle.cm_system.proofs.Leading.{did_so}
use Rattle.cm_system.proofs.Taking.{taken_of, refused_of}
use Rattle.cm_run.proofs.Beginning.{begun_so, unbegun_so}
use Rattle.cm_run.proofs.files.begin_files.Goals as goal

pub returns-in-Ok : goal.returns-in-Ok
returns-in-Ok g c =
    let both = did_so c.in-Ok.ensures.value
    (λ trace took. taken_of c.as_str.ensures.value c.as_str-2.ensures.value took) in
    record {
      value = begun_so c.begin_taken.new.system (reads_by g.H.File.Source.left g.H.File.Source.has_failed)
          c.args.line.now c.in-Ok.taken c.dims.result c.dims.ensures.value c.begin_taken.result both
          c.begin_taken.ensures.same
          c.begin_taken.ensures.shared c.begin_taken.ensures.value;
      refused = unbegun_so c.begin_taken.new.system (reads_by g.H.File.Source.left g.H.File.Source.has_failed)
          c.args.line.now c.in-Ok.taken c.dims.result c.dims.ensures.value c.begin_taken.result both
          c.begin_taken.ensures.refused;
    }

pub returns-in-Err : goal.returns-in-Err
returns-in-Err g c = record {
  value = tt;
  refused = did_so c.in-Err.ensures.refused
      (λ trace refused. inl (refused_of c.as_str.ensures.value c.as_str-2.ensures.value refused));
}

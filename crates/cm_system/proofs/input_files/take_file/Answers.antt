use Rattle.std.proofs.Common.{Ok, Err, refl}
use Rattle.cm_system.specs.InputFiles.{reads_by}
use Rattle.cm_system.proofs.Leading.{one}
use Rattle.cm_system.proofs.ToTheEnd.{taken_to}
use Rattle.cm_system.proofs.input_files.take_file.Goals as goal

pub returns-in-Ok : goal.returns-in-Ok
returns-in-Ok g c = record {
  trace = _;
  lead = one g.H.System.does c.args.system.now _ c.open.new.self c.in-Ok.ensures.does;
  so = record {
    file = Ok c.in-Ok.file;
    did = refl;
    given = record {
      after = c.take.new.source;
      so = taken_to (reads_by g.H.File.Source.left g.H.File.Source.has_failed) c.args.limit c.in-Ok.file
          c.take.new.source c.take.result c.take.ensures.within c.take.ensures.ok c.take.ensures.end
          c.take.ensures.read_within c.take.ensures.memory_within c.take.ensures.too_much_came;
      read = c.take.ensures.read;
    };
  };
}

pub returns-in-Err : goal.returns-in-Err
returns-in-Err g c = record {
  trace = _;
  lead = one g.H.System.does c.args.system.now _ c.open.new.self c.in-Err.ensures.does;
  so = record { file = Err c.in-Err.field-0; did = refl; given = refl };
}

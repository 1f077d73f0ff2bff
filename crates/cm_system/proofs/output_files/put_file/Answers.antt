use Rattle.std.proofs.Common.{Ok, Err, [], refl, ap}
use Rattle.cm_system.proofs.Leading.{one}
use Rattle.cm_system.proofs.output_files.put_file.Goals as goal

pub returns-in-Ok : goal.returns-in-Ok
returns-in-Ok g c = record {
  trace = _;
  lead = (c.ready.new.self, c.in-Ok.ensures.does, c.fill.ensures.lead);
  so = record { part = Ok c.in-Ok.part; more = c.fill.ensures.trace; did = refl; then = c.fill.ensures.so };
}

pub returns-in-Err : goal.returns-in-Err
returns-in-Err g c = record {
  trace = _;
  lead = one g.H.System.does c.args.system.now _ c.ready.new.self c.in-Err.ensures.does;
  so = record {
    part = Err c.in-Err.fault;
    more = [];
    did = refl;
    then = (refl, ap (λ fault. Err fault) c.from.ensures);
  };
}

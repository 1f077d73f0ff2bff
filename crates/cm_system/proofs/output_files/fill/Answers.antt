use Rattle.std.proofs.Common.{Ok, Err, refl, ap}
use Rattle.cm_system.proofs.Leading.{one}
use Rattle.cm_system.proofs.output_files.fill.Goals as goal

pub returns-in-Ok : goal.returns-in-Ok
returns-in-Ok g c = record {
  trace = _;
  lead = one g.H.System.does c.args.system.now _ c.fill.new.self c.in-Ok.ensures.does;
  so = record { done = Ok c.in-Ok.field-0; did = refl; told = refl };
}

pub returns-in-Err : goal.returns-in-Err
returns-in-Err g c = record {
  trace = _;
  lead = one g.H.System.does c.args.system.now _ c.fill.new.self c.in-Err.ensures.does;
  so = record { done = Err c.in-Err.fault; did = refl; told = ap (λ fault. Err fault) c.from.ensures };
}

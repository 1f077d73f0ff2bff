use Rattle.std.proofs.Common.{refl}
use Rattle.cm_system.proofs.Leading.{one}
use Rattle.cm_system.proofs.output_files.make_ready.Goals as goal

pub returns-in-Ok-clause-value : goal.returns-in-Ok-clause-value
returns-in-Ok-clause-value g c = rw c.in-Some.is (record {
  trace = _;
  lead = one g.H.System.does c.args.system.now _ c.ready.new.self
      (rw c.as_str.ensures.value at c.in-Ok.ensures.does);
  so = refl;
})

pub returns-in-Err-clause-refused : goal.returns-in-Err-clause-refused
returns-in-Err-clause-refused g c = rw c.in-Some.is (record {
  trace = _;
  lead = one g.H.System.does c.args.system.now _ c.ready.new.self
      (rw c.as_str.ensures.value at c.in-Err.ensures.does);
  so = record { own = c.in-Err.fault; did = refl; told = c.from.ensures };
})

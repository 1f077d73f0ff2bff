use Rattle.std.proofs.Common.{Ok, Err, Some, None, [], refl}
use Rattle.cm_system.specs.declared.program_fault.ProgramFault.TheVariants.{Memory}
use Rattle.cm_system.proofs.Leading.{one, did_so}
use Rattle.cm_system.proofs.Putting.{saves_none}
use Rattle.cm_system.proofs.output_files.finish_files.Goals as goal

pub returns-in_default : goal.returns-in_default
returns-in_default g c = rw c.in_default.is (record {
  value = did_so c.flush_out.ensures (λ trace flushes. record {
    kept = Ok None;
    is = tt;
    closes = record {
      done = flushes.done;
      more = [];
      did = flushes.did;
      then = saves_none _ _ flushes.done c.flush_out.result flushes.told;
    };
  });
})

pub returns-in-Ok : goal.returns-in-Ok
returns-in-Ok g c = rw c.in-Some.is (record {
  value = did_so c.save.ensures.value (λ trace closes. record {
    kept = Ok (Some c.in-Ok.image);
    is = c.in-Ok.ensures.value;
    closes = closes;
  });
})

pub returns-in-Err : goal.returns-in-Err
returns-in-Err g c = rw c.in-Some.is (record {
  value = record {
    trace = _;
    lead = one g.H.System.does c.args.system.now _ c.let_go.new.self c.let_go.ensures.does;
    so = record { kept = Err Memory; is = (refl, refl); closes = (refl, refl) };
  };
})

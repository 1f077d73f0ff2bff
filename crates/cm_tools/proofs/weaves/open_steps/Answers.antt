use Rattle.std.proofs.Common.{[], refl}
use Rattle.cm_system.proofs.Leading.{one}
use Rattle.cm_tools.proofs.weaves.open_steps.Goals as goal

pub returns-in_default : goal.returns-in_default
returns-in_default g c = record {
  working = tt;
  value = rw c.in_default.is (record { trace = []; lead = refl; so = refl });
  refused = tt;
}

pub returns-in-Ok : goal.returns-in-Ok
returns-in-Ok g c = record {
  working = c.in-Ok.ensures.working;
  value = rw c.in-Some.is (record {
    trace = _;
    lead = one g.H.System.does c.args.system.now _ c.open.new.self
        (rw c.as_str.ensures.value at c.in-Ok.ensures.does);
    so = refl;
  });
  refused = tt;
}

pub returns-in-Err : goal.returns-in-Err
returns-in-Err g c = record {
  working = tt;
  value = tt;
  refused = rw c.in-Some.is (record {
    trace = _;
    lead = one g.H.System.does c.args.system.now _ c.open.new.self
        (rw c.as_str.ensures.value at c.in-Err.ensures.does);
    so = record { none = c.in-Err.fault; did = refl };
  });
}

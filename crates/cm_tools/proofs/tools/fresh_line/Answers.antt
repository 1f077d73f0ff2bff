use Rattle.std.proofs.Common.{Ok, Err, [], refl}
use Rattle.cm_system.proofs.Leading.{did_so}
use Rattle.cm_tools.proofs.tools.fresh_line.Goals as goal

pub returns-in-Ok : goal.returns-in-Ok
returns-in-Ok g c = record {
  does = did_so c.put_file.ensures (λ trace h. record {
    made = Ok c.in-Ok.image;
    is = record {
      value = c.in-Ok.ensures.value;
      refused = c.in-Ok.ensures.refused;
      otherwise = c.in-Ok.ensures.otherwise;
    };
    then = rw c.as_slice.ensures.value at h;
  });
}

pub returns-in-Err : goal.returns-in-Err
returns-in-Err g c = record {
  does = record {
    trace = [];
    lead = refl;
    so = record {
      made = Err c.in-Err.fault;
      is = record {
        value = tt;
        refused = c.in-Err.ensures.refused;
        otherwise = c.in-Err.ensures.otherwise;
      };
      then = (refl, refl);
    };
  };
}

use Rattle.std.proofs.Common.{Ok, Err, [], refl, ap}
use Rattle.cm_tools.proofs.tools.chip_line.Goals as goal

pub returns-in-Ok : goal.returns-in-Ok
returns-in-Ok g c = record {
  does = record {
    trace = c.flush_out.ensures.trace;
    lead = c.flush_out.ensures.lead;
    so = record {
      ended = Ok c.in-Ok.field-0;
      ends = c.in-Ok.ensures.ends;
      heard = c.in-Ok.ensures.heard;
      end = c.in-Ok.ensures.end;
      read = c.in-Ok.ensures.read;
      read_within = c.in-Ok.ensures.read_within;
      memory_within = c.in-Ok.ensures.memory_within;
      too_much_came = c.in-Ok.ensures.too_much_came;
      write = c.in-Ok.ensures.write;
      then = c.flush_out.ensures.so;
    };
  };
}

pub returns-in-Err : goal.returns-in-Err
returns-in-Err g c = record {
  does = record {
    trace = [];
    lead = refl;
    so = record {
      ended = Err c.in-Err.fault;
      ends = c.in-Err.ensures.ends;
      heard = c.in-Err.ensures.heard;
      end = c.in-Err.ensures.end;
      read = c.in-Err.ensures.read;
      read_within = c.in-Err.ensures.read_within;
      memory_within = c.in-Err.ensures.memory_within;
      too_much_came = c.in-Err.ensures.too_much_came;
      write = c.in-Err.ensures.write;
      then = (refl, ap (λ fault. Err fault) c.from.ensures);
    };
  };
}

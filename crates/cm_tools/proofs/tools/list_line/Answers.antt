use Rattle.std.proofs.Common.{Ok, Err, [], refl}
use Rattle.cm_system.proofs.Leading.{one}
use Rattle.cm_tools.proofs.tools.list_line.Goals as goal

pub returns-in-Ok-list : goal.returns-in-Ok-list
returns-in-Ok-list g c = record {
  does = record {
    trace = _;
    lead = (c.open.new.self, c.in-Ok.ensures.does, c.flush_out.ensures.lead);
    so = record {
      file = Ok c.in-Ok.file;
      more = c.flush_out.ensures.trace;
      did = refl;
      then = record {
        after = c.list.new.source;
        ended = Ok c.in-Ok-list.field-0;
        ends = c.in-Ok-list.ensures.ends;
        heard = c.in-Ok-list.ensures.heard;
        end = c.in-Ok-list.ensures.end;
        read = c.in-Ok-list.ensures.read;
        read_within = c.in-Ok-list.ensures.read_within;
        memory_within = c.in-Ok-list.ensures.memory_within;
        too_much_came = c.in-Ok-list.ensures.too_much_came;
        write = c.in-Ok-list.ensures.write;
        then = c.flush_out.ensures.so;
      };
    };
  };
}

pub returns-in-Ok : goal.returns-in-Ok
returns-in-Ok g c = record {
  does = record {
    trace = _;
    lead = one g.H.System.does c.args.system.now _ c.open.new.self c.in-Ok.ensures.does;
    so = record {
      file = Ok c.in-Ok.file;
      more = [];
      did = refl;
      then = record {
        after = c.list.new.source;
        ended = Err c.in-Err-list.fault;
        ends = c.in-Err-list.ensures.ends;
        heard = c.in-Err-list.ensures.heard;
        end = c.in-Err-list.ensures.end;
        read = c.in-Err-list.ensures.read;
        read_within = c.in-Err-list.ensures.read_within;
        memory_within = c.in-Err-list.ensures.memory_within;
        too_much_came = c.in-Err-list.ensures.too_much_came;
        write = c.in-Err-list.ensures.write;
        then = (refl, refl);
      };
    };
  };
}

pub returns : goal.returns
returns g c = record {
  does = record {
    trace = _;
    lead = one g.H.System.does c.args.system.now _ c.open.new.self c.in-Err.ensures.does;
    so = record {
      file = Err c.in-Err.field-0;
      more = [];
      did = refl;
      then = (refl, refl, refl, c.requires.writer);
    };
  };
}

use Rattle.std.proofs.Common.{Ok, Err, refl, ap}
use Rattle.cm_system.proofs.Leading.{one}
use Rattle.cm_system.proofs.input_files.open_image_file.Goals as goal

pub returns-in-Ok-open_image_source : goal.returns-in-Ok-open_image_source
returns-in-Ok-open_image_source g c = record {
  value = record {
    trace = _;
    lead = one g.H.System.does c.args.system.now _ c.open.new.self c.in-Ok.ensures.does;
    so = record {
      file = c.in-Ok.file;
      after = c.open_image_source.new.source;
      did = refl;
      image = c.in-Ok-open_image_source.ensures.value;
      read = λ failed. let wrong = c.in-Ok-open_image_source.ensures.read.0 failed in absurd (cc);
    };
  };
  refused = tt;
}

pub returns-in-Ok : goal.returns-in-Ok
returns-in-Ok g c = record {
  value = tt;
  refused = record {
    trace = _;
    lead = one g.H.System.does c.args.system.now _ c.open.new.self c.in-Ok.ensures.does;
    so = record {
      file = Ok c.in-Ok.file;
      did = refl;
      refused = record {
        after = c.open_image_source.new.source;
        own = c.in-Err-open_image_source.fault;
        told = c.from.ensures;
        refused = c.in-Err-open_image_source.ensures.refused;
        read = (
          λ failed. let same = c.in-Err-open_image_source.ensures.read.0 failed in cc,
          λ is. c.in-Err-open_image_source.ensures.read.1 (ap (λ fault. Err fault) is),
        );
      };
    };
  };
}

pub returns : goal.returns
returns g c = record {
  value = tt;
  refused = record {
    trace = _;
    lead = one g.H.System.does c.args.system.now _ c.open.new.self c.in-Err.ensures.does;
    so = record { file = Err c.in-Err.field-0; did = refl; refused = refl };
  };
}

use Rattle.std.proofs.Common.{Ok, Err, [], ◌∷◌, refl}
use Rattle.cm_system.specs.Trace.{LetGo}
use Rattle.cm_system.proofs.Leading.{one, followed}
use Rattle.cm_system.proofs.output_files.save.Goals as goal

pub returns-in-Ok : goal.returns-in-Ok
returns-in-Ok g c = record {
  value = record {
    trace = _;
    lead = followed g.H.System.does c.args.system.now _ c.flush.new.self _ _ c.in-Ok.ensures.does c.fill.ensures.lead;
    so = record {
      done = Ok c.in-Ok.field-0;
      more = c.fill.ensures.trace;
      did = refl;
      then = c.fill.ensures.so;
    };
  };
}

pub returns-in-Err : goal.returns-in-Err
returns-in-Err g c = record {
  value = record {
    trace = _;
    lead = followed g.H.System.does c.args.system.now _ c.flush.new.self (LetGo c.args.part ∷ []) c.let_go.new.self
        c.in-Err.ensures.does (one g.H.System.does c.flush.new.self _ c.let_go.new.self c.let_go.ensures.does);
    so = record {
      done = Err c.in-Err.field-0;
      more = LetGo c.args.part ∷ [];
      did = refl;
      then = (refl, refl);
    };
  };
}

use Rattle.std.proofs.Common.{Ok, Err, refl, inl, inr, subst}
use Rattle.std.specs.Option.{is_some}
use Rattle.cm_model.specs.Machine.{Machine}
use Rattle.cm_system.specs.OutputFiles.{KeepsImage}
use Rattle.cm_system.proofs.Leading.{did_so, did_both}
use Rattle.cm_tools.proofs.weaves.weave_world.Goals as goal

pub returns-in-Err : goal.returns-in-Err
returns-in-Err g c = record {
  does = did_so c.in-Err.ensures.refused (λ trace refused. inl (record {
    fault = c.in-Err.fault;
    told = refl;
    refused = refused;
    silent = (refl, c.requires.writer);
  }));
}

pub returns-in-Ok-step_world : goal.returns-in-Ok-step_world
returns-in-Ok-step_world g c = record {
  does = did_both c.in-Ok.ensures.value c.finish_files-finished.ensures.value (λ trace more opens left. inr (record {
    first = trace;
    second = more;
    did = refl;
    file = c.in-Ok.ends.steps;
    part = c.in-Ok.ends.part;
    opens = opens;
    ran = left.kept;
    is = record {
      ended = Ok tt;
      ends = c.in-Ok-step_world.ensures.ends;
      write = c.in-Ok-step_world.ensures.write;
      kept = subst (λ (m : Machine). KeepsImage g.S.Sizes.n g.S.Sizes.cap m (is_some c.in-Ok.ends.part) left.kept)
          c.in-Ok-step_world.ensures.machine left.is;
    };
    closes = left.closes;
  }));
}

pub returns-in-Err-step_world : goal.returns-in-Err-step_world
returns-in-Err-step_world g c = record {
  does = did_both c.in-Ok.ensures.value c.abort_files.ensures.value (λ trace more opens broke. inr (record {
    first = trace;
    second = more;
    did = refl;
    file = c.in-Ok.ends.steps;
    part = c.in-Ok.ends.part;
    opens = opens;
    ran = Err c.from.result;
    is = record {
      ended = Err c.in-Err-step_world.fault;
      ends = c.in-Err-step_world.ensures.ends;
      write = c.in-Err-step_world.ensures.write;
      kept = c.from.ensures;
    };
    closes = broke;
  }));
}

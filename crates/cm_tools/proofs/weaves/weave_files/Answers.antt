use Rattle.std.proofs.Common.{refl, inl, inr}
use Rattle.cm_system.proofs.Leading.{did_so, did_both}
use Rattle.cm_system.proofs.Taking.{taken_of, refused_of}
use Rattle.cm_tools.proofs.weaves.weave_files.Goals as goal

pub returns-in-Err : goal.returns-in-Err
returns-in-Err g c = record {
  does = did_so c.in-Err.ensures.refused (λ trace refused. inl (record {
    fault = c.in-Err.fault;
    told = refl;
    refused = refused_of c.as_str.ensures.value c.as_str-2.ensures.value refused;
    silent = (refl, c.requires.writer);
  }));
}

pub returns-in-Ok : goal.returns-in-Ok
returns-in-Ok g c = record {
  does = did_both c.in-Ok.ensures.value c.weave_any.ensures.does (λ trace more both weaves. inr (record {
    first = trace;
    second = more;
    did = refl;
    start = c.in-Ok.taken.machine;
    program = c.in-Ok.taken.program;
    both = taken_of c.as_str.ensures.value c.as_str-2.ensures.value both;
    then = weaves;
  }));
}

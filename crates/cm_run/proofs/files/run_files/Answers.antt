use Rattle.std.proofs.Common.{refl, inl, inr}
use Rattle.cm_system.proofs.Leading.{did_so, did_both}
use Rattle.cm_run.proofs.files.run_files.Goals as goal

pub run_any-requires : goal.run_any-requires
run_any-requires g c = record {
  can = c.requires.can c.in-Ok.begun.taken.machine c.in-Ok.ensures.value.so.shared;
  reader = c.requires.reader;
  writer = c.requires.writer;
}

pub returns-in-Ok : goal.returns-in-Ok
returns-in-Ok g c = record {
  does = did_both c.in-Ok.ensures.value c.run_any.ensures.does (λ trace more begins runs. inr (record {
    first = trace;
    second = more;
    did = refl;
    start = c.in-Ok.begun.taken.machine;
    program = c.in-Ok.begun.taken.program;
    part = c.in-Ok.begun.part;
    begins = begins;
    ran = runs.ran;
    session = runs.session;
    threads = λ one wants. c.requires.alone one (runs.threads wants);
    closes = runs.closes;
  }));
}

pub returns-in-Err : goal.returns-in-Err
returns-in-Err g c = record {
  does = did_so c.in-Err.ensures.refused (λ trace refused. inl (record {
    fault = c.in-Err.fault;
    told = refl;
    refused = refused;
    untouched = ((refl, c.requires.reader), refl, c.requires.writer);
  }));
}

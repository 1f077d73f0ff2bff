use Rattle.std.proofs.Common.{refl, inl, inr}
use Rattle.cm_system.proofs.Leading.{did_so, did_both}
use Rattle.cm_tools.proofs.weaves.open_ends.Goals as goal

pub returns-in-Err : goal.returns-in-Err
returns-in-Err g c = record {
  working = tt;
  value = tt;
  refused = did_so c.in-Err.ensures.refused (λ trace refused. inl (refl, refused));
}

pub returns-in-Ok-make_ready : goal.returns-in-Ok-make_ready
returns-in-Ok-make_ready g c = record {
  working = c.in-Ok.ensures.working;
  value = did_both c.in-Ok.ensures.value c.in-Ok-make_ready.ensures.value (λ trace more opens ready. record {
    first = trace;
    second = more;
    did = refl;
    opens = opens;
    ready = ready;
  });
  refused = tt;
}

pub returns-in-Err-make_ready : goal.returns-in-Err-make_ready
returns-in-Err-make_ready g c = record {
  working = tt;
  value = tt;
  refused = did_both c.in-Ok.ensures.value c.in-Err-make_ready.ensures.refused (λ trace more opens refused. inr (record {
    first = trace;
    second = more;
    did = refl;
    file = c.in-Ok.steps;
    opens = opens;
    refused = refused;
  }));
}

use Rattle.std.proofs.Common.{refl, inl, inr}
use Rattle.cm_system.proofs.Leading.{did_so, did_both}
use Rattle.cm_cli.proofs.performing.do_words.Goals as goal

pub returns-in-Ok : goal.returns-in-Ok
returns-in-Ok g c = record {
  does = did_both c.in-Ok.ensures.value c.do_line.ensures.does (λ trace more asks does. inr (record {
    first = trace;
    second = more;
    did = refl;
    line = c.in-Ok.line;
    asks = asks;
    does = does;
  }));
}

pub returns-in-Err : goal.returns-in-Err
returns-in-Err g c = record {
  does = did_so c.in-Err.ensures.refused (λ trace asks. inl (record {
    fault = c.in-Err.fault;
    told = refl;
    asks = asks;
    untouched = ((refl, c.requires.reader), refl, c.requires.writer);
  }));
}

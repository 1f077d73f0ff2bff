use Rattle.std.proofs.Common.{Ok, Err, refl, ap}
use Rattle.cm_system.proofs.Leading.{one}
use Rattle.cm_cli.proofs.performing.ask_line.Goals as goal

pub returns-in-Ok-line_of-clause-value : goal.returns-in-Ok-line_of-clause-value
returns-in-Ok-line_of-clause-value g c = record {
  trace = _;
  lead = one g.H.System.does c.args.system.now _ c.words.new.self c.in-Ok.ensures.does;
  so = record { words = c.in-Ok.words; did = refl; asks = c.in-Ok-line_of.ensures.value };
}

pub returns-in-Err-clause-refused : goal.returns-in-Err-clause-refused
returns-in-Err-clause-refused g c = record {
  trace = _;
  lead = one g.H.System.does c.args.system.now _ c.words.new.self c.in-Err.ensures.does;
  so = record { words = Err c.in-Err.fault; did = refl; why = c.from.ensures };
}

pub returns-clause-refused : goal.returns-clause-refused
returns-clause-refused g c = record {
  trace = _;
  lead = one g.H.System.does c.args.system.now _ c.words.new.self c.in-Ok.ensures.does;
  so = record {
    words = Ok c.in-Ok.words;
    did = refl;
    why = record {
      own = c.in-Err-line_of.fault;
      told = c.from-in-Err-line_of.ensures;
      bad = λ same. c.in-Err-line_of.ensures.bad (ap (λ fault. Err fault) same);
    };
  };
}

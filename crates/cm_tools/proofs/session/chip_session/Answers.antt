use Rattle.std.proofs.Common.{Ok, Err, ap}
use Rattle.cm_system.specs.declared.fault.ChipFault.TheVariants.{Write}
use Rattle.cm_tools.proofs.Hearing.{heard_read, heard_memory, heard_too_much, known_too_long, refused, known}
use Rattle.cm_tools.proofs.session.chip_session.Goals as goal

pub returns-in-Err-Read-clause-heard : goal.returns-in-Err-Read-clause-heard
returns-in-Err-Read-clause-heard g c =
    heard_read _ _ _ (c.in-Err-Read.ensures.read_within (ap (λ fault. Err fault) c.in-Err-Read.field-0-is))

pub returns-in-Err-TooMuch-clause-ends : goal.returns-in-Err-TooMuch-clause-ends
returns-in-Err-TooMuch-clause-ends g c =
    known_too_long _ _ (c.in-Err-TooMuch.ensures.too_much (ap (λ fault. Err fault) c.in-Err-TooMuch.field-0-is))

pub returns-in-Err-TooMuch-clause-heard : goal.returns-in-Err-TooMuch-clause-heard
returns-in-Err-TooMuch-clause-heard g c =
    heard_too_much _ _ _ (c.in-Err-TooMuch.ensures.too_much_came (ap (λ fault. Err fault) c.in-Err-TooMuch.field-0-is))

pub returns-in-Err-Memory-clause-heard : goal.returns-in-Err-Memory-clause-heard
returns-in-Err-Memory-clause-heard g c =
    heard_memory _ _ _ (c.in-Err-Memory.ensures.memory_within (ap (λ fault. Err fault) c.in-Err-Memory.field-0-is))

pub returns-in-Err-clause-ends : goal.returns-in-Err-clause-ends
returns-in-Err-clause-ends g c =
    known (g.I.Source.left c.args.source.now) (g.I.Source.left c.take.new.source) c.in-Ok.text.items
    (g.O.Sink.contents c.args.sink.now) (g.O.Sink.contents c.args.sink.now) (Err c.in-Err.fault)
    c.in-Ok.ensures.ok c.in-Ok.ensures.end
    (refused _ _ c.in-Err.fault c.in-Ok.ensures.within (rw c.as_slice.ensures.value at c.in-Err.ensures.value))

pub returns-in-Err-clause-heard : goal.returns-in-Err-clause-heard
returns-in-Err-clause-heard g c = record {
  text = c.in-Ok.text.items;
  read = c.in-Ok.ensures.ok;
  ends = refused _ _ c.in-Err.fault c.in-Ok.ensures.within (rw c.as_slice.ensures.value at c.in-Err.ensures.value);
}

pub returns-in-Ok-write_all-clause-ends : goal.returns-in-Ok-write_all-clause-ends
returns-in-Ok-write_all-clause-ends g c =
    known (g.I.Source.left c.args.source.now) (g.I.Source.left c.take.new.source) c.in-Ok.text.items
    (g.O.Sink.contents c.args.sink.now) (g.O.Sink.contents c.write_all.new.sink) (Ok tt)
    c.in-Ok.ensures.ok c.in-Ok.ensures.end
    (record {
      within = c.in-Ok.ensures.within;
      answer = c.in-Ok-answer.answer.items;
      is = rw c.as_slice.ensures.value at c.in-Ok-answer.ensures.value;
      written = rw c.as_slice-2.ensures.value at c.in-Ok-write_all.ensures.ok;
    })

pub returns-in-Ok-write_all-clause-heard : goal.returns-in-Ok-write_all-clause-heard
returns-in-Ok-write_all-clause-heard g c = record {
  text = c.in-Ok.text.items;
  read = c.in-Ok.ensures.ok;
  ends = record {
    within = c.in-Ok.ensures.within;
    answer = c.in-Ok-answer.answer.items;
    is = rw c.as_slice.ensures.value at c.in-Ok-answer.ensures.value;
    written = rw c.as_slice-2.ensures.value at c.in-Ok-write_all.ensures.ok;
  };
}

pub returns-clause-ends : goal.returns-clause-ends
returns-clause-ends g c =
    known (g.I.Source.left c.args.source.now) (g.I.Source.left c.take.new.source) c.in-Ok.text.items
    (g.O.Sink.contents c.args.sink.now) (g.O.Sink.contents c.write_all.new.sink)
    (Err (Write c.in-Err-write_all.fault.0)) c.in-Ok.ensures.ok c.in-Ok.ensures.end
    (record {
      within = c.in-Ok.ensures.within;
      answer = c.in-Ok-answer.answer.items;
      is = rw c.as_slice.ensures.value at c.in-Ok-answer.ensures.value;
      short = rw c.as_slice-2.ensures.value at c.in-Err-write_all.ensures.err.0;
      written = rw c.as_slice-2.ensures.value at c.in-Err-write_all.ensures.err.1;
    })

pub returns-clause-heard : goal.returns-clause-heard
returns-clause-heard g c = record {
  text = c.in-Ok.text.items;
  read = c.in-Ok.ensures.ok;
  ends = record {
    within = c.in-Ok.ensures.within;
    answer = c.in-Ok-answer.answer.items;
    is = rw c.as_slice.ensures.value at c.in-Ok-answer.ensures.value;
    short = rw c.as_slice-2.ensures.value at c.in-Err-write_all.ensures.err.0;
    written = rw c.as_slice-2.ensures.value at c.in-Err-write_all.ensures.err.1;
  };
}

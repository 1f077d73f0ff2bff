use Rattle.std.proofs.Common.{◌++◌, take, arith}
use Rattle.std.proofs.KnownBytes.{Consumes-trans}
use Rattle.std.proofs.lemmas.List.{length-append, length-take, length-take-le}
use Rattle.cm_system.proofs.read_all.take.Goals as goal

pub returns-then-count-limit-clause-too_much_came : goal.returns-then-count-limit-clause-too_much_came
returns-then-count-limit-clause-too_much_came g c = λ _. record {
  bytes = c.loop-count.taken.items ++ take c.in-Ok.count c.read.new.buf;
  many = omega (
    arith,
    length-append c.loop-count.taken.items (take c.in-Ok.count c.read.new.buf),
    length-take-le c.in-Ok.count c.read.new.buf,
    length-take c.in-Ok.count c.read.new.buf,
    c.if-count-limit.true,
    c.loop-count.invariant.within,
    c.len.ensures,
    c.in-Ok.ensures.bound,
  );
  few = omega (
    arith,
    length-append c.loop-count.taken.items (take c.in-Ok.count c.read.new.buf),
    length-take-le c.in-Ok.count c.read.new.buf,
    c.loop-count.invariant.within,
    c.in-Ok.ensures.bound,
  );
  consumed = Consumes-trans _ _ _ _ _ c.loop-count.invariant.consumed c.in-Ok.ensures.bytes.0;
}

pub returns-then-is_err-clause-memory_within : goal.returns-then-is_err-clause-memory_within
returns-then-is_err-clause-memory_within g c = λ _. record {
  bytes = c.loop-count.taken.items ++ take c.in-Ok.count c.read.new.buf;
  few = omega (
    arith,
    length-append c.loop-count.taken.items (take c.in-Ok.count c.read.new.buf),
    length-take-le c.in-Ok.count c.read.new.buf,
    length-take c.in-Ok.count c.read.new.buf,
    c.if-count-limit.false,
    c.loop-count.invariant.within,
    c.loop-count.taken.ok,
    c.len.ensures,
  );
  consumed = Consumes-trans _ _ _ _ _ c.loop-count.invariant.consumed c.in-Ok.ensures.bytes.0;
}

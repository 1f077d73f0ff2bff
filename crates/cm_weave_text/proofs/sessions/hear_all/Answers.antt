use Rattle.std.proofs.Common.{◌≡◌, ◌∷◌, [], ◌++◌, take, ℕ, ◌∙◌, subst, arith}
use Rattle.std.specs.Io.KnownBytes.{Consumes}
use Rattle.cm_exchange.specs.Lanes.{Exchange}
use Rattle.cm_weave_text.specs.Hearing.{exchange_in, processed, TextAborts, HasHeard}
use Rattle.cm_weave_text.proofs.Pieces.{exchange_kept, own_run, same_run}
use Rattle.cm_weave_text.proofs.Ending.{at_first_byte, midway_on, ends_read, ends_in_read, ends_over, heard_closed}
use Rattle.cm_weave_text.proofs.Ending.{heard_last, ends_last, is_none, has_some, taken_whole}
use Rattle.cm_weave_text.proofs.Ending.{some_read, some_in_read, some_over, some_closed, some_last, some_cut_last}
use Rattle.cm_weave_text.proofs.Ending.{within_read, within_piece}
use Rattle.cm_weave_text.proofs.sessions.hear_all.Goals as goal

pub loop-count-init : goal.loop-count-init
loop-count-init g c = record {
  text = [];
  run = own_run c.args.world.now;
  midway = at_first_byte (exchange_in g.S.Sizes.n g.S.Sizes.cap c.args.world.now) c.args.world.now.world
      (g.O.Sink.contents c.args.out.now) (g.I.Source.left c.args.steps.now) c.new-line.result.items
      c.new-line.ensures.items;
  reading = c.requires.reader;
  writing = c.requires.writer;
}

pub returns-in-Err-clause-err : goal.returns-in-Err-clause-err
returns-in-Err-clause-err g c =
    let so = c.loop-count.invariant in
    ends_read (exchange_in g.S.Sizes.n g.S.Sizes.cap c.args.world.now) c.args.world.now.world _ _ so.text _ _ _ _ _ _ so.midway
    (g.I.Source.left c.read.new.self) c.in-Err.ensures.bytes

pub returns-in-Err-clause-heard : goal.returns-in-Err-clause-heard
returns-in-Err-clause-heard g c =
    let so = c.loop-count.invariant in
    some_read (exchange_in g.S.Sizes.n g.S.Sizes.cap c.args.world.now) c.args.world.now.world _ _ so.text _ _ _ _ _ _ so.midway
    (g.I.Source.left c.read.new.self) c.in-Err.ensures.bytes

pub returns-in-Err-tell-clause-err : goal.returns-in-Err-tell-clause-err
returns-in-Err-tell-clause-err g c =
    let so = c.loop-count.invariant in
    let same = exchange_kept g.S.Sizes.n g.S.Sizes.cap c.args.world.now c.loop-count.world so.run in
    ends_in_read (exchange_in g.S.Sizes.n g.S.Sizes.cap c.args.world.now) c.args.world.now.world _ _ so.text _ _ _ _ _ _
    so.midway c.read.new.buf c.in-Ok.count c.min-room.result (g.O.Sink.contents c.tell.new.out) c.in-Err-tell.fault
    c.min-room.ensures
    (subst (λ (e : Exchange). TextAborts (processed e (record {
      world = c.loop-count.world.world;
      line = c.loop-count.line.items;
      answers = [];
    }) (take c.min-room.result c.read.new.buf)).answers c.loop-count.sent
    (g.O.Sink.contents c.loop-count.out) (g.O.Sink.contents c.tell.new.out) c.in-Err-tell.fault) same
    c.in-Err-tell.ensures.err)
    (g.I.Source.left c.read.new.self) c.in-Ok.ensures.bytes.0

pub returns-in-Err-tell-clause-heard : goal.returns-in-Err-tell-clause-heard
returns-in-Err-tell-clause-heard g c =
    let so = c.loop-count.invariant in
    let same = exchange_kept g.S.Sizes.n g.S.Sizes.cap c.args.world.now c.loop-count.world so.run in
    some_in_read (exchange_in g.S.Sizes.n g.S.Sizes.cap c.args.world.now) c.args.world.now.world _ _ so.text _ _ _ _ _ _
    so.midway c.read.new.buf c.in-Ok.count c.min-room.result (g.O.Sink.contents c.tell.new.out) c.in-Err-tell.fault
    c.min-room.ensures
    (subst (λ (e : Exchange). TextAborts (processed e (record {
      world = c.loop-count.world.world;
      line = c.loop-count.line.items;
      answers = [];
    }) (take c.min-room.result c.read.new.buf)).answers c.loop-count.sent
    (g.O.Sink.contents c.loop-count.out) (g.O.Sink.contents c.tell.new.out) c.in-Err-tell.fault) same
    c.in-Err-tell.ensures.err)
    (g.I.Source.left c.read.new.self) c.in-Ok.ensures.bytes.0

pub returns-then-room-count-clause-err : goal.returns-then-room-count-clause-err
returns-then-room-count-clause-err g c =
    let so = c.loop-count.invariant in
    let same = exchange_kept g.S.Sizes.n g.S.Sizes.cap c.args.world.now c.loop-count.world so.run in
    ends_over (exchange_in g.S.Sizes.n g.S.Sizes.cap c.args.world.now) c.args.world.now.world _ _ so.text _ _ _ _ _ _
    so.midway c.read.new.buf c.in-Ok.count c.min-room.result c.tell.new.world.world c.tell.new.line.items
    (g.O.Sink.contents c.tell.new.out) c.in-Ok-tell.now c.in-Ok.ensures.bound.0 c.min-room.ensures
    c.if-room-count.true
    (subst (λ (e : Exchange). HasHeard e c.loop-count.world.world c.tell.new.world.world c.loop-count.line.items
    c.tell.new.line.items (take c.min-room.result c.read.new.buf) c.loop-count.sent (g.O.Sink.contents c.loop-count.out)
    (g.O.Sink.contents c.tell.new.out) c.in-Ok-tell.now) same c.in-Ok-tell.ensures.ok)
    (g.I.Source.left c.read.new.self) c.in-Ok.ensures.bytes.0

pub returns-then-room-count-clause-heard : goal.returns-then-room-count-clause-heard
returns-then-room-count-clause-heard g c =
    let so = c.loop-count.invariant in
    let same = exchange_kept g.S.Sizes.n g.S.Sizes.cap c.args.world.now c.loop-count.world so.run in
    some_over (exchange_in g.S.Sizes.n g.S.Sizes.cap c.args.world.now) c.args.world.now.world _ _ so.text _ _ _ _ _ _
    so.midway c.read.new.buf c.in-Ok.count c.min-room.result c.tell.new.world.world c.tell.new.line.items
    (g.O.Sink.contents c.tell.new.out) c.in-Ok-tell.now c.in-Ok.ensures.bound.0 c.min-room.ensures
    c.if-room-count.true
    (subst (λ (e : Exchange). HasHeard e c.loop-count.world.world c.tell.new.world.world c.loop-count.line.items
    c.tell.new.line.items (take c.min-room.result c.read.new.buf) c.loop-count.sent (g.O.Sink.contents c.loop-count.out)
    (g.O.Sink.contents c.tell.new.out) c.in-Ok-tell.now) same c.in-Ok-tell.ensures.ok)
    (g.I.Source.left c.read.new.self) c.in-Ok.ensures.bytes.0

pub loop-count-preserved : goal.loop-count-preserved
loop-count-preserved g c =
    let so = c.loop-count.invariant in
    let same = exchange_kept g.S.Sizes.n g.S.Sizes.cap c.args.world.now c.loop-count.world so.run in
    let most = so.midway.within in
    let bound = c.in-Ok.ensures.bound.0 in
    let all : c.in-Ok.count ≡ c.min-room.result = omega (arith, c.min-room.ensures, c.if-room-count.false) in
    record {
      text = so.text ++ take c.min-room.result c.read.new.buf;
      run = same_run c.args.world.now c.loop-count.world c.tell.new.world so.run c.tell.ensures.run;
      midway = midway_on (exchange_in g.S.Sizes.n g.S.Sizes.cap c.args.world.now) c.args.world.now.world _ _ so.text _ _ _ _ _ _
          so.midway (take c.min-room.result c.read.new.buf) (g.I.Source.left c.read.new.self) c.tell.new.world.world
          c.tell.new.line.items (g.O.Sink.contents c.tell.new.out) c.in-Ok-tell.now c.min-room.result
          (subst (λ (k : ℕ). Consumes (g.I.Source.left c.loop-count.steps) (g.I.Source.left c.read.new.self)
          (take k c.read.new.buf)) all c.in-Ok.ensures.bytes.0)
          (taken_whole c.min-room.result c.read.new.buf (omega (arith, all, bound)))
          (omega (arith, all, c.if-count-eq0.false)) (omega (arith, c.min-room.ensures, most)) c.in-Ok-tell.ensures.few
          (subst (λ (e : Exchange). HasHeard e c.loop-count.world.world c.tell.new.world.world c.loop-count.line.items
          c.tell.new.line.items (take c.min-room.result c.read.new.buf) c.loop-count.sent
          (g.O.Sink.contents c.loop-count.out) (g.O.Sink.contents c.tell.new.out) c.in-Ok-tell.now) same
          c.in-Ok-tell.ensures.ok);
      reading = c.in-Ok.ensures.failed ∙ so.reading;
      writing = c.in-Ok-tell.ensures.write;
    }

pub returns-then-is_empty-clause-ok : goal.returns-then-is_empty-clause-ok
returns-then-is_empty-clause-ok g c =
    let so = c.loop-count.invariant in
    heard_closed (exchange_in g.S.Sizes.n g.S.Sizes.cap c.args.world.now) c.args.world.now.world _ _ so.text _ _ _ _ _ _
    so.midway (g.I.Source.left c.read.new.self) c.read.new.buf c.in-Ok.count c.if-count-eq0.true c.in-Ok.ensures.bytes.0
    (c.in-Ok.ensures.bytes.1 c.if-count-eq0.true (omega arith))
    (is_none c.loop-count.line.items c.loop-count.line.len c.is_empty.result (omega (arith, c.loop-count.line.ok.0))
    c.is_empty.ensures c.if-is_empty.true)

pub returns-then-is_empty-clause-heard : goal.returns-then-is_empty-clause-heard
returns-then-is_empty-clause-heard g c =
    let so = c.loop-count.invariant in
    some_closed (exchange_in g.S.Sizes.n g.S.Sizes.cap c.args.world.now) c.args.world.now.world _ _ so.text _ _ _ _ _ _
    so.midway (g.I.Source.left c.read.new.self) c.read.new.buf c.in-Ok.count c.if-count-eq0.true c.in-Ok.ensures.bytes.0
    (c.in-Ok.ensures.bytes.1 c.if-count-eq0.true (omega arith))
    (is_none c.loop-count.line.items c.loop-count.line.len c.is_empty.result (omega (arith, c.loop-count.line.ok.0))
    c.is_empty.ensures c.if-is_empty.true)

pub returns-in-Ok-tell-2-clause-ok : goal.returns-in-Ok-tell-2-clause-ok
returns-in-Ok-tell-2-clause-ok g c =
    let so = c.loop-count.invariant in
    let same = exchange_kept g.S.Sizes.n g.S.Sizes.cap c.args.world.now c.loop-count.world so.run in
    heard_last (exchange_in g.S.Sizes.n g.S.Sizes.cap c.args.world.now) c.args.world.now.world _ _ so.text _ _ _ _ _ _
    so.midway (g.I.Source.left c.read.new.self) c.read.new.buf c.in-Ok.count c.if-count-eq0.true c.in-Ok.ensures.bytes.0
    (c.in-Ok.ensures.bytes.1 c.if-count-eq0.true (omega arith)) c.tell-2.new.world.world c.tell-2.new.line.items
    (g.O.Sink.contents c.tell-2.new.out) c.in-Ok-tell-2.now
    (has_some c.loop-count.line.items c.loop-count.line.len c.is_empty.result (omega (arith, c.loop-count.line.ok.0))
    c.is_empty.ensures c.if-is_empty.false)
    (subst (λ (e : Exchange). HasHeard e c.loop-count.world.world c.tell-2.new.world.world c.loop-count.line.items
    c.tell-2.new.line.items (10 ∷ []) c.loop-count.sent (g.O.Sink.contents c.loop-count.out)
    (g.O.Sink.contents c.tell-2.new.out) c.in-Ok-tell-2.now) same c.in-Ok-tell-2.ensures.ok)

pub returns-in-Ok-tell-2-clause-heard : goal.returns-in-Ok-tell-2-clause-heard
returns-in-Ok-tell-2-clause-heard g c =
    let so = c.loop-count.invariant in
    let same = exchange_kept g.S.Sizes.n g.S.Sizes.cap c.args.world.now c.loop-count.world so.run in
    some_last (exchange_in g.S.Sizes.n g.S.Sizes.cap c.args.world.now) c.args.world.now.world _ _ so.text _ _ _ _ _ _
    so.midway (g.I.Source.left c.read.new.self) c.read.new.buf c.in-Ok.count c.if-count-eq0.true c.in-Ok.ensures.bytes.0
    (c.in-Ok.ensures.bytes.1 c.if-count-eq0.true (omega arith)) c.tell-2.new.world.world c.tell-2.new.line.items
    (g.O.Sink.contents c.tell-2.new.out) c.in-Ok-tell-2.now
    (has_some c.loop-count.line.items c.loop-count.line.len c.is_empty.result (omega (arith, c.loop-count.line.ok.0))
    c.is_empty.ensures c.if-is_empty.false)
    (subst (λ (e : Exchange). HasHeard e c.loop-count.world.world c.tell-2.new.world.world c.loop-count.line.items
    c.tell-2.new.line.items (10 ∷ []) c.loop-count.sent (g.O.Sink.contents c.loop-count.out)
    (g.O.Sink.contents c.tell-2.new.out) c.in-Ok-tell-2.now) same c.in-Ok-tell-2.ensures.ok)

pub returns-clause-err : goal.returns-clause-err
returns-clause-err g c =
    let so = c.loop-count.invariant in
    let same = exchange_kept g.S.Sizes.n g.S.Sizes.cap c.args.world.now c.loop-count.world so.run in
    ends_last (exchange_in g.S.Sizes.n g.S.Sizes.cap c.args.world.now) c.args.world.now.world _ _ so.text _ _ _ _ _ _
    so.midway (g.I.Source.left c.read.new.self) c.read.new.buf c.in-Ok.count c.if-count-eq0.true c.in-Ok.ensures.bytes.0
    (c.in-Ok.ensures.bytes.1 c.if-count-eq0.true (omega arith)) (g.O.Sink.contents c.tell-2.new.out)
    c.in-Err-tell-2.fault
    (has_some c.loop-count.line.items c.loop-count.line.len c.is_empty.result (omega (arith, c.loop-count.line.ok.0))
    c.is_empty.ensures c.if-is_empty.false)
    (subst (λ (e : Exchange). TextAborts (processed e (record {
      world = c.loop-count.world.world;
      line = c.loop-count.line.items;
      answers = [];
    }) (10 ∷ [])).answers c.loop-count.sent
    (g.O.Sink.contents c.loop-count.out) (g.O.Sink.contents c.tell-2.new.out) c.in-Err-tell-2.fault) same
    c.in-Err-tell-2.ensures.err)

pub returns-clause-heard : goal.returns-clause-heard
returns-clause-heard g c =
    let so = c.loop-count.invariant in
    let same = exchange_kept g.S.Sizes.n g.S.Sizes.cap c.args.world.now c.loop-count.world so.run in
    some_cut_last (exchange_in g.S.Sizes.n g.S.Sizes.cap c.args.world.now) c.args.world.now.world _ _ so.text _ _ _ _ _ _
    so.midway (g.I.Source.left c.read.new.self) c.read.new.buf c.in-Ok.count c.if-count-eq0.true c.in-Ok.ensures.bytes.0
    (c.in-Ok.ensures.bytes.1 c.if-count-eq0.true (omega arith)) (g.O.Sink.contents c.tell-2.new.out)
    c.in-Err-tell-2.fault
    (has_some c.loop-count.line.items c.loop-count.line.len c.is_empty.result (omega (arith, c.loop-count.line.ok.0))
    c.is_empty.ensures c.if-is_empty.false)
    (subst (λ (e : Exchange). TextAborts (processed e (record {
      world = c.loop-count.world.world;
      line = c.loop-count.line.items;
      answers = [];
    }) (10 ∷ [])).answers c.loop-count.sent
    (g.O.Sink.contents c.loop-count.out) (g.O.Sink.contents c.tell-2.new.out) c.in-Err-tell-2.fault) same
    c.in-Err-tell-2.ensures.err)

pub returns-in-Err-clause-within : goal.returns-in-Err-clause-within
returns-in-Err-clause-within g c =
    let so = c.loop-count.invariant in
    within_read (exchange_in g.S.Sizes.n g.S.Sizes.cap c.args.world.now) c.args.world.now.world _ _ so.text _ _ _ _ _ _
    so.midway (g.I.Source.left c.read.new.self) c.in-Err.ensures.bytes

pub returns-in-Err-tell-clause-within : goal.returns-in-Err-tell-clause-within
returns-in-Err-tell-clause-within g c =
    let so = c.loop-count.invariant in
    within_piece (exchange_in g.S.Sizes.n g.S.Sizes.cap c.args.world.now) c.args.world.now.world _ _ so.text _ _ _ _ _ _
    so.midway (g.I.Source.left c.read.new.self) c.read.new.buf c.in-Ok.count
    (omega (arith, c.in-Ok.ensures.bound)) c.in-Ok.ensures.bytes.0

pub returns-then-room-count-clause-within : goal.returns-then-room-count-clause-within
returns-then-room-count-clause-within g c =
    let so = c.loop-count.invariant in
    within_piece (exchange_in g.S.Sizes.n g.S.Sizes.cap c.args.world.now) c.args.world.now.world _ _ so.text _ _ _ _ _ _
    so.midway (g.I.Source.left c.read.new.self) c.read.new.buf c.in-Ok.count
    (omega (arith, c.in-Ok.ensures.bound)) c.in-Ok.ensures.bytes.0

pub returns-then-is_empty-clause-within : goal.returns-then-is_empty-clause-within
returns-then-is_empty-clause-within g c =
    let so = c.loop-count.invariant in
    within_piece (exchange_in g.S.Sizes.n g.S.Sizes.cap c.args.world.now) c.args.world.now.world _ _ so.text _ _ _ _ _ _
    so.midway (g.I.Source.left c.read.new.self) c.read.new.buf c.in-Ok.count
    (omega (arith, c.in-Ok.ensures.bound)) c.in-Ok.ensures.bytes.0

pub returns-in-Ok-tell-2-clause-within : goal.returns-in-Ok-tell-2-clause-within
returns-in-Ok-tell-2-clause-within g c =
    let so = c.loop-count.invariant in
    within_piece (exchange_in g.S.Sizes.n g.S.Sizes.cap c.args.world.now) c.args.world.now.world _ _ so.text _ _ _ _ _ _
    so.midway (g.I.Source.left c.read.new.self) c.read.new.buf c.in-Ok.count
    (omega (arith, c.in-Ok.ensures.bound)) c.in-Ok.ensures.bytes.0

pub returns-clause-within : goal.returns-clause-within
returns-clause-within g c =
    let so = c.loop-count.invariant in
    within_piece (exchange_in g.S.Sizes.n g.S.Sizes.cap c.args.world.now) c.args.world.now.world _ _ so.text _ _ _ _ _ _
    so.midway (g.I.Source.left c.read.new.self) c.read.new.buf c.in-Ok.count
    (omega (arith, c.in-Ok.ensures.bound)) c.in-Ok.ensures.bytes.0

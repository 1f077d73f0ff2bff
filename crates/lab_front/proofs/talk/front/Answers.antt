use Rattle.std.proofs.Common.{◌≡◌, ℕ, ◌+◌, ◌-◌, ◌<◌, ◌≤◌, List, [], ◌∷◌, ◌++◌, length, take, drop, refl, ap, ◌∙◌, sym}
use Rattle.std.proofs.Common.{subst, arith, length-append, length-drop, Err, inl}
use Rattle.std.proofs.KnownBytes.{Consumes-nil}
use Rattle.std.specs.Io.KnownBytes.{Consumes}
use Rattle.cm_session.specs.declared.fault.SessionFault.TheVariants.{Read}
use Rattle.cm_bits.specs.Text.{IsUnended}
use Rattle.cm_debug.proofs.Ending.{is_none, has_some}
use Rattle.lab_front.specs.Front.{Front, front_of}
use Rattle.std.proofs.lemmas.List.Elements.{All-nil}
use Rattle.lab_front.specs.Ends.{LINE_LIMIT, CountsFrontLacks}
use Rattle.lab_front.specs.Hearing.{LineAborts}
use Rattle.lab_front.proofs.Lacking.{lacks_unheard}
use Rattle.lab_front.proofs.Lines.{no_lines, line_more}
use Rattle.lab_front.proofs.Told.{IsTold, nothing_told, told_line, told_sent}
use Rattle.lab_front.proofs.Ending.{a_line_on, unended_rest, line_ends, send_ends, hearing_ends, heard_more, heard_len}
use Rattle.lab_front.proofs.Ending.{heard_none, closed_ends, last_ends, answered_ends, cut_ends, rest_len, line_len_is}
use Rattle.lab_front.proofs.Ending.{all_len, no_fault, not_failed, none_seen, seen_more, over_ends, over_is}
use Rattle.lab_front.proofs.Ending.{short_more}
use Rattle.lab_front.proofs.talk.front.Goals as goal

pub loop-front-init : goal.loop-front-init
loop-front-init g c =
    let source = g.I.Source.left c.args.commands.now in
    let out_before = g.O.Sink.contents c.args.out.now in
    let start = c.args.machine.now.machine in
    record {
      given = [];
      done = [];
      lines = no_lines;
      consumed = subst (λ (xs : List ℕ). Consumes source source xs) (sym c.new-heard.ensures.items) (Consumes-nil source);
      told = subst (λ (f : Front). IsTold g.S.Sizes.n g.S.Sizes.cap start out_before [] f out_before c.new-answers.result.sent
          c.new-answers.result.bytes.items) (sym (ap (front_of start) c.new-front.ensures))
          (nothing_told g.S.Sizes.n g.S.Sizes.cap start out_before c.new-answers.result.sent c.new-answers.result.bytes.items
          c.new-answers.ensures.sent c.new-answers.ensures.none);
      within = omega arith;
      taken = omega (arith, ap length c.new-heard.ensures.items);
      short = All-nil (λ (l : List ℕ). length l ≤ LINE_LIMIT);
      open_len = omega (arith, ap length c.new-heard.ensures.items);
      seen_in = omega arith;
      seen = none_seen (drop 0 c.new-heard.result.items);
      few = omega arith;
      sent = omega (arith, c.new-answers.ensures.sent, ap length c.new-answers.ensures.none);
      reading = c.requires.reader;
      writing = c.requires.writer;
      threads = refl;
    }

pub returns-in-Err-clause-ends : goal.returns-in-Err-clause-ends
returns-in-Err-clause-ends g c =
    let so = c.loop-front.invariant in
    let place = c.loop-front.place in
    let len = c.line_len-len.result in
    let rest : List ℕ = take (length c.deref.result.now - place) (drop place c.deref.result.now) in
    let inside : len < length rest = omega (arith, c.if-len-rest.true) in
    line_ends g.S.Sizes.n g.S.Sizes.cap c.args.machine.now.machine (g.O.Sink.contents c.args.out.now)
    (g.I.Source.left c.args.commands.now) (g.I.Source.left c.loop-front.commands) c.loop-front.heard.items so.given rest
    (take len rest) place len so.done (front_of c.loop-front.machine.machine c.loop-front.front)
    (g.O.Sink.contents c.loop-front.out) (g.O.Sink.contents c.tell_line.new.out) c.loop-front.answers.sent
    c.loop-front.answers.bytes.items c.tell_line.new.machine.machine c.in-Err.fault
    (ap (λ (xs : List ℕ). take (length xs - place) (drop place xs)) c.deref.ensures.value) refl inside
    (c.line_len-len.ensures.ends inside) c.line_len-len.ensures.unended so.lines
    (omega (arith, so.open_len, length-drop place c.loop-front.heard.items)) so.consumed so.told c.in-Err.ensures.err

pub loop-front-preserved-then-len-rest : goal.loop-front-preserved-then-len-rest
loop-front-preserved-then-len-rest g c =
    let so = c.loop-front.invariant in
    let ended = c.in-Ok.ensures in
    let heard = c.loop-front.heard.items in
    let place = c.loop-front.place in
    let len = c.line_len-len.result in
    let rest : List ℕ = take (length c.deref.result.now - place) (drop place c.deref.result.now) in
    let line : List ℕ = take len rest in
    let is : rest ≡ take (length heard - place) (drop place heard) =
    ap (λ (xs : List ℕ). take (length xs - place) (drop place xs)) c.deref.ensures.value in
    let inside : len < length rest = omega (arith, c.if-len-rest.true) in
    let size : length rest ≡ length heard - place = rest_len heard rest place is in
    let count : length line ≡ len = line_len_is rest len (omega (arith, inside)) in
    let grown : length (so.given ++ (line ++ 10 ∷ [])) ≡ length so.given + (len + 1) =
    omega (arith, length-append so.given (line ++ 10 ∷ []), length-append line (10 ∷ []), count) in
    record {
      given = so.given ++ (line ++ 10 ∷ []);
      done = so.done ++ line ∷ [];
      lines = line_more so.given line so.done c.line_len-len.ensures.unended so.lines;
      consumed = subst
          (Consumes (g.I.Source.left c.args.commands.now) (g.I.Source.left c.loop-front.commands))
          (a_line_on heard so.given rest line place len is refl inside (c.line_len-len.ensures.ends inside)) so.consumed;
      told = told_line g.S.Sizes.n g.S.Sizes.cap c.args.machine.now.machine (g.O.Sink.contents c.args.out.now) so.done
          (front_of c.loop-front.machine.machine c.loop-front.front)
          (front_of c.tell_line.new.machine.machine c.tell_line.new.front) (g.O.Sink.contents c.loop-front.out)
          (g.O.Sink.contents c.tell_line.new.out) c.loop-front.answers.sent c.tell_line.new.answers.sent
          c.loop-front.answers.bytes.items c.tell_line.new.answers.bytes.items line so.told ended.front ended.written
          ended.count;
      within = omega (arith, inside, size, so.within);
      taken = omega (arith, so.taken, grown);
      short = short_more line so.done so.short (omega (arith, count, inside, size, so.open_len));
      open_len = omega (arith, so.open_len);
      seen_in = omega (arith, inside, size, so.within);
      seen = none_seen (drop (place + (len + 1)) heard);
      few = so.few;
      sent = omega (arith, ended.few, so.sent, grown);
      reading = so.reading;
      writing = ended.failed;
      threads = ended.threads ∙ so.threads;
    }

pub returns-in-Err-send-clause-ends : goal.returns-in-Err-send-clause-ends
returns-in-Err-send-clause-ends g c =
    let so = c.loop-front.invariant in
    send_ends g.S.Sizes.n g.S.Sizes.cap c.args.machine.now.machine (g.O.Sink.contents c.args.out.now)
    (g.I.Source.left c.args.commands.now) (g.I.Source.left c.loop-front.commands) so.given
    (drop c.loop-front.place c.loop-front.heard.items) so.done
    (front_of c.loop-front.machine.machine c.loop-front.front) (g.O.Sink.contents c.loop-front.out)
    (g.O.Sink.contents c.send.new.out) c.loop-front.answers.sent c.loop-front.answers.bytes.items c.in-Err-send.cut.0
    so.lines (omega (arith, so.open_len, length-drop c.loop-front.place c.loop-front.heard.items)) so.consumed so.told
    c.in-Err-send.ensures.err

pub returns-then-is_too_much-clause-ends : goal.returns-then-is_too_much-clause-ends
returns-then-is_too_much-clause-ends g c =
    let so = c.loop-front.invariant in
    let heard = c.loop-front.heard.items in
    let place = c.loop-front.place in
    let len = c.line_len-len.result in
    let front = front_of c.loop-front.machine.machine c.loop-front.front in
    let out_before = g.O.Sink.contents c.args.out.now in
    let start = c.args.machine.now.machine in
    let rest : List ℕ = take (length c.deref.result.now - place) (drop place c.deref.result.now) in
    let is : rest ≡ take (length heard - place) (drop place heard) =
    ap (λ (xs : List ℕ). take (length xs - place) (drop place xs)) c.deref.ensures.value in
    let free : IsUnended (drop place heard) =
    unended_rest heard rest place len is (omega (arith, c.if-len-rest.false)) c.line_len-len.ensures.within
    c.line_len-len.ensures.unended in
    let open_is : len ≡ length (drop place heard) =
    omega (arith, c.if-len-rest.false, c.line_len-len.ensures.within, rest_len heard rest place is, length-drop place heard) in
    over_ends g.S.Sizes.n g.S.Sizes.cap start out_before (g.I.Source.left c.args.commands.now)
    (g.I.Source.left c.loop-front.commands) so.given (drop place heard)
    so.done front (g.O.Sink.contents c.send.new.out) c.send.new.self.sent
    c.send.new.self.bytes.items c.in-Ok-send.ensures.none free so.lines
    (omega (arith, so.open_len, length-drop place heard)) so.consumed so.short
    (over_is len (length (drop place heard)) c.loop-front.taken (length (so.given ++ drop place heard)) open_is
    (all_len heard so.given place c.loop-front.taken so.within so.taken)
    (c.is_too_much.ensures.over c.if-is_too_much.true))
    (told_sent g.S.Sizes.n g.S.Sizes.cap start out_before so.done front (g.O.Sink.contents c.loop-front.out)
    (g.O.Sink.contents c.send.new.out) c.loop-front.answers.sent c.send.new.self.sent c.loop-front.answers.bytes.items
    c.send.new.self.bytes.items c.in-Ok-send.ensures.written c.in-Ok-send.ensures.none c.in-Ok-send.ensures.sent so.told)

pub returns-in-Err-hear-clause-ends : goal.returns-in-Err-hear-clause-ends
returns-in-Err-hear-clause-ends g c =
    let so = c.loop-front.invariant in
    let heard = c.loop-front.heard.items in
    let place = c.loop-front.place in
    let len = c.line_len-len.result in
    let front = front_of c.loop-front.machine.machine c.loop-front.front in
    let out_before = g.O.Sink.contents c.args.out.now in
    let start = c.args.machine.now.machine in
    let rest : List ℕ = take (length c.deref.result.now - place) (drop place c.deref.result.now) in
    let is : rest ≡ take (length heard - place) (drop place heard) =
    ap (λ (xs : List ℕ). take (length xs - place) (drop place xs)) c.deref.ensures.value in
    let free : IsUnended (drop place heard) =
    unended_rest heard rest place len is (omega (arith, c.if-len-rest.false)) c.line_len-len.ensures.within
    c.line_len-len.ensures.unended in
    let open_is : len ≡ length (drop place heard) =
    omega (arith, c.if-len-rest.false, c.line_len-len.ensures.within, rest_len heard rest place is, length-drop place heard) in
    hearing_ends g.S.Sizes.n g.S.Sizes.cap start out_before (g.I.Source.left c.args.commands.now)
    (g.I.Source.left c.loop-front.commands) (g.I.Source.left c.hear.new.commands) so.given (drop place heard)
    so.done front (g.O.Sink.contents c.send.new.out) c.send.new.self.sent
    c.send.new.self.bytes.items c.in-Err-hear.fault c.in-Ok-send.ensures.none free so.lines so.consumed
    so.short (omega (arith, open_is, c.is_too_much.ensures.short c.if-is_too_much.false))
    (told_sent g.S.Sizes.n g.S.Sizes.cap start out_before so.done front (g.O.Sink.contents c.loop-front.out)
    (g.O.Sink.contents c.send.new.out) c.loop-front.answers.sent c.send.new.self.sent c.loop-front.answers.bytes.items
    c.send.new.self.bytes.items c.in-Ok-send.ensures.written c.in-Ok-send.ensures.none c.in-Ok-send.ensures.sent so.told)
    c.in-Err-hear.ensures.err

pub loop-front-preserved : goal.loop-front-preserved
loop-front-preserved g c =
    let so = c.loop-front.invariant in
    let heard = c.loop-front.heard.items in
    let place = c.loop-front.place in
    let front = front_of c.loop-front.machine.machine c.loop-front.front in
    let more = c.in-Ok-hear.ensures.ok in
    let mid = g.I.Source.left c.loop-front.commands in
    let after = g.I.Source.left c.hear.new.commands in
    let longer : length c.hear.new.heard.items ≡ length (drop place heard) + c.in-Ok-hear.count =
    heard_len mid after (drop place heard) c.hear.new.heard.items c.in-Ok-hear.count more in
    let len = c.line_len-len.result in
    let rest : List ℕ = take (length c.deref.result.now - place) (drop place c.deref.result.now) in
    let is : rest ≡ take (length heard - place) (drop place heard) =
    ap (λ (xs : List ℕ). take (length xs - place) (drop place xs)) c.deref.ensures.value in
    let free : IsUnended (drop place heard) =
    unended_rest heard rest place len is (omega (arith, c.if-len-rest.false)) c.line_len-len.ensures.within
    c.line_len-len.ensures.unended in
    let open_is : len ≡ length (drop place heard) =
    omega (arith, c.if-len-rest.false, c.line_len-len.ensures.within, rest_len heard rest place is, length-drop place heard) in
    record {
      given = so.given;
      done = so.done;
      lines = so.lines;
      consumed = heard_more (g.I.Source.left c.args.commands.now) mid after so.given (drop place heard)
          c.hear.new.heard.items c.in-Ok-hear.count so.consumed more;
      told = told_sent g.S.Sizes.n g.S.Sizes.cap c.args.machine.now.machine (g.O.Sink.contents c.args.out.now) so.done front
          (g.O.Sink.contents c.loop-front.out) (g.O.Sink.contents c.send.new.out) c.loop-front.answers.sent
          c.send.new.self.sent c.loop-front.answers.bytes.items c.send.new.self.bytes.items
          c.in-Ok-send.ensures.written c.in-Ok-send.ensures.none c.in-Ok-send.ensures.sent so.told;
      within = omega arith;
      taken = omega (arith, longer, length-drop place heard, so.within, so.taken);
      short = so.short;
      open_len = omega (arith, more.within);
      seen_in = omega (arith, longer);
      seen = seen_more (drop place heard) c.hear.new.heard.items more.bytes len more.heard_is open_is free;
      few = omega (arith, more.few, c.is_too_much.ensures.few c.if-is_too_much.false);
      sent = omega (arith, c.in-Ok-send.ensures.sent, ap length c.in-Ok-send.ensures.none, so.sent);
      reading = not_failed _ (λ fails. no_fault c.in-Ok-hear.count Read (c.in-Ok-hear.ensures.failed.0 fails));
      writing = c.in-Ok-send.ensures.failed;
      threads = so.threads;
    }

pub returns-then-is_empty-clause-ends : goal.returns-then-is_empty-clause-ends
returns-then-is_empty-clause-ends g c =
    let so = c.loop-front.invariant in
    let heard = c.loop-front.heard.items in
    let place = c.loop-front.place in
    let now = c.hear.new.heard.items in
    let front = front_of c.loop-front.machine.machine c.loop-front.front in
    let out_before = g.O.Sink.contents c.args.out.now in
    let start = c.args.machine.now.machine in
    let more = c.in-Ok-hear.ensures.ok in
    let before = g.I.Source.left c.args.commands.now in
    let mid = g.I.Source.left c.loop-front.commands in
    let after = g.I.Source.left c.hear.new.commands in
    let longer : length now ≡ length (drop place heard) + c.in-Ok-hear.count =
    heard_len mid after (drop place heard) now c.in-Ok-hear.count more in
    closed_ends g.S.Sizes.n g.S.Sizes.cap start out_before before after so.given now so.done front (g.O.Sink.contents c.send.new.out)
    c.send.new.self.sent c.send.new.self.bytes.items c.in-Ok-send.ensures.none
    (is_none now c.hear.new.heard.len c.is_empty.result (omega (arith, c.hear.new.heard.ok.0)) c.is_empty.ensures
    c.if-is_empty.true) so.lines
    (heard_more before mid after so.given (drop place heard) now c.in-Ok-hear.count so.consumed more)
    so.short
    (told_sent g.S.Sizes.n g.S.Sizes.cap start out_before so.done front (g.O.Sink.contents c.loop-front.out)
    (g.O.Sink.contents c.send.new.out) c.loop-front.answers.sent c.send.new.self.sent c.loop-front.answers.bytes.items
    c.send.new.self.bytes.items c.in-Ok-send.ensures.written c.in-Ok-send.ensures.none c.in-Ok-send.ensures.sent so.told)

pub returns-in-Err-tell_line-clause-ends : goal.returns-in-Err-tell_line-clause-ends
returns-in-Err-tell_line-clause-ends g c =
    let so = c.loop-front.invariant in
    let heard = c.loop-front.heard.items in
    let place = c.loop-front.place in
    let len = c.line_len-len.result in
    let now = c.hear.new.heard.items in
    let front = front_of c.loop-front.machine.machine c.loop-front.front in
    let out_before = g.O.Sink.contents c.args.out.now in
    let start = c.args.machine.now.machine in
    let more = c.in-Ok-hear.ensures.ok in
    let before = g.I.Source.left c.args.commands.now in
    let mid = g.I.Source.left c.loop-front.commands in
    let after = g.I.Source.left c.hear.new.commands in
    let rest : List ℕ = take (length c.deref.result.now - place) (drop place c.deref.result.now) in
    let is : rest ≡ take (length heard - place) (drop place heard) =
    ap (λ (xs : List ℕ). take (length xs - place) (drop place xs)) c.deref.ensures.value in
    let free : IsUnended (drop place heard) =
    unended_rest heard rest place len is (omega (arith, c.if-len-rest.false)) c.line_len-len.ensures.within
    c.line_len-len.ensures.unended in
    let same : now ≡ drop place heard =
    heard_none mid after (drop place heard) now c.in-Ok-hear.count c.if-count-eq0.true more in
    last_ends g.S.Sizes.n g.S.Sizes.cap start out_before before after so.given now so.done front (g.O.Sink.contents c.send.new.out)
    (g.O.Sink.contents c.tell_line-2.new.out) c.send.new.self.sent c.send.new.self.bytes.items
    c.tell_line-2.new.machine.machine c.in-Err-tell_line.fault (subst IsUnended (sym same) free)
    (has_some now now c.hear.new.heard.len c.is_empty.result (omega (arith, c.hear.new.heard.ok.0)) c.is_empty.ensures
    c.if-is_empty.false refl) so.lines more.within
    (heard_more before mid after so.given (drop place heard) now c.in-Ok-hear.count so.consumed more)
    (told_sent g.S.Sizes.n g.S.Sizes.cap start out_before so.done front (g.O.Sink.contents c.loop-front.out)
    (g.O.Sink.contents c.send.new.out) c.loop-front.answers.sent c.send.new.self.sent c.loop-front.answers.bytes.items
    c.send.new.self.bytes.items c.in-Ok-send.ensures.written c.in-Ok-send.ensures.none c.in-Ok-send.ensures.sent so.told)
    (subst (λ (l : List ℕ). LineAborts g.S.Sizes.n g.S.Sizes.cap front l c.send.new.self.sent c.send.new.self.bytes.items
    (g.O.Sink.contents c.send.new.out) c.tell_line-2.new.machine.machine (g.O.Sink.contents c.tell_line-2.new.out)
    c.in-Err-tell_line.fault) c.as_slice.ensures.value c.in-Err-tell_line.ensures.err)

pub returns-in-Ok-send-2-clause-ends : goal.returns-in-Ok-send-2-clause-ends
returns-in-Ok-send-2-clause-ends g c =
    let so = c.loop-front.invariant in
    let heard = c.loop-front.heard.items in
    let place = c.loop-front.place in
    let len = c.line_len-len.result in
    let now = c.hear.new.heard.items in
    let front = front_of c.loop-front.machine.machine c.loop-front.front in
    let last = front_of c.tell_line-2.new.machine.machine c.tell_line-2.new.front in
    let out_before = g.O.Sink.contents c.args.out.now in
    let start = c.args.machine.now.machine in
    let more = c.in-Ok-hear.ensures.ok in
    let ended = c.in-Ok-tell_line.ensures in
    let before = g.I.Source.left c.args.commands.now in
    let mid = g.I.Source.left c.loop-front.commands in
    let after = g.I.Source.left c.hear.new.commands in
    let rest : List ℕ = take (length c.deref.result.now - place) (drop place c.deref.result.now) in
    let is : rest ≡ take (length heard - place) (drop place heard) =
    ap (λ (xs : List ℕ). take (length xs - place) (drop place xs)) c.deref.ensures.value in
    let free : IsUnended (drop place heard) =
    unended_rest heard rest place len is (omega (arith, c.if-len-rest.false)) c.line_len-len.ensures.within
    c.line_len-len.ensures.unended in
    let same : now ≡ drop place heard =
    heard_none mid after (drop place heard) now c.in-Ok-hear.count c.if-count-eq0.true more in
    let longer : length now ≡ length (drop place heard) + c.in-Ok-hear.count =
    heard_len mid after (drop place heard) now c.in-Ok-hear.count more in
    answered_ends g.S.Sizes.n g.S.Sizes.cap start out_before before after so.given now so.done last
    (g.O.Sink.contents c.send-2.new.out) c.send-2.new.self.sent c.send-2.new.self.bytes.items
    c.in-Ok-send-2.ensures.none (subst IsUnended (sym same) free)
    (has_some now now c.hear.new.heard.len c.is_empty.result (omega (arith, c.hear.new.heard.ok.0)) c.is_empty.ensures
    c.if-is_empty.false refl) so.lines
    (heard_more before mid after so.given (drop place heard) now c.in-Ok-hear.count so.consumed more)
    so.short (omega (
      arith,
      longer,
      c.if-count-eq0.true,
      rest_len heard rest place is,
      length-drop place heard,
      c.if-len-rest.false,
      c.is_too_much.ensures.short c.if-is_too_much.false,
    ))
    (told_sent g.S.Sizes.n g.S.Sizes.cap start out_before (so.done ++ now ∷ []) last (g.O.Sink.contents c.tell_line-2.new.out)
    (g.O.Sink.contents c.send-2.new.out) c.tell_line-2.new.answers.sent c.send-2.new.self.sent
    c.tell_line-2.new.answers.bytes.items c.send-2.new.self.bytes.items c.in-Ok-send-2.ensures.written
    c.in-Ok-send-2.ensures.none c.in-Ok-send-2.ensures.sent
    (subst (λ (l : List ℕ). IsTold g.S.Sizes.n g.S.Sizes.cap start out_before (so.done ++ l ∷ []) last
    (g.O.Sink.contents c.tell_line-2.new.out) c.tell_line-2.new.answers.sent c.tell_line-2.new.answers.bytes.items)
    c.as_slice.ensures.value
    (told_line g.S.Sizes.n g.S.Sizes.cap start out_before so.done front last (g.O.Sink.contents c.send.new.out)
    (g.O.Sink.contents c.tell_line-2.new.out) c.send.new.self.sent c.tell_line-2.new.answers.sent
    c.send.new.self.bytes.items c.tell_line-2.new.answers.bytes.items c.as_slice.result.now
    (told_sent g.S.Sizes.n g.S.Sizes.cap start out_before so.done front (g.O.Sink.contents c.loop-front.out)
    (g.O.Sink.contents c.send.new.out) c.loop-front.answers.sent c.send.new.self.sent c.loop-front.answers.bytes.items
    c.send.new.self.bytes.items c.in-Ok-send.ensures.written c.in-Ok-send.ensures.none c.in-Ok-send.ensures.sent so.told)
    ended.front ended.written ended.count)))

pub returns-clause-ends : goal.returns-clause-ends
returns-clause-ends g c =
    let so = c.loop-front.invariant in
    let heard = c.loop-front.heard.items in
    let place = c.loop-front.place in
    let len = c.line_len-len.result in
    let now = c.hear.new.heard.items in
    let front = front_of c.loop-front.machine.machine c.loop-front.front in
    let last = front_of c.tell_line-2.new.machine.machine c.tell_line-2.new.front in
    let out_before = g.O.Sink.contents c.args.out.now in
    let start = c.args.machine.now.machine in
    let more = c.in-Ok-hear.ensures.ok in
    let ended = c.in-Ok-tell_line.ensures in
    let before = g.I.Source.left c.args.commands.now in
    let mid = g.I.Source.left c.loop-front.commands in
    let after = g.I.Source.left c.hear.new.commands in
    let rest : List ℕ = take (length c.deref.result.now - place) (drop place c.deref.result.now) in
    let is : rest ≡ take (length heard - place) (drop place heard) =
    ap (λ (xs : List ℕ). take (length xs - place) (drop place xs)) c.deref.ensures.value in
    let free : IsUnended (drop place heard) =
    unended_rest heard rest place len is (omega (arith, c.if-len-rest.false)) c.line_len-len.ensures.within
    c.line_len-len.ensures.unended in
    let same : now ≡ drop place heard =
    heard_none mid after (drop place heard) now c.in-Ok-hear.count c.if-count-eq0.true more in
    cut_ends g.S.Sizes.n g.S.Sizes.cap start out_before before after so.given now so.done last
    (g.O.Sink.contents c.tell_line-2.new.out) (g.O.Sink.contents c.send-2.new.out) c.tell_line-2.new.answers.sent
    c.tell_line-2.new.answers.bytes.items c.in-Err-send-2.cut.0 (subst IsUnended (sym same) free)
    (has_some now now c.hear.new.heard.len c.is_empty.result (omega (arith, c.hear.new.heard.ok.0)) c.is_empty.ensures
    c.if-is_empty.false refl) so.lines more.within
    (heard_more before mid after so.given (drop place heard) now c.in-Ok-hear.count so.consumed more)
    (subst (λ (l : List ℕ). IsTold g.S.Sizes.n g.S.Sizes.cap start out_before (so.done ++ l ∷ []) last
    (g.O.Sink.contents c.tell_line-2.new.out) c.tell_line-2.new.answers.sent c.tell_line-2.new.answers.bytes.items)
    c.as_slice.ensures.value
    (told_line g.S.Sizes.n g.S.Sizes.cap start out_before so.done front last (g.O.Sink.contents c.send.new.out)
    (g.O.Sink.contents c.tell_line-2.new.out) c.send.new.self.sent c.tell_line-2.new.answers.sent
    c.send.new.self.bytes.items c.tell_line-2.new.answers.bytes.items c.as_slice.result.now
    (told_sent g.S.Sizes.n g.S.Sizes.cap start out_before so.done front (g.O.Sink.contents c.loop-front.out)
    (g.O.Sink.contents c.send.new.out) c.loop-front.answers.sent c.send.new.self.sent c.loop-front.answers.bytes.items
    c.send.new.self.bytes.items c.in-Ok-send.ensures.written c.in-Ok-send.ensures.none c.in-Ok-send.ensures.sent so.told)
    ended.front ended.written ended.count)) c.in-Err-send-2.ensures.err

pub returns-in-Err-clause-threads : goal.returns-in-Err-clause-threads
returns-in-Err-clause-threads g c =
    subst (λ (k : ℕ). CountsFrontLacks k (g.R.Runner.threads_lacked c.tell_line.new.runner) (Err c.in-Err.fault))
    c.loop-front.invariant.threads c.in-Err.ensures.threads

pub returns-in-Err-send-clause-threads : goal.returns-in-Err-send-clause-threads
returns-in-Err-send-clause-threads g c = inl c.loop-front.invariant.threads

pub returns-in-Err-hear-clause-threads : goal.returns-in-Err-hear-clause-threads
returns-in-Err-hear-clause-threads g c =
    lacks_unheard _ _ _ _ _ c.in-Err-hear.fault c.loop-front.invariant.threads c.in-Err-hear.ensures.err

pub returns-in-Err-tell_line-clause-threads : goal.returns-in-Err-tell_line-clause-threads
returns-in-Err-tell_line-clause-threads g c =
    subst
    (λ (k : ℕ). CountsFrontLacks k (g.R.Runner.threads_lacked c.tell_line-2.new.runner) (Err c.in-Err-tell_line.fault))
    c.loop-front.invariant.threads c.in-Err-tell_line.ensures.threads

pub returns-clause-threads : goal.returns-clause-threads
returns-clause-threads g c = inl (c.in-Ok-tell_line.ensures.threads ∙ c.loop-front.invariant.threads)

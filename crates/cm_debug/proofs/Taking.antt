-- What a console has taken, piece after piece, and where it stops.
use Rattle.std.proofs.Common.{◌≡◌, ℕ, ◌+◌, ◌-◌, ◌<◌, ◌≤◌, Bool, false, List, [], ◌∷◌, ◌++◌, length}
use Rattle.std.proofs.Common.{take, drop, take-add, take-append-drop, get_or, Option, Result}
use Rattle.std.proofs.Common.{refl, ap, ◌∙◌, sym, subst, arith, append_assoc, append-nil, length-append}
use Rattle.std.proofs.lemmas.Grind.{common_steps}
use Rattle.std.proofs.KnownBytes.{Appends-trans}
use Rattle.std.specs.Io.KnownBytes.{Appends, append_known}
use Rattle.cm_bits.specs.Text.{words_of, IsUnended}
use Rattle.cm_model.specs.Machine.{Machine}
use Rattle.cm_array.specs.Faults.{lacked_after}
use Rattle.cm_session.specs.declared.fault.SessionFault.{SessionFault}
use Rattle.cm_session.specs.declared.command.Command.{Command}
use Rattle.cm_session.specs.declared.command.Refusal.{Refusal}
use Rattle.cm_session.specs.Commands.{command_of}
use Rattle.cm_session.specs.Session.{Answered, preceded_by, answered, after_line}
use Rattle.cm_session.specs.Ends.{ended_lines, is_session_no_thread}
use Rattle.cm_session.proofs.Lines.{ended_lines-append, ended_lines-end, open_line-end, ended_after}
use Rattle.cm_debug.specs.BufferedOutput.{AbortsBetween}
use Rattle.cm_debug.specs.Talk.{Talk, Setting, holds_of, answered_count, after_all, AreProcessed, IsBroken, AbortsAmong}
use Rattle.cm_debug.specs.Taking.{AbortsIn, HasTaken, HasStopped, HasAnswered, HasAborted}
use Rattle.cm_debug.proofs.Breaking.{among_more, breaks_in, breaks_between}
use Rattle.cm_debug.proofs.Lines.{ended_lines-part, open_line-part, lines-more, answered_line}
use Rattle.cm_debug.proofs.Sending.{as_gathered, with_none}

take_whole : (xs : List ℕ) (k : ℕ) → length xs ≤ k → take k xs ≡ xs
take_whole xs k h = grind (arith, common_steps)

-- ---- since the session began

-- bytes that end no line are kept
told_part : {n cap : ℕ} {first : Setting} {taken : List ℕ} {a : Talk} (part grown : List ℕ) → IsUnended part
    → grown ≡ a.line ++ part → AreProcessed n cap first taken a
    → AreProcessed n cap first (taken ++ part) (record a { line = grown })
told_part {n} {cap} {first} {taken} {a} part grown free is told' =
    let same : after_all n cap first (ended_lines taken) ≡ after_all n cap first (ended_lines (taken ++ part)) =
    ap (after_all n cap first) (sym (ended_lines-part taken part free)) in
    record {
      acts = told'.acts;
      session = told'.session ∙ ap (λ (x : Answered). x.session) same;
      line = is ∙ ap (λ (l : List ℕ). l ++ part) told'.line ∙ sym (open_line-part taken part free);
      written = subst (Appends first.out (holds_of a)) (ap (λ (x : Answered). x.answer) same) told'.written;
      count = told'.count ∙ ap (λ (x : Answered). length x.answer) same;
      lacked = told'.lacked;
    }

-- what was gathered is written
told_sent : {n cap : ℕ} {first : Setting} {taken : List ℕ} {a : Talk} (on : Option (List ℕ)) (kept : List ℕ) (sent : ℕ)
    → Appends (holds_of a) (append_known on kept) [] → sent + length kept ≡ answered_count a → AreProcessed n cap first taken a
    → AreProcessed n cap first taken (record a { out = on; kept = kept; sent = sent })
told_sent {n} {cap} {first} {taken} {a} on kept sent wrote count told' =
    let front : List ℕ = (after_all n cap first (ended_lines taken)).answer in
    record {
      acts = told'.acts;
      session = told'.session;
      line = told'.line;
      written = subst (Appends first.out (append_known on kept)) (append-nil front)
          (Appends-trans first.out (holds_of a) (append_known on kept) _ _ told'.written wrote);
      count = count ∙ told'.count;
      lacked = told'.lacked;
    }

-- a line that has ended is answered; it is cleared before
told_line : {n cap : ℕ} {first : Setting} {taken : List ℕ} {a c : Talk} {one : Answered} (cleared : List ℕ)
    → cleared ≡ [] → AreProcessed n cap first taken a → one ≡ after_line n cap a.acts a.session a.line
    → HasAnswered one (record a { line = cleared }) c → AreProcessed n cap first (taken ++ 10 ∷ []) c
told_line {n} {cap} {first} {taken} {a} {c} {one} cleared none told' same done =
    let front : Answered = after_all n cap first (ended_lines taken) in
    let whole : preceded_by front.answer one ≡ after_all n cap first (ended_lines (taken ++ 10 ∷ [])) =
    ap (preceded_by front.answer)
    (same ∙ (λ i. after_line n cap (told'.acts i) (told'.session i) (told'.line i)))
    ∙ sym (ap (after_all n cap first) (ended_lines-end taken) ∙ lines-more n cap first (ended_lines taken) _) in
    record {
      acts = done.acts ∙ told'.acts;
      session = done.session ∙ ap (λ (x : Answered). x.session) whole;
      line = done.line ∙ none ∙ sym (open_line-end taken);
      written = subst (Appends first.out (holds_of c)) (ap (λ (x : Answered). x.answer) whole)
          (Appends-trans first.out (holds_of a) (holds_of c) _ _ told'.written done.written);
      count = done.count ∙ ap (λ (k : ℕ). k + length one.answer) told'.count
          ∙ sym (length-append front.answer one.answer) ∙ ap (λ (x : Answered). length x.answer) whole;
      lacked = done.lacked ∙ told'.lacked;
    }

-- ---- bytes

-- none are taken
pub nothing_taken : (n cap : ℕ) (a : Talk) → HasTaken n cap a [] a
nothing_taken n cap a = record {
  told = λ first taken told'. subst (λ (t : List ℕ). AreProcessed n cap first t a) (sym (append-nil taken)) told';
  few = omega arith;
}

-- more are
pub taken_on : {n cap : ℕ} {a b c : Talk} {front more : List ℕ} → HasTaken n cap a front b → HasTaken n cap b more c
    → HasTaken n cap a (front ++ more) c
taken_on {n} {cap} {a} {b} {c} {front} {more} here there = record {
  told = λ first taken told'. subst (λ (t : List ℕ). AreProcessed n cap first t c) (append_assoc taken front more)
      (there.told first (taken ++ front) (here.told first taken told'));
  few = omega (arith, here.few, there.few, length-append front more);
}

-- it breaks off after what is taken
pub stopped_on : {n cap : ℕ} {a b c : Talk} {front more : List ℕ} {fault : SessionFault} → HasTaken n cap a front b
    → HasStopped n cap b more c fault → HasStopped n cap a (front ++ more) c fault
stopped_on {n} {cap} {a} {b} {c} {front} {more} {fault} here there = record {
  broken = λ first taken told'.
      subst (λ (t : List ℕ). IsBroken n cap first (ended_lines t) c fault) (append_assoc taken front more)
      (there.broken first (taken ++ front) (here.told first taken told'));
}

-- what breaks off in a front breaks off in all
pub broken_on : (n cap : ℕ) (first : Setting) (text more : List ℕ) (c : Talk) (fault : SessionFault)
    → IsBroken n cap first (ended_lines text) c fault → IsBroken n cap first (ended_lines (text ++ more)) c fault
broken_on n cap first text more c fault off =
    subst (λ (ls : List (List ℕ)). IsBroken n cap first ls c fault) (sym (ended_lines-append text more)) (record {
      breaks = among_more n cap first (ended_lines text) (ended_after text more) c.session.machine c.out fault
          off.breaks;
      lacked = off.lacked;
    })

stopped_in_front : {n cap : ℕ} {a c : Talk} {front : List ℕ} {fault : SessionFault} (more : List ℕ)
    → HasStopped n cap a front c fault → HasStopped n cap a (front ++ more) c fault
stopped_in_front {n} {cap} {a} {c} {front} {fault} more stopped = record {
  broken = λ first taken told'.
      subst (λ (t : List ℕ). IsBroken n cap first (ended_lines t) c fault) (append_assoc taken front more)
      (broken_on n cap first (taken ++ front) more c fault (stopped.broken first taken told'));
}

-- it breaks off between two lines
pub stopped_between : {n cap : ℕ} {a : Talk} (c : Talk) (bytes : List ℕ) (fault : SessionFault)
    → AbortsBetween a.sent a.kept a.out c.out fault → c.session.machine ≡ a.session.machine
    → is_session_no_thread fault ≡ false → c.lacked ≡ a.lacked → HasStopped n cap a bytes c fault
stopped_between {n} {cap} {a} c bytes fault off stays other lacked = record {
  broken = λ first taken told'. broken_on n cap first taken bytes c fault (record {
    breaks = subst (λ (m : Machine). AbortsAmong n cap first (ended_lines taken) m c.out fault) (sym stays)
        (breaks_between n cap first taken a c.out fault told' off);
    lacked = lacked ∙ told'.lacked
        ∙ sym (ap (λ (b : Bool). lacked_after b first.lacked) other);
  });
}

-- a front that is all of it
pub unended : (xs : List ℕ) (k : ℕ) → k ≡ length xs → IsUnended (take k xs) → IsUnended xs
unended xs k all free = subst IsUnended (take_whole xs k (omega arith)) free

-- the bytes of a line that is open are kept
pub part_taken : (n cap : ℕ) (a : Talk) (part grown : List ℕ) → IsUnended part → grown ≡ a.line ++ part
    → HasTaken n cap a part (record a { line = grown })
part_taken n cap a part grown free is = record {
  told = λ first taken told'. told_part part grown free is told';
  few = omega arith;
}

-- what was gathered is written
pub sent_taken : {n cap : ℕ} {a b : Talk} {bytes : List ℕ} (on : Option (List ℕ)) (kept : List ℕ) (sent : ℕ)
    → HasTaken n cap a bytes b → Appends (holds_of b) (append_known on kept) [] → sent + length kept ≡ answered_count b
    → HasTaken n cap a bytes (record b { out = on; kept = kept; sent = sent })
sent_taken {n} {cap} {a} {b} {bytes} on kept sent here wrote count = record {
  told = λ first taken told'. told_sent on kept sent wrote count (here.told first taken told');
  few = omega (arith, here.few, count);
}

-- it breaks off behind what is taken
pub stopped_after : {n cap : ℕ} {a b c : Talk} {bytes : List ℕ} {fault : SessionFault}
    → HasTaken n cap a bytes b → HasStopped n cap b [] c fault → HasStopped n cap a bytes c fault
stopped_after {n} {cap} {a} {b} {c} {bytes} {fault} here there =
    subst (λ (xs : List ℕ). HasStopped n cap a xs c fault) (append-nil bytes) (stopped_on here there)

-- all that was gathered is written
pub sent_on : (out_after on : Option (List ℕ)) (kept now : List ℕ) → Appends out_after on kept → now ≡ []
    → Appends (append_known out_after kept) (append_known on now) []
sent_on out_after on kept now wrote none =
    subst (λ (known : Option (List ℕ)). Appends (append_known out_after kept) known []) (sym (with_none on now none))
    (as_gathered out_after on kept wrote)

-- ---- a line that ends

-- it is answered, once what was gathered is written
pub line_taken : {n cap : ℕ} {a c : Talk} {asked : Result (Option Command) Refusal} (part cleared kept : List ℕ)
    (on : Option (List ℕ)) (sent : ℕ) → IsUnended part
    → asked ≡ command_of n (length a.acts) (words_of (a.line ++ part)) → cleared ≡ []
    → Appends (holds_of a) (append_known on kept) [] → sent + length kept ≡ answered_count a
    → HasAnswered (answered n cap a.acts a.session asked)
    (record a { line = cleared; out = on; kept = kept; sent = sent }) c
    → HasTaken n cap a (part ++ 10 ∷ []) c
line_taken {n} {cap} {a} {c} {asked} part cleared kept on sent free is none wrote count done = record {
  told = λ first taken told'.
      subst (λ (t : List ℕ). AreProcessed n cap first t c) (append_assoc taken part (10 ∷ []))
      (told_line cleared none (told_sent on kept sent wrote count (told_part part (a.line ++ part) free refl told'))
      (answered_line n cap a.acts a.session (a.line ++ part) asked is) done);
  few = omega (arith, done.few, count, length-append part (10 ∷ []));
}

-- or breaks off
pub line_stopped : {n cap : ℕ} {a c : Talk} {asked : Result (Option Command) Refusal} {fault : SessionFault}
    (part cleared kept : List ℕ) (on : Option (List ℕ)) (sent : ℕ) → IsUnended part
    → asked ≡ command_of n (length a.acts) (words_of (a.line ++ part))
    → Appends (holds_of a) (append_known on kept) [] → sent + length kept ≡ answered_count a
    → HasAborted n cap (answered n cap a.acts a.session asked)
    (record a { line = cleared; out = on; kept = kept; sent = sent }) c fault
    → HasStopped n cap a (part ++ 10 ∷ []) c fault
line_stopped {n} {cap} {a} {c} {asked} {fault} part cleared kept on sent free is wrote count off = record {
  broken = λ first taken told'.
      subst (λ (t : List ℕ). IsBroken n cap first (ended_lines t) c fault) (append_assoc taken part (10 ∷ []))
      (record {
        breaks = breaks_in n cap first (taken ++ part)
            (record a { line = a.line ++ part; out = on; kept = kept; sent = sent }) cleared c.session.machine c.out
            fault
            (told_sent on kept sent wrote count (told_part part (a.line ++ part) free refl told'))
            (subst (λ (x : Answered). AbortsIn n cap x
            (record a { line = cleared; out = on; kept = kept; sent = sent }) c.session.machine c.out fault)
            (answered_line n cap a.acts a.session (a.line ++ part) asked is) off.breaks);
        lacked = off.lacked ∙ ap (λ (k : ℕ). lacked_after (is_session_no_thread fault) k) told'.lacked;
      });
}

-- ---- a piece

whole_rest : (k : ℕ) (xs : List ℕ) → take (length xs - k) (drop k xs) ≡ drop k xs
whole_rest k xs = grind (arith, common_steps)

take_one : (xs : List ℕ) (k : ℕ) → k < length xs → take (k + 1) xs ≡ take k xs ++ get_or xs k 0 ∷ []
take_one xs k h = grind (arith, common_steps)

-- the part of a piece that was done and the rest make the piece
rest_of : (piece rest : List ℕ) (done : ℕ) → rest ≡ take (length piece - done) (drop done piece)
    → take done piece ++ rest ≡ piece
rest_of piece rest done is =
    ap (λ (xs : List ℕ). take done piece ++ xs) (is ∙ whole_rest done piece) ∙ take-append-drop done piece

-- and the line that begins there
line_at : (piece rest : List ℕ) (done len : ℕ) → rest ≡ take (length piece - done) (drop done piece)
    → len < length rest → get_or rest len 0 ≡ 10
    → take done piece ++ (take len rest ++ 10 ∷ []) ≡ take (done + (len + 1)) piece
line_at piece rest done len is inside ends =
    let whole : rest ≡ drop done piece = is ∙ whole_rest done piece in
    let one : take len rest ++ 10 ∷ [] ≡ take (len + 1) rest =
    ap (λ (b : ℕ). take len rest ++ b ∷ []) (sym ends) ∙ sym (take_one rest len inside) in
    ap (λ (xs : List ℕ). take done piece ++ xs) (one ∙ ap (take (len + 1)) whole)
    ∙ sym (take-add done (len + 1) piece)

-- all of it is taken
pub piece_taken : {n cap : ℕ} {a b : Talk} (piece : List ℕ) (done : ℕ) → length piece ≤ done
    → HasTaken n cap a (take done piece) b → HasTaken n cap a piece b
piece_taken {n} {cap} {a} {b} piece done all here =
    subst (λ (xs : List ℕ). HasTaken n cap a xs b) (take_whole piece done all) here

-- with the rest
pub rest_taken : {n cap : ℕ} {a b c : Talk} (piece rest : List ℕ) (done : ℕ)
    → rest ≡ take (length piece - done) (drop done piece)
    → HasTaken n cap a (take done piece) b → HasTaken n cap b rest c → HasTaken n cap a piece c
rest_taken {n} {cap} {a} {b} {c} piece rest done is here there =
    subst (λ (xs : List ℕ). HasTaken n cap a xs c) (rest_of piece rest done is) (taken_on here there)

-- with a line more
pub line_more : {n cap : ℕ} {a b c : Talk} (piece rest : List ℕ) (done len : ℕ)
    → rest ≡ take (length piece - done) (drop done piece) → len < length rest → get_or rest len 0 ≡ 10
    → HasTaken n cap a (take done piece) b → HasTaken n cap b (take len rest ++ 10 ∷ []) c
    → HasTaken n cap a (take (done + (len + 1)) piece) c
line_more {n} {cap} {a} {b} {c} piece rest done len is inside ends here there =
    subst (λ (xs : List ℕ). HasTaken n cap a xs c) (line_at piece rest done len is inside ends) (taken_on here there)

-- it stops in the rest
pub rest_stopped : {n cap : ℕ} {a b c : Talk} {fault : SessionFault} (piece rest : List ℕ) (done : ℕ)
    → rest ≡ take (length piece - done) (drop done piece)
    → HasTaken n cap a (take done piece) b → HasStopped n cap b rest c fault → HasStopped n cap a piece c fault
rest_stopped {n} {cap} {a} {b} {c} {fault} piece rest done is here there =
    subst (λ (xs : List ℕ). HasStopped n cap a xs c fault) (rest_of piece rest done is) (stopped_on here there)

-- it stops in a line
pub stopped_in_line : {n cap : ℕ} {a b c : Talk} {fault : SessionFault} (piece rest : List ℕ) (done len : ℕ)
    → rest ≡ take (length piece - done) (drop done piece) → len < length rest → get_or rest len 0 ≡ 10
    → HasTaken n cap a (take done piece) b → HasStopped n cap b (take len rest ++ 10 ∷ []) c fault
    → HasStopped n cap a piece c fault
stopped_in_line {n} {cap} {a} {b} {c} {fault} piece rest done len is inside ends here there =
    let count : ℕ = done + (len + 1) in
    subst (λ (xs : List ℕ). HasStopped n cap a xs c fault) (take-append-drop count piece)
    (stopped_in_front (drop count piece) (subst (λ (xs : List ℕ). HasStopped n cap a xs c fault)
    (line_at piece rest done len is inside ends) (stopped_on here there)))

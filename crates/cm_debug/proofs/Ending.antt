-- How a session ends, by what was read and taken before.
use Rattle.std.proofs.Common.{◌≡◌, ℕ, ◌+◌, ◌-◌, ◌<◌, ◌≤◌, min, inl, inr, Bool, true, false, ◌==◌, List, [], ◌∷◌, ◌++◌, length}
use Rattle.std.proofs.Common.{take, drop, Option, Some, None, Result, Ok, Err, IfSome, refl, ap, ◌∙◌, sym, subst}
use Rattle.std.proofs.Common.{arith, append_assoc, append-nil, length-append, length-drop, take-append-drop, take-take}
use Rattle.std.proofs.lemmas.Grind.{common_steps}
use Rattle.std.proofs.lemmas.Bool.{false≢true}
use Rattle.std.proofs.KnownBytes.{Appends-nil, Consumes-kept, Consumes-nil, Consumes-trans}
use Rattle.std.specs.Prelude.{◌↔◌, IsErrOf}
use Rattle.std.specs.Io.KnownBytes.{Appends, Consumes, Keeps, IsAtEnd}
use Rattle.cm_bits.specs.Text.{lines_of}
use Rattle.cm_model.specs.declared.act.Act.{Act}
use Rattle.cm_model.specs.Machine.{Machine}
use Rattle.cm_session.specs.declared.fault.SessionFault.{SessionFault}
use Rattle.cm_session.specs.declared.fault.SessionFault.TheVariants.{Read, Write, TooMuch, Memory, NoThread}
use Rattle.cm_session.specs.Reading.{ConsumesAtMost, PIECE_LIMIT}
use Rattle.cm_session.specs.Session.{Session, opening, after_lines}
use Rattle.cm_session.specs.Ends.{COMMANDS_LIMIT, ended_lines, open_line, processed_lines, IsAnswered, Ends, EndsForSome}
use Rattle.cm_session.proofs.Lines.{heard_first, heard_whole}
use Rattle.cm_debug.specs.Talk.{Talk, Setting, setting, after_all, AreProcessed, IsBroken, AbortsAmong}
use Rattle.cm_debug.specs.Hearing.{MayBeLeft, HasEnded, HasTakenAll}
use Rattle.cm_debug.specs.Taking.{HasTaken, HasStopped}
use Rattle.cm_debug.proofs.Breaking.{among_more, broken_first}
use Rattle.cm_debug.proofs.Lines.{lines_of-closed, lines_at_last}
use Rattle.cm_debug.proofs.Sending.{with_none}

-- ---- what was told is an end

-- all lines that have ended are answered, where nothing is gathered
all_told : {n cap : ℕ} {first : Setting} {taken : List ℕ} {a : Talk} → a.kept ≡ [] → AreProcessed n cap first taken a
    → IsAnswered n cap first.acts first.machine first.out (ended_lines taken) a.session.machine a.out
all_told {n} {cap} {first} {taken} {a} none told' = record {
  written = subst (λ (on : Option (List ℕ)). Appends first.out on (after_all n cap first (ended_lines taken)).answer)
      (with_none a.out a.kept none) told'.written;
  machine_is = ap (λ (s : Session). s.machine) told'.session;
}

-- what breaks off among the lines that are heard is an end
off_ends : (n cap : ℕ) (first : Setting) (text : List ℕ) (rest : Option (List ℕ)) (machine : Machine)
    (out_after : Option (List ℕ)) (fault : SessionFault)
    → AbortsAmong n cap first (processed_lines text) machine out_after fault
    → Ends n cap first.acts text rest first.machine first.out machine out_after (Err fault)
off_ends n cap first text rest machine out_after (Write count) off = off
off_ends n cap first text rest machine out_after Memory off = off
off_ends n cap first text rest machine out_after NoThread off = off
off_ends n cap first text rest machine out_after Read off = absurd off
off_ends n cap first text rest machine out_after TooMuch off = absurd off

not_read : (n cap : ℕ) (first : Setting) (lines : List (List ℕ)) (now : Talk) (fault : SessionFault)
    → IsBroken n cap first lines now fault → IsErrOf {T = Unit {0}} (Err fault) Read → ⊥
not_read n cap first lines now Read off is = off.breaks
not_read n cap first lines now (Write count) off is = absurd (cc)
not_read n cap first lines now TooMuch off is = absurd (cc)
not_read n cap first lines now Memory off is = absurd (cc)
not_read n cap first lines now NoThread off is = absurd (cc)

-- no read failed, and what broke off is none
pub read_on : {n cap : ℕ} {first : Setting} {lines : List (List ℕ)} {now : Talk} (fault : SessionFault)
    (failed : Bool) → failed ≡ false → IsBroken n cap first lines now fault
    → ((failed ≡ true) ↔ IsErrOf {T = Unit {0}} (Err fault) Read)
read_on {n} {cap} {first} {lines} {now} fault failed fine off =
    (λ wrong. absurd (false≢true (sym fine ∙ wrong)), λ is. absurd (not_read n cap first lines now fault off is))

-- ---- before the first byte

-- without memory
pub ended_first : (n cap : ℕ) (first : Setting) (source : Option (List ℕ))
    → HasEnded n cap first source source first (Err Memory)
ended_first n cap first source = record {
  text = [];
  read = Consumes-nil source;
  few = omega arith;
  ends = λ more _. broken_first n cap first (processed_lines more);
  end = tt;
  lacked = refl;
}

-- nothing is taken
pub told_first : (n cap : ℕ) (first : Setting) (now : Talk) → now.acts ≡ first.acts
    → now.session ≡ opening first.machine (length first.acts) → now.line ≡ [] → now.out ≡ first.out → now.kept ≡ []
    → now.sent ≡ 0 → now.lacked ≡ first.lacked → AreProcessed n cap first [] now
unfolding after_lines ended_lines open_line
told_first n cap first now acts session line out kept sent lacked = record {
  acts = acts;
  session = session;
  line = line;
  written = subst (λ (on : Option (List ℕ)). Appends first.out on []) (sym (with_none now.out now.kept kept ∙ out))
      (Appends-nil first.out);
  count = omega (arith, sent, ap length kept);
  lacked = lacked;
}

-- ---- in the midst of the text

-- a read failed
pub ended_read : {n cap : ℕ} {first : Setting} {taken : List ℕ} {a : Talk} (source left rest : Option (List ℕ))
    → Consumes source left taken → Keeps left rest → length taken ≤ COMMANDS_LIMIT → a.kept ≡ [] → AreProcessed n cap first taken a
    → HasEnded n cap first source rest (setting first.acts a.session.machine a.out a.lacked) (Err Read)
ended_read {n} {cap} {first} {taken} {a} source left rest read kept few none told' = record {
  text = taken;
  read = Consumes-kept source left rest taken read kept;
  few = omega (arith, few);
  ends = λ more _. record { taken = taken; consumed = refl; within = few; answered = all_told none told' };
  end = tt;
  lacked = told'.lacked;
}

-- a part of what a read gave, and the rest
front_and_rest : (buf : List ℕ) (room count : ℕ) → room ≤ count
    → take count buf ≡ take room buf ++ drop room (take count buf)
front_and_rest buf room count within =
    sym (take-append-drop room (take count buf))
    ∙ ap (λ (xs : List ℕ). xs ++ drop room (take count buf)) (take-take room count buf within)

-- the text, parted where that part ends
parted : (taken buf more : List ℕ) (room count : ℕ) → room ≤ count
    → (taken ++ take count buf) ++ more ≡ (taken ++ take room buf) ++ (drop room (take count buf) ++ more)
parted taken buf more room count within =
    append_assoc taken (take count buf) more
    ∙ ap (λ (xs : List ℕ). taken ++ (xs ++ more)) (front_and_rest buf room count within)
    ∙ ap (λ (xs : List ℕ). taken ++ xs) (append_assoc (take room buf) (drop room (take count buf)) more)
    ∙ sym (append_assoc taken (take room buf) (drop room (take count buf) ++ more))

-- that part breaks off
pub ended_in_read : {n cap : ℕ} {first : Setting} {c : Talk} {fault : SessionFault}
    (source left rest : Option (List ℕ)) (taken buf : List ℕ) (count room used : ℕ) → count ≤ PIECE_LIMIT
    → room ≡ min count (COMMANDS_LIMIT - used) → used ≡ length taken → used ≤ COMMANDS_LIMIT
    → Consumes source left taken → Consumes left rest (take count buf)
    → IsBroken n cap first (ended_lines (taken ++ take room buf)) c fault
    → HasEnded n cap first source rest (setting first.acts c.session.machine c.out c.lacked) (Err fault)
ended_in_read {n} {cap} {first} {c} {fault} source left rest taken buf count room used little is so few read more_read off =
    record {
      text = taken ++ take count buf;
      read = Consumes-trans source left rest taken (take count buf) read more_read;
      few = omega (arith, so, few, little, length-append taken (take count buf), short count buf);
      ends = λ more _.
          let begins = heard_first (taken ++ take room buf) (drop room (take count buf) ++ more)
          (omega (arith, is, so, few, length-append taken (take room buf), short room buf)) in
          off_ends n cap first ((taken ++ take count buf) ++ more) (Some more) c.session.machine c.out fault
          (subst (λ (ls : List (List ℕ)). AbortsAmong n cap first ls c.session.machine c.out fault)
          (sym (ap processed_lines (parted taken buf more room count (omega (arith, is))) ∙ begins.is))
          (among_more n cap first (ended_lines (taken ++ take room buf)) begins.more c.session.machine c.out fault
          off.breaks));
      end = tt;
      lacked = off.lacked;
    } where
      short : (k : ℕ) (xs : List ℕ) → length (take k xs) ≤ k
      short k xs = grind (arith, common_steps)

take_all : (xs ys : List ℕ) (k : ℕ) → k ≡ length xs → take k (xs ++ ys) ≡ xs
take_all xs ys k is = grind (arith, common_steps)

-- it gave more than there was room for
pub ended_over : {n cap : ℕ} {first : Setting} {a : Talk} (source left rest : Option (List ℕ))
    (taken buf : List ℕ) (count room used : ℕ) → count ≤ PIECE_LIMIT → count ≤ length buf
    → room ≡ min count (COMMANDS_LIMIT - used) → room < count
    → used ≡ length taken → used ≤ COMMANDS_LIMIT → Consumes source left taken → Consumes left rest (take count buf)
    → a.kept ≡ [] → AreProcessed n cap first (taken ++ take room buf) a
    → HasEnded n cap first source rest (setting first.acts a.session.machine a.out a.lacked) (Err TooMuch)
ended_over {n} {cap} {first} {a} source left rest taken buf count room used little inside is less so few read more_read none
    told' =
    let fed : length (take room buf) ≡ room = long room buf (omega (arith, less, inside)) in
    let front : List ℕ = taken ++ take room buf in
    let size : COMMANDS_LIMIT ≡ length front = omega (arith, is, less, so, few, fed, length-append taken (take room buf)) in
    record {
      text = taken ++ take count buf;
      read = Consumes-trans source left rest taken (take count buf) read more_read;
      few = omega (arith, so, few, little, length-append taken (take count buf), long count buf inside);
      ends = λ more _.
          let behind : List ℕ = drop room (take count buf) ++ more in
          let whole : (taken ++ take count buf) ++ more ≡ front ++ behind =
          parted taken buf more room count (omega (arith, less)) in (
            omega (
              arith,
              ap length whole,
              length-append front behind,
              size,
              length-append (drop room (take count buf)) more,
              length-drop room (take count buf),
              long count buf inside,
              less,
            ),
            subst (λ (t : List ℕ).
                IsAnswered n cap first.acts first.machine first.out (ended_lines t) a.session.machine a.out)
                (sym (ap (take COMMANDS_LIMIT) whole ∙ take_all front behind COMMANDS_LIMIT size)) (all_told none told'),
          );
      end = tt;
      lacked = told'.lacked;
    } where
      long : (k : ℕ) (xs : List ℕ) → k ≤ length xs → length (take k xs) ≡ k
      long k xs h = grind (arith, common_steps)

-- ---- at the end of the text

-- a read gave nothing
pub taken_all : {n cap : ℕ} {first : Setting} {taken : List ℕ} {a : Talk} (source left rest : Option (List ℕ))
    (buf : List ℕ) (count : ℕ) → count ≡ 0 → Consumes source left taken → Consumes left rest (take count buf)
    → IsAtEnd rest → length taken ≤ COMMANDS_LIMIT → AreProcessed n cap first taken a → HasTakenAll n cap first source rest a
taken_all {n} {cap} {first} {taken} {a} source left rest buf count none read more_read end few told' = record {
  text = taken;
  read = subst (Consumes source rest) (append-nil taken)
      (Consumes-trans source left rest taken [] read
      (subst (λ (k : ℕ). Consumes left rest (take k buf)) none more_read));
  end = end;
  within = few;
  told = told';
}

-- nothing follows
no_more : (rest : Option (List ℕ)) (text more : List ℕ) → IsAtEnd rest → MayBeLeft rest more → text ≡ text ++ more
no_more rest text more end (inl none) = sym (ap (λ (xs : List ℕ). text ++ xs) none ∙ append-nil text)
no_more rest text more end (inr known) =
    sym (ap (λ (xs : List ℕ). text ++ xs) (subst IsAtEnd known end) ∙ append-nil text)

answered_all : {n cap : ℕ} {first : Setting} {source rest : Option (List ℕ)} {a : Talk} (last : Setting)
    (all : HasTakenAll n cap first source rest a)
    → IsAnswered n cap first.acts first.machine first.out (lines_of all.text) last.machine last.out
    → last.lacked ≡ first.lacked → HasEnded n cap first source rest last (Ok tt)
answered_all {n} {cap} {first} {source} {rest} {a} last all is lacked = record {
  text = all.text;
  read = all.read;
  few = omega (arith, all.within);
  ends = λ more may. subst (λ (t : List ℕ). Ends n cap first.acts t (Some more) first.machine first.out last.machine
      last.out (Ok tt)) (no_more rest all.text more all.end may) (all.within, is);
  end = all.end;
  lacked = lacked;
}

-- no line is open
pub ended_closed : {n cap : ℕ} {first : Setting} {source rest : Option (List ℕ)} {a : Talk}
    → HasTakenAll n cap first source rest a → a.kept ≡ [] → a.line ≡ []
    → HasEnded n cap first source rest (setting first.acts a.session.machine a.out a.lacked) (Ok tt)
ended_closed {n} {cap} {first} {source} {rest} {a} all none empty =
    answered_all (setting first.acts a.session.machine a.out a.lacked) all
    (subst (λ (ls : List (List ℕ)). IsAnswered n cap first.acts first.machine first.out ls a.session.machine a.out)
    (sym (lines_of-closed all.text (sym all.told.line ∙ empty))) (all_told none all.told)) all.told.lacked

-- the line that is open is answered
pub ended_answered : {n cap : ℕ} {first : Setting} {source rest : Option (List ℕ)} {a c : Talk}
    → HasTakenAll n cap first source rest a → 0 < length a.line → HasTaken n cap a (10 ∷ []) c → c.kept ≡ []
    → HasEnded n cap first source rest (setting first.acts c.session.machine c.out c.lacked) (Ok tt)
ended_answered {n} {cap} {first} {source} {rest} {a} {c} all some taken none =
    let told' = taken.told first all.text all.told in
    answered_all (setting first.acts c.session.machine c.out c.lacked) all
    (subst (λ (ls : List (List ℕ)). IsAnswered n cap first.acts first.machine first.out ls c.session.machine c.out)
    (sym (lines_at_last all.text a.line some all.told.line)) (all_told none told')) told'.lacked

-- or breaks off
pub ended_broken : {n cap : ℕ} {first : Setting} {source rest : Option (List ℕ)} {a c : Talk} {fault : SessionFault}
    → HasTakenAll n cap first source rest a → 0 < length a.line → HasStopped n cap a (10 ∷ []) c fault
    → HasEnded n cap first source rest (setting first.acts c.session.machine c.out c.lacked) (Err fault)
ended_broken {n} {cap} {first} {source} {rest} {a} {c} {fault} all some stopped =
    let off = stopped.broken first all.text all.told in
    record {
      text = all.text;
      read = all.read;
      few = omega (arith, all.within);
      ends = λ more may. subst (λ (t : List ℕ). Ends n cap first.acts t (Some more) first.machine first.out
          c.session.machine c.out (Err fault)) (no_more rest all.text more all.end may)
          (off_ends n cap first all.text (Some more) c.session.machine c.out fault
          (subst (λ (ls : List (List ℕ)). AbortsAmong n cap first ls c.session.machine c.out fault)
          (sym (heard_whole all.text all.within ∙ lines_at_last all.text a.line some all.told.line)) off.breaks));
      end = tt;
      lacked = off.lacked;
    }

-- ---- of a source that tells its bytes, and of any

pub ends_known : {n cap : ℕ} {first last : Setting} {result : Result (Unit {0}) SessionFault}
    (source rest : Option (List ℕ)) → HasEnded n cap first source rest last result
    → IfSome source (λ text. Ends n cap first.acts text rest first.machine first.out last.machine last.out result)
ends_known {n} {cap} {first} {last} {result} None rest ended = tt
ends_known {n} {cap} {first} {last} {result} (Some all) None ended = absurd ended.read
ends_known {n} {cap} {first} {last} {result} (Some all) (Some more) ended =
    subst (λ (t : List ℕ). Ends n cap first.acts t (Some more) first.machine first.out last.machine last.out result)
    (sym ended.read) (ended.ends more (inr refl))

pub ends_some : {n cap : ℕ} {first last : Setting} {source rest : Option (List ℕ)}
    {result : Result (Unit {0}) SessionFault} → HasEnded n cap first source rest last result
    → EndsForSome n cap first.acts source rest first.machine first.out last.machine last.out result
ends_some {n} {cap} {first} {last} {source} {rest} {result} ended = record {
  text = ended.text;
  read = ended.read;
  ends = subst (λ (t : List ℕ). Ends n cap first.acts t (Some []) first.machine first.out last.machine last.out result)
      (append-nil ended.text) (ended.ends [] (inl refl));
  end = ended.end;
}

pub ends_within : {n cap : ℕ} {first last : Setting} {source rest : Option (List ℕ)}
    {result : Result (Unit {0}) SessionFault} → HasEnded n cap first source rest last result
    → ConsumesAtMost (COMMANDS_LIMIT + PIECE_LIMIT) source rest
ends_within ended = record { bytes = ended.text; few = ended.few; consumed = ended.read }

-- a session of the same acts
pub of_acts : {n cap : ℕ} {first : Setting} {source rest : Option (List ℕ)} {machine : Machine} {out : Option (List ℕ)}
    {lacked : ℕ} {result : Result (Unit {0}) SessionFault} (acts : List Act) → first.acts ≡ acts
    → HasEnded n cap first source rest (setting first.acts machine out lacked) result
    → HasEnded n cap (record first { acts = acts }) source rest (setting acts machine out lacked) result
of_acts {n} {cap} {first} {source} {rest} {machine} {out} {lacked} {result} acts is ended =
    subst (λ (xs : List Act). HasEnded n cap (record first { acts = xs }) source rest
    (setting xs machine out lacked) result) is ended

-- ---- whether a line is open

pub is_none : (line : List ℕ) (count : ℕ) (is_empty : Bool) → count ≡ length line → is_empty ≡ (count == 0)
    → is_empty ≡ true → line ≡ []
is_none [] count is_empty long is so = λ i. []
is_none (byte ∷ line) count is_empty long is so =
    let other : (count == 0) ≡ false = above count (omega (arith, long)) in
    absurd (false≢true (sym (is ∙ other) ∙ so)) where
      above : (k : ℕ) → 0 < k → (k == 0) ≡ false
      above k h = grind (arith, common_steps)

pub has_some : (line seen : List ℕ) (count : ℕ) (is_empty : Bool) → count ≡ length line
    → is_empty ≡ (count == 0) → is_empty ≡ false
    → seen ≡ line → 0 < length seen
has_some [] seen count is_empty long is so same = absurd (false≢true (sym so ∙ is ∙ ap (λ (k : ℕ). k == 0) long))
has_some (byte ∷ line) seen count is_empty long is so same = omega (arith, ap length same)

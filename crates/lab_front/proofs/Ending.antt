-- How a front end ends, by what was heard and told before.
use Rattle.std.proofs.Common.{◌≡◌, ℕ, ◌+◌, ◌-◌, ◌<◌, ◌≤◌, List, [], ◌∷◌, ◌++◌, length, take, drop, get_or, Option, Result}
use Rattle.std.proofs.Common.{Ok, Err, refl, ap, ◌∙◌, sym, subst, arith, append_assoc, append-nil, length-append}
use Rattle.std.proofs.Common.{take-append-drop, drop-drop, length-drop, Bool, true, false, ◌⊎◌, inl, inr}
use Rattle.std.proofs.lemmas.Grind.{common_steps}
use Rattle.std.proofs.lemmas.List.Elements.{All-push}
use Rattle.std.proofs.KnownBytes.{Appends-nil, Consumes-kept, Consumes-trans}
use Rattle.std.specs.Io.KnownBytes.{Appends, Consumes}
use Rattle.cm_bits.specs.Text.{lines_of, IsUnended}
use Rattle.cm_model.specs.Machine.{Machine}
use Rattle.cm_session.specs.declared.fault.SessionFault.{SessionFault}
use Rattle.cm_session.specs.declared.fault.SessionFault.TheVariants.{Read, Write, TooMuch, Memory, NoThread}
use Rattle.cm_session.specs.Ends.{ended_lines, open_line}
use Rattle.cm_debug.specs.BufferedOutput.{IsShortWriteAfter}
use Rattle.lab_front.specs.Front.{Front}
use Rattle.lab_front.specs.Ends.{LINE_LIMIT, ALL, AreShort, AreLeadingLines, Ends, IsAnswered}
use Rattle.lab_front.specs.Hearing.{LineAborts, HasHeard, HearingStops}
use Rattle.lab_front.proofs.Lines.{AreLinesOf, line_more, few_more, ended_size-more, last_line, all_ended, left_open, no_open}
use Rattle.lab_front.proofs.Told.{IsTold, answered_all, stopped, broken_off, line_stops}

-- ---- a line of what was heard

whole_rest : (k : ℕ) (xs : List ℕ) → take (length xs - k) (drop k xs) ≡ drop k xs
whole_rest k xs = grind (arith, common_steps)

take_one : (xs : List ℕ) (k : ℕ) → k < length xs → take (k + 1) xs ≡ take k xs ++ get_or xs k 0 ∷ []
take_one xs k h = grind (arith, common_steps)

take_whole : (xs : List ℕ) (k : ℕ) → k ≡ length xs → take k xs ≡ xs
take_whole xs k h = grind (arith, common_steps)

-- what was heard from a place on is a line and the rest
pub a_line_on : (heard given rest line : List ℕ) (place len : ℕ) → rest ≡ take (length heard - place) (drop place heard)
    → line ≡ take len rest → len < length rest → get_or rest len 0 ≡ 10
    → given ++ drop place heard ≡ (given ++ (line ++ 10 ∷ [])) ++ drop (place + (len + 1)) heard
a_line_on heard given rest line place len is part inside ends =
    let one : line ++ 10 ∷ [] ≡ take (len + 1) (drop place heard) =
    ap (λ (xs : List ℕ). xs ++ 10 ∷ []) part ∙ ap (λ (b : ℕ). take len rest ++ b ∷ []) (sym ends)
    ∙ sym (take_one rest len inside) ∙ ap (take (len + 1)) (is ∙ whole_rest place heard) in
    let parts : drop place heard ≡ (line ++ 10 ∷ []) ++ drop (place + (len + 1)) heard =
    sym (take-append-drop (len + 1) (drop place heard))
    ∙ (λ i. sym one i ++ drop-drop (len + 1) place heard i) in
    ap (λ (xs : List ℕ). given ++ xs) parts ∙ sym (append_assoc given (line ++ 10 ∷ []) (drop (place + (len + 1)) heard))

-- while no byte of the open line was looked at (`seen` is 0 in the loop of `front`), no line end was seen in it
pub none_seen : (bytes : List ℕ) → IsUnended (take 0 bytes)
none_seen bytes k h = absurd (omega (arith, h, no_length bytes)) where
  no_length : (bytes : List ℕ) → length (take 0 bytes) ≡ 0
  no_length bytes = grind (arith, common_steps)

-- what was seen stands at the front
pub seen_more : (rest heard bytes : List ℕ) (len : ℕ) → heard ≡ rest ++ bytes → len ≡ length rest → IsUnended rest
    → IsUnended (take len (drop 0 heard))
seen_more rest heard bytes len is all free = subst IsUnended (sym (front rest heard bytes len is all)) free where
  front : (rest heard bytes : List ℕ) (len : ℕ) → heard ≡ rest ++ bytes → len ≡ length rest
      → take len (drop 0 heard) ≡ rest
  front rest heard bytes len is all = grind (arith, common_steps)

-- where no line has ended
pub unended_rest : (heard rest : List ℕ) (place len : ℕ) → rest ≡ take (length heard - place) (drop place heard)
    → length rest ≤ len → len ≤ length rest → IsUnended (take len rest) → IsUnended (drop place heard)
unended_rest heard rest place len is above within free =
    subst IsUnended (take_whole rest len (omega (arith, above, within)) ∙ is ∙ whole_rest place heard) free

-- ---- in the midst

-- a line breaks off
pub line_ends : (n cap : ℕ) (start : Machine) (out_before before after : Option (List ℕ)) (heard given rest line : List ℕ)
    (place len : ℕ) (done : List (List ℕ)) (front : Front) (out_after on : Option (List ℕ)) (sent : ℕ) (kept : List ℕ)
    (machine : Machine) (fault : SessionFault) → rest ≡ take (length heard - place) (drop place heard)
    → line ≡ take len rest → len < length rest → get_or rest len 0 ≡ 10 → IsUnended line → AreLinesOf given done
    → length (drop place heard) ≤ LINE_LIMIT + 1 → Consumes before after (given ++ drop place heard)
    → IsTold n cap start out_before done front out_after sent kept
    → LineAborts n cap front line sent kept out_after machine on fault → Ends n cap before after start out_before machine on (Err fault)
line_ends n cap start out_before before after heard given rest line place len done front out_after on sent kept machine fault is
    part inside ends free lines within consumed told' breaks = record {
      taken = given ++ drop place heard;
      consumed = consumed;
      over = line_stops n cap start out_before (given ++ drop place heard) done (lines_of (drop (place + (len + 1)) heard)) front
          out_after on sent kept line machine fault
          (ap lines_of (a_line_on heard given rest line place len is part inside ends)
          ∙ (line_more given line done free lines).all (drop (place + (len + 1)) heard))
          (few_more given (drop place heard) done lines within) told' breaks;
    }

-- the lines that have ended are the first
first_of : (given rest : List ℕ) (done : List (List ℕ)) → AreLinesOf given done → length rest ≤ LINE_LIMIT + 1
    → AreLeadingLines (given ++ rest) done
first_of given rest done lines within =
    record { undone = lines_of rest; lines_are = lines.all rest; few = few_more given rest done lines within }

-- a write is cut off between two lines
pub send_ends : (n cap : ℕ) (start : Machine) (out_before before after : Option (List ℕ)) (given rest : List ℕ)
    (done : List (List ℕ)) (front : Front) (out_after on : Option (List ℕ)) (sent : ℕ) (kept : List ℕ) (count : ℕ)
    → AreLinesOf given done → length rest ≤ LINE_LIMIT + 1 → Consumes before after (given ++ rest)
    → IsTold n cap start out_before done front out_after sent kept
    → IsShortWriteAfter sent kept out_after on count → Ends n cap before after start out_before front.machine on (Err (Write count))
send_ends n cap start out_before before after given rest done front out_after on sent kept count lines within consumed told' cut =
    record {
      taken = given ++ rest;
      consumed = consumed;
      over = stopped n cap start out_before (given ++ rest) done front out_after on sent kept count
          (first_of given rest done lines within) told' cut;
    }

nothing_appended : (out_after : Option (List ℕ)) (kept : List ℕ) → kept ≡ [] → Appends out_after out_after kept
nothing_appended out_after kept none = subst (Appends out_after out_after) (sym none) (Appends-nil out_after)

-- the lines that ended before are short
short_ended : (given rest : List ℕ) (done : List (List ℕ)) → IsUnended rest → AreLinesOf given done → AreShort done
    → AreShort (ended_lines (given ++ rest))
short_ended given rest done free lines short = subst AreShort (sym (all_ended given rest done free lines)) short

-- they are answered
ended_answered : (n cap : ℕ) (start : Machine) (out_before : Option (List ℕ)) (given rest : List ℕ) (done : List (List ℕ))
    (front : Front) (out_after : Option (List ℕ)) (sent : ℕ) (kept : List ℕ) → kept ≡ [] → IsUnended rest
    → AreLinesOf given done → IsTold n cap start out_before done front out_after sent kept
    → IsAnswered n cap start out_before (ended_lines (given ++ rest)) front.machine out_after
ended_answered n cap start out_before given rest done front out_after sent kept none free lines told' =
    subst (λ (ls : List (List ℕ)). IsAnswered n cap start out_before ls front.machine out_after)
    (sym (all_ended given rest done free lines)) (answered_all n cap start out_before done front out_after sent kept none told')

-- no more is heard
pub hearing_ends : (n cap : ℕ) (start : Machine) (out_before before mid after : Option (List ℕ)) (given rest : List ℕ)
    (done : List (List ℕ)) (front : Front) (out_after : Option (List ℕ)) (sent : ℕ) (kept : List ℕ)
    (fault : SessionFault) → kept ≡ [] → IsUnended rest → AreLinesOf given done → Consumes before mid (given ++ rest)
    → AreShort done → length rest ≤ LINE_LIMIT → IsTold n cap start out_before done front out_after sent kept
    → HearingStops mid after rest fault → Ends n cap before after start out_before front.machine out_after (Err fault)
hearing_ends n cap start out_before before mid after given rest done front out_after sent kept Read none free lines consumed
    short within told' stops = record {
      taken = given ++ rest;
      consumed = Consumes-kept before mid after (given ++ rest) consumed stops;
      over = (
        short_ended given rest done free lines short,
        omega (arith, within, ap length (left_open given rest done free lines)),
        ended_answered n cap start out_before given rest done front out_after sent kept none free lines told',
      );
    }
hearing_ends n cap start out_before before mid after given rest done front out_after sent kept Memory none free lines consumed
    short within told' stops = record {
      taken = (given ++ rest) ++ stops.bytes;
      consumed = Consumes-trans before mid after (given ++ rest) stops.bytes consumed stops.consumed;
      over = broken_off n cap start out_before ((given ++ rest) ++ stops.bytes) done front out_after out_after sent kept
          (subst (λ (xs : List ℕ). AreLeadingLines xs done) (sym (append_assoc given rest stops.bytes))
          (first_of given (rest ++ stops.bytes) done lines (let few = stops.few in
          omega (arith, within, few, length-append rest stops.bytes)))) told'
          (nothing_appended out_after kept none);
    }
hearing_ends n cap start out_before before mid after given rest done front out_after sent kept TooMuch none free lines consumed
    short within told' stops = absurd stops
hearing_ends n cap start out_before before mid after given rest done front out_after sent kept (Write cut) none free lines
    consumed short within told' stops = absurd stops
hearing_ends n cap start out_before before mid after given rest done front out_after sent kept NoThread none free lines
    consumed short within told' stops = absurd stops

-- a line is too long, or all are too many
too_many : (given rest : List ℕ) (done : List (List ℕ)) → IsUnended rest → AreLinesOf given done
    → (LINE_LIMIT < length rest) ⊎ (ALL ≤ length (given ++ rest))
    → (LINE_LIMIT < length (open_line (given ++ rest))) ⊎ (ALL ≤ length (given ++ rest))
too_many given rest done free lines (inl long) =
    inl (omega (arith, long, ap length (left_open given rest done free lines)))
too_many given rest done free lines (inr many) = inr many

pub over_is : (len bytes taken all : ℕ) → len ≡ bytes → taken ≡ all → (LINE_LIMIT < len) ⊎ (ALL ≤ taken)
    → (LINE_LIMIT < bytes) ⊎ (ALL ≤ all)
over_is len bytes taken all same so (inl long) = inl (omega (arith, long, same))
over_is len bytes taken all same so (inr many) = inr (omega (arith, many, so))

pub over_ends : (n cap : ℕ) (start : Machine) (out_before before after : Option (List ℕ)) (given rest : List ℕ)
    (done : List (List ℕ)) (front : Front) (out_after : Option (List ℕ)) (sent : ℕ) (kept : List ℕ) → kept ≡ []
    → IsUnended rest → AreLinesOf given done → length rest ≤ LINE_LIMIT + 1 → Consumes before after (given ++ rest)
    → AreShort done → (LINE_LIMIT < length rest) ⊎ (ALL ≤ length (given ++ rest))
    → IsTold n cap start out_before done front out_after sent kept
    → Ends n cap before after start out_before front.machine out_after (Err TooMuch)
over_ends n cap start out_before before after given rest done front out_after sent kept none free lines within consumed short
    over told' =
    record {
      taken = given ++ rest;
      consumed = consumed;
      over = (
        short_ended given rest done free lines short,
        too_many given rest done free lines over,
        omega (arith, within, ap length (left_open given rest done free lines)),
        ended_answered n cap start out_before given rest done front out_after sent kept none free lines told',
      );
    }

-- ---- more is heard

pub heard_more : (before mid after : Option (List ℕ)) (given rest heard : List ℕ) (count : ℕ)
    → Consumes before mid (given ++ rest) → HasHeard mid after rest heard count
    → Consumes before after (given ++ heard)
heard_more before mid after given rest heard count consumed more =
    subst (Consumes before after)
    (append_assoc given rest more.bytes ∙ ap (λ (xs : List ℕ). given ++ xs) (sym more.heard_is))
    (Consumes-trans before mid after (given ++ rest) more.bytes consumed more.consumed)

pub heard_len : (before after : Option (List ℕ)) (rest heard : List ℕ) (count : ℕ)
    → HasHeard before after rest heard count → length heard ≡ length rest + count
heard_len before after rest heard count more =
    ap length more.heard_is ∙ length-append rest more.bytes ∙ ap (λ (k : ℕ). length rest + k) (sym more.count_is)

none_there : (rest bytes : List ℕ) → length bytes ≡ 0 → rest ++ bytes ≡ rest
none_there rest [] zero = append-nil rest
none_there rest (byte ∷ bytes) zero = absurd (omega (arith, zero))

-- where no more came
pub heard_none : (before after : Option (List ℕ)) (rest heard : List ℕ) (count : ℕ) → count ≡ 0
    → HasHeard before after rest heard count → heard ≡ rest
heard_none before after rest heard count zero more =
    more.heard_is ∙ none_there rest more.bytes (sym more.count_is ∙ zero)

-- ---- the end of the bytes

-- no line is open
pub closed_ends : (n cap : ℕ) (start : Machine) (out_before before after : Option (List ℕ)) (given heard : List ℕ)
    (done : List (List ℕ)) (front : Front) (out_after : Option (List ℕ)) (sent : ℕ) (kept : List ℕ) → kept ≡ []
    → heard ≡ [] → AreLinesOf given done → Consumes before after (given ++ heard) → AreShort done
    → IsTold n cap start out_before done front out_after sent kept
    → Ends n cap before after start out_before front.machine out_after (Ok tt)
closed_ends n cap start out_before before after given heard done front out_after sent kept none empty lines consumed short told' =
    record {
      taken = given ++ heard;
      consumed = consumed;
      over = (
        subst AreShort (sym (ap (λ (xs : List ℕ). lines_of (given ++ xs)) empty ∙ no_open given done lines)) short,
        subst (λ (ls : List (List ℕ)). IsAnswered n cap start out_before ls front.machine out_after)
            (sym (ap (λ (xs : List ℕ). lines_of (given ++ xs)) empty ∙ no_open given done lines))
            (answered_all n cap start out_before done front out_after sent kept none told'),
      );
    }

-- the line that is open is the last
last_parts : (given heard : List ℕ) (done : List (List ℕ)) → IsUnended heard → 0 < length heard → AreLinesOf given done
    → lines_of (given ++ heard) ≡ (done ++ heard ∷ []) ++ []
last_parts given heard done free some lines =
    last_line given heard done free some lines ∙ sym (append-nil (done ++ heard ∷ []))

-- it breaks off
pub last_ends : (n cap : ℕ) (start : Machine) (out_before before after : Option (List ℕ)) (given heard : List ℕ)
    (done : List (List ℕ)) (front : Front) (out_after on : Option (List ℕ)) (sent : ℕ) (kept : List ℕ) (machine : Machine)
    (fault : SessionFault) → IsUnended heard → 0 < length heard → AreLinesOf given done
    → length heard ≤ LINE_LIMIT + 1 → Consumes before after (given ++ heard) → IsTold n cap start out_before done front out_after sent kept
    → LineAborts n cap front heard sent kept out_after machine on fault → Ends n cap before after start out_before machine on (Err fault)
last_ends n cap start out_before before after given heard done front out_after on sent kept machine fault free some lines within
    consumed told' breaks = record {
      taken = given ++ heard;
      consumed = consumed;
      over = line_stops n cap start out_before (given ++ heard) done [] front out_after on sent kept heard machine fault
          (last_parts given heard done free some lines) (few_more given heard done lines within) told' breaks;
    }

-- a short line more
pub short_more : (line : List ℕ) (done : List (List ℕ)) → AreShort done → length line ≤ LINE_LIMIT
    → AreShort (done ++ line ∷ [])
short_more line done short within = All-push (λ (l : List ℕ). length l ≤ LINE_LIMIT) done line short within

-- it is answered, and the answer written
pub answered_ends : (n cap : ℕ) (start : Machine) (out_before before after : Option (List ℕ)) (given heard : List ℕ)
    (done : List (List ℕ)) (front : Front) (out_after : Option (List ℕ)) (sent : ℕ) (kept : List ℕ) → kept ≡ []
    → IsUnended heard → 0 < length heard → AreLinesOf given done → Consumes before after (given ++ heard)
    → AreShort done → length heard ≤ LINE_LIMIT → IsTold n cap start out_before (done ++ heard ∷ []) front out_after sent kept
    → Ends n cap before after start out_before front.machine out_after (Ok tt)
answered_ends n cap start out_before before after given heard done front out_after sent kept none free some lines consumed short
    within told' = record {
      taken = given ++ heard;
      consumed = consumed;
      over = (
        subst AreShort (sym (last_line given heard done free some lines)) (short_more heard done short within),
        subst (λ (ls : List (List ℕ)). IsAnswered n cap start out_before ls front.machine out_after)
            (sym (last_line given heard done free some lines))
            (answered_all n cap start out_before (done ++ heard ∷ []) front out_after sent kept none told'),
      );
    }

-- or not
pub cut_ends : (n cap : ℕ) (start : Machine) (out_before before after : Option (List ℕ)) (given heard : List ℕ)
    (done : List (List ℕ)) (front : Front) (out_after on : Option (List ℕ)) (sent : ℕ) (kept : List ℕ) (count : ℕ)
    → IsUnended heard → 0 < length heard → AreLinesOf given done → length heard ≤ LINE_LIMIT + 1
    → Consumes before after (given ++ heard)
    → IsTold n cap start out_before (done ++ heard ∷ []) front out_after sent kept → IsShortWriteAfter sent kept out_after on count
    → Ends n cap before after start out_before front.machine on (Err (Write count))
cut_ends n cap start out_before before after given heard done front out_after on sent kept count free some lines within consumed
    told' cut =
    record {
      taken = given ++ heard;
      consumed = consumed;
      over = stopped n cap start out_before (given ++ heard) (done ++ heard ∷ []) front out_after on sent kept count (record {
        undone = [];
        lines_are = last_parts given heard done free some lines;
        few = omega (arith, few_more given heard done lines within, ended_size-more done heard);
      }) told' cut;
    }

-- ---- how much was heard

pub rest_len : (heard rest : List ℕ) (place : ℕ) → rest ≡ take (length heard - place) (drop place heard)
    → length rest ≡ length heard - place
rest_len heard rest place is = ap length (is ∙ whole_rest place heard) ∙ length-drop place heard

pub line_len_is : (rest : List ℕ) (len : ℕ) → len ≤ length rest → length (take len rest) ≡ len
line_len_is rest len within = grind (arith, common_steps)

pub all_len : (heard given : List ℕ) (place taken : ℕ) → place ≤ length heard
    → taken + place ≡ length given + length heard → taken ≡ length (given ++ drop place heard)
all_len heard given place taken within count =
    omega (arith, within, count, length-append given (drop place heard), length-drop place heard)

-- a source that has not failed
pub not_failed : (b : Bool) → (b ≡ true → ⊥) → b ≡ false
not_failed true is = absurd (is refl)
not_failed false is = refl

abbrev IsSome : Result ℕ SessionFault → Type 0
IsSome (Ok count) = Unit {0}
IsSome (Err fault) = ⊥

abbrev pub counted : ℕ → Result ℕ SessionFault
counted count = Ok count

pub no_fault : (count : ℕ) (fault : SessionFault) → counted count ≡ Err fault → ⊥
no_fault count fault is = subst IsSome is tt

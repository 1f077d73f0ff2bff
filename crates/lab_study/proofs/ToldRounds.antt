-- Each line of a table of repeats tells a round that the machine goes.
use Rattle.std.proofs.Common.{◌≡◌, ℕ, suc, ◌+◌, ◌-◌, ◌^◌, ◌==◌, Bool, true, false, not, Option, Some, None, Result}
use Rattle.std.proofs.Common.{Ok, Err, List, [], ◌∷◌, ◌++◌, length, map, take, drop, sum_by, refl, sym, ap, subst, ◌∙◌}
use Rattle.std.proofs.Common.{arith, append-nil, append_assoc, if◌then◌else◌}
use Rattle.std.proofs.lemmas.Bool.{and_parts, eqb-true}
use Rattle.std.proofs.lemmas.List.{length-drop, length_push, get_or-drop, take_at}
use Rattle.std.proofs.lemmas.List.Elements.{All-nil, All-cons, All-append}
use Rattle.std.proofs.lemmas.List.Quantifiers.{position-Some}
use Rattle.std.specs.List.{All, concat, range_with_len}
use Rattle.cm_bits.specs.Text.{number_cell, last_number_cell}
use Rattle.cm_model.specs.declared.act.Act.{Act}
use Rattle.cm_model.specs.declared.act.Act.TheVariants.{Nano, Sense, Cycle}
use Rattle.cm_model.specs.Array.{nth_or_nil}
use Rattle.cm_model.specs.Each.{tabulate}
use Rattle.cm_model.specs.Machine.{Machine, run_of}
use Rattle.cm_model.proofs.Counting.{sum_by-map}
use Rattle.cm_model.proofs.Each.{is_each}
use Rattle.cm_model.proofs.Runs.{length-buffers-run_of, run_of-append, run_of-nil, run_of-one}
use Rattle.lab_study.specs.declared.holdings.Held.{Held}
use Rattle.lab_study.specs.declared.repeating.Calm.{Calm}
use Rattle.lab_study.specs.declared.studies.StudyFault.{StudyFault}
use Rattle.lab_study.specs.declared.studies.StudyFault.TheVariants.{Clock}
use Rattle.lab_study.specs.Holdings.{holdings, same_holdings, event_count}
use Rattle.lab_study.specs.Repeats.{no_calm, is_calm, times_before, place_of, come_count, round_line, repeat_text}
use Rattle.lab_study.specs.Repeats.{calm_to, calm_before, act_repeat, calm_after, repeats_from, repeats_header}
use Rattle.lab_study.specs.Repeats.{repeats_table}
use Rattle.lab_study.specs.RoundLaws.{cycles_on, times_at_chips, line_of_round, TellsRound, AllTellRounds}
use Rattle.lab_study.specs.Study.{act_lacks_room, study_preceded_by}
use Rattle.lab_study.proofs.Calms.{one_on, clock-one_on, IsCalmAt, still_on, Led, Seen, AllSeen, seen_before, seen_on}
use Rattle.lab_study.proofs.Rounds.{one_list}

-- ---- the line

line_is : (n cap : ℕ) (from now : Machine) (clock : ℕ) (times : List (List Held)) (place count : ℕ)
    → clock ≡ now.clock + 1 → Led n cap from now times place count
    → round_line clock (drop place times) ≡ line_of_round n cap (suc count) from
unfolding round_line tabulate
line_is n cap from now clock times place count later led =
    let round = drop place times in
    let each = λ (k : ℕ). holdings n (cycles_on n cap from k) in
    let period : length round ≡ suc count = omega (arith, length-drop place times, led.counted) in
    let are : round ≡ map each (range_with_len 0 (suc count)) =
    is_each [] (suc count) each round period
    (λ k l. get_or-drop place times k [] ∙ led.held k (omega (arith, l))) in
    let begun : clock - length round ≡ from.clock = omega (arith, period, later, led.clock) in
    let standing : length (nth_or_nil round 0) ≡ length (holdings n from) =
    ap length (get_or-drop place times 0 [] ∙ led.held 0 (omega arith)) in
    let come : sum_by come_count round ≡ times_at_chips n cap (suc count) from =
    ap (sum_by come_count) are ∙ sum_by-map come_count each (range_with_len 0 (suc count)) in
    λ i. number_cell (begun i) ++ number_cell (period i) ++ number_cell (standing i) ++ last_number_cell (come i)

-- where the routers hold, one petit cycle on, what they held at a place
tells : (n cap : ℕ) (machine : Machine) (acts : List Act) (now : Machine) (until : ℕ) (times : List (List Held))
    (place : ℕ) → length now.buffers ≡ 2 ^ n → IsCalmAt n cap now
    → one_on n cap now ≡ run_of n cap machine (take until acts)
    → same_holdings (nth_or_nil times place) (holdings n (one_on n cap now)) ≡ true
    → Seen n cap machine acts now times place
    → TellsRound n cap machine acts (round_line (one_on n cap now).clock (drop place times))
tells n cap machine acts now until times place long calm is same seen =
    let next = one_on n cap now in
    let from = run_of n cap machine (take seen.behind acts) in
    let led = seen.led in
    let next_on : cycles_on n cap from (suc seen.count) ≡ next = ap (λ (m : Machine). one_on n cap m) led.on in
    let here : place ≡ place + 0 = omega arith in
    let begun : nth_or_nil times place ≡ holdings n from =
    ap (λ (j : ℕ). nth_or_nil times j) here ∙ led.held 0 (omega arith) in
    let again = one_list (nth_or_nil times place) (holdings n next) same in
    let left = ap (holdings n) next_on ∙ sym again in
    let right = sym begun ∙ again in
    record {
      behind = seen.behind;
      until = until;
      period = suc seen.count;
      first = from;
      begins = refl;
      ends = next_on ∙ is;
      round = record {
        buffers = length-buffers-run_of n cap machine (take seen.behind acts);
        some = omega arith;
        still = still_on n cap from now seen.count led.on calm led.still;
        same = (λ i. same_holdings (left i) (right i)) ∙ same;
      };
      told = line_is n cap from now next.clock times place seen.count (clock-one_on n cap now long) led;
    }

-- ---- lines one behind another

record Lines (n cap : ℕ) (machine : Machine) (acts : List Act) (text : List ℕ) : Type 0 where
  lines : List (List ℕ)
  whole : text ≡ concat lines
  each : All (TellsRound n cap machine acts) lines

no_lines : (n cap : ℕ) (machine : Machine) (acts : List Act) → Lines n cap machine acts []
no_lines n cap machine acts = record { lines = []; whole = refl; each = All-nil (TellsRound n cap machine acts) }

one_line : (n cap : ℕ) (machine : Machine) (acts : List Act) (line : List ℕ) → TellsRound n cap machine acts line
    → Lines n cap machine acts line
one_line n cap machine acts line told = record {
  lines = line ∷ [];
  whole = sym (append-nil line);
  each = All-cons (TellsRound n cap machine acts) line [] told (All-nil (TellsRound n cap machine acts));
}

concat-append : (xs ys : List (List ℕ)) → concat (xs ++ ys) ≡ concat xs ++ concat ys
concat-append [] ys = refl
concat-append (x ∷ xs) ys = ap (λ zs. x ++ zs) (concat-append xs ys) ∙ sym (append_assoc x (concat xs) (concat ys))

more_lines : (n cap : ℕ) (machine : Machine) (acts : List Act) (text more : List ℕ) → Lines n cap machine acts text
    → Lines n cap machine acts more → Lines n cap machine acts (text ++ more)
more_lines n cap machine acts text more one two = record {
  lines = one.lines ++ two.lines;
  whole = (λ i. one.whole i ++ two.whole i) ∙ sym (concat-append one.lines two.lines);
  each = All-append (TellsRound n cap machine acts) one.lines two.lines one.each two.each;
}

-- ---- act by act

-- as long as no round was told
abbrev IsKept : ℕ → ℕ → Machine → List Act → Machine → Calm → Type 0
IsKept n cap machine acts now calm = calm.told ≡ false → AllSeen n cap machine acts now calm.times

-- what an act tells, and what is kept behind it
record IsFollowed (n cap : ℕ) (machine : Machine) (acts : List Act) (now : Machine) (text : List ℕ) (calm : Calm)
    : Type 0 where
  lines : Lines n cap machine acts text
  kept : IsKept n cap machine acts now calm

cycle_followed : (n cap : ℕ) (machine : Machine) (acts : List Act) (now : Machine) (behind : ℕ) (calm : Calm)
    → length now.buffers ≡ 2 ^ n → now ≡ run_of n cap machine (take behind acts)
    → one_on n cap now ≡ run_of n cap machine (take (behind + 1) acts) → IsKept n cap machine acts now calm
    → (told is : Bool) (place : Option ℕ) → calm.told ≡ told → is_calm n now (one_on n cap now) ≡ is
    → place_of (holdings n (one_on n cap now)) (times_before n calm.times now) ≡ place
    → IsFollowed n cap machine acts (one_on n cap now)
    (if told then [] else if is then repeat_text (one_on n cap now).clock (times_before n calm.times now) place else [])
    (if told then calm
    else if is then calm_to (calm_before n calm now) (holdings n (one_on n cap now)) place else no_calm)
cycle_followed n cap machine acts now behind calm long begins ends kept true is place was still found =
    record { lines = no_lines n cap machine acts; kept = λ (e : calm.told ≡ false). absurd cc }
cycle_followed n cap machine acts now behind calm long begins ends kept false false place was still found =
    record { lines = no_lines n cap machine acts; kept = λ e k l. absurd (omega (arith, l)) }
cycle_followed n cap machine acts now behind calm long begins ends kept false true None was still found =
    let next = one_on n cap now in
    let both = and_parts (event_count n next == event_count n now) (not (length (holdings n next) == 0)) still in
    record {
      lines = no_lines n cap machine acts;
      kept = λ e. seen_on n cap machine acts now (behind + 1) (times_before n calm.times now) long
          (eqb-true (event_count n next) (event_count n now) both.0) ends
          (seen_before n cap machine acts now behind calm.times begins (kept was) (length calm.times == 0));
    }
cycle_followed n cap machine acts now behind calm long begins ends kept false true (Some place) was still found =
    let next = one_on n cap now in
    let times = times_before n calm.times now in
    let both = and_parts (event_count n next == event_count n now) (not (length (holdings n next) == 0)) still in
    let there = position-Some (λ (time : List Held). same_holdings time (holdings n next)) times place [] found in
    record {
      lines = one_line n cap machine acts (round_line next.clock (drop place times))
          (tells n cap machine acts now (behind + 1) times place long
          (eqb-true (event_count n next) (event_count n now) both.0) ends there.1
          (seen_before n cap machine acts now behind calm.times begins (kept was) (length calm.times == 0) place
          there.0));
      kept = λ (e : true ≡ false). absurd cc;
    }

act_followed : (n cap : ℕ) (machine : Machine) (acts : List Act) (now : Machine) (behind : ℕ) (calm : Calm) (act : Act)
    → length now.buffers ≡ 2 ^ n → now ≡ run_of n cap machine (take behind acts)
    → run_of n cap now (act ∷ []) ≡ run_of n cap machine (take (behind + 1) acts) → IsKept n cap machine acts now calm
    → IsFollowed n cap machine acts (run_of n cap now (act ∷ []))
    (act_repeat n calm act now (run_of n cap now (act ∷ []))) (calm_after n calm act now (run_of n cap now (act ∷ [])))
act_followed n cap machine acts now behind calm Cycle long begins ends kept =
    let next = one_on n cap now in
    cycle_followed n cap machine acts now behind calm long begins ends kept calm.told (is_calm n now next)
    (place_of (holdings n next) (times_before n calm.times now)) refl refl refl
act_followed n cap machine acts now behind calm Sense long begins ends kept = record {
  lines = no_lines n cap machine acts;
  kept = λ e. subst (λ (m : Machine). AllSeen n cap machine acts m calm.times) (sym (run_of-one n cap now Sense long))
      (kept e);
}
act_followed n cap machine acts now behind calm (Nano nano) long begins ends kept =
    record { lines = no_lines n cap machine acts; kept = λ e k l. absurd (omega (arith, l)) }

-- ---- all acts

-- a text that is told behind another
record InParts (first : List ℕ) (rest : Result (List ℕ) StudyFault) (text : List ℕ) : Type 0 where
  behind : List ℕ
  is : rest ≡ Ok behind
  whole : first ++ behind ≡ text

same_ok : (xs ys : List ℕ) → ◌≡◌ {A = Result (List ℕ) StudyFault} (Ok xs) (Ok ys) → xs ≡ ys
same_ok xs ys is = cc

in_parts : (first : List ℕ) (rest : Result (List ℕ) StudyFault) (text : List ℕ)
    → study_preceded_by first rest ≡ Ok text → InParts first rest text
in_parts first (Ok behind) text is = record { behind = behind; is = refl; whole = same_ok (first ++ behind) text is }
in_parts first (Err fault) text is = absurd cc

-- the same, where the counter has to have room
in_parts_with_room : (lacks : Bool) (first : List ℕ) (rest : Result (List ℕ) StudyFault) (text : List ℕ)
    → (if lacks then Err Clock else study_preceded_by first rest) ≡ Ok text → InParts first rest text
in_parts_with_room true first rest text is = absurd cc
in_parts_with_room false first rest text is = in_parts first rest text is

rest_tells : (n cap : ℕ) (machine : Machine) (acts done rest : List Act) (now : Machine) (calm : Calm) (text : List ℕ)
    → acts ≡ done ++ rest → length now.buffers ≡ 2 ^ n → now ≡ run_of n cap machine done
    → IsKept n cap machine acts now calm → repeats_from n cap calm now rest ≡ Ok text → Lines n cap machine acts text
unfolding repeats_from
rest_tells n cap machine acts done [] now calm text split long is kept told =
    subst (Lines n cap machine acts) (same_ok [] text told) (no_lines n cap machine acts)
rest_tells n cap machine acts done (act ∷ rest) now calm text split long is kept told =
    let next = run_of n cap now (act ∷ []) in
    let later = calm_after n calm act now next in
    let split_on = split ∙ sym (append_assoc done (act ∷ []) rest) in
    let next_is = ap (λ (m : Machine). run_of n cap m (act ∷ [])) is
    ∙ sym (run_of-append n cap machine done (act ∷ [])) in
    let before = ap (take (length done)) split ∙ take_at done (act ∷ rest) (length done) refl in
    let after = ap (take (length done + 1)) split_on
    ∙ take_at (done ++ act ∷ []) rest (length done + 1) (length_push done act) in
    let parts = in_parts_with_room (act_lacks_room now.clock act) (act_repeat n calm act now next)
    (repeats_from n cap later next rest) text told in
    let followed = act_followed n cap machine acts now (length done) calm act long
    (is ∙ ap (run_of n cap machine) (sym before)) (next_is ∙ ap (run_of n cap machine) (sym after)) kept in
    subst (Lines n cap machine acts) parts.whole
    (more_lines n cap machine acts (act_repeat n calm act now next) parts.behind followed.lines
    (rest_tells n cap machine acts (done ++ act ∷ []) rest next later parts.behind split_on
    (length-buffers-run_of n cap now (act ∷ [])) next_is followed.kept parts.is))

pub all_tell_rounds : (n cap : ℕ) (machine : Machine) (acts : List Act) (text : List ℕ)
    → length machine.buffers ≡ 2 ^ n → repeats_table n cap machine acts ≡ Ok text
    → AllTellRounds n cap machine acts text
unfolding repeats_table
all_tell_rounds n cap machine acts text long is =
    let parts = in_parts repeats_header (repeats_from n cap no_calm machine acts) text is in
    let told = rest_tells n cap machine acts [] acts machine no_calm parts.behind refl long
    (sym (run_of-nil n cap machine long)) (λ e k l. absurd (omega (arith, l))) parts.is in
    record {
      lines = told.lines;
      whole = sym parts.whole ∙ ap (λ xs. repeats_header ++ xs) told.whole;
      each = told.each;
    }

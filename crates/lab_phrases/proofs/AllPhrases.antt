-- All phrases, in all processors at once.
use Rattle.std.proofs.Common.{◌≡◌, ℕ, suc, ◌+◌, ◌-◌, ◌<◌, ◌≤◌, ◌^◌, ◌⊎◌, ◌&&◌, ◌||◌, Bool, true, false, not, eqb, leb, List}
use Rattle.std.proofs.Common.{length, map, get_or, set, Option, Some, None, refl, sym, ap, ◌∙◌, arith, inl, inr}
use Rattle.std.proofs.Common.{⊎_elim}
use Rattle.std.specs.Prelude.{if◌then◌else◌}
use Rattle.std.specs.List.{flat_map, range_with_len}
use Rattle.std.proofs.lemmas.Bool.Decides.{nat_tests}
use Rattle.cm_bits.specs.Span.{Span, IsField}
use Rattle.cm_bits.specs.Field.{meeting}
use Rattle.cm_bits.specs.declared.field.Meets.TheVariants.{Same, Apart, Partly}
use Rattle.cm_bits.specs.declared.plane.Dir.{Dir}
use Rattle.cm_bits.specs.declared.plane.Dir.TheVariants.{North}
use Rattle.cm_model.specs.declared.act.Nano.{Nano}
use Rattle.cm_model.specs.declared.act.Act.TheVariants as act
use Rattle.cm_model.specs.Place.{source, opposite}
use Rattle.cm_model.specs.Processor.{Processor}
use Rattle.cm_model.specs.Each.{tabulate}
use Rattle.cm_model.specs.Chip.{processor_at}
use Rattle.cm_model.specs.Array.{Chips, chip_at}
use Rattle.cm_model.specs.Laws.{IsPlace}
use Rattle.cm_model.specs.Letters.{with_field}
use Rattle.cm_model.specs.Whole.{IsProcessor}
use Rattle.cm_model.specs.Machine.{Machine, run_of}
use Rattle.cm_model.specs.Keeping.{IsMachine}
use Rattle.cm_model.proofs.Each.{length-tabulate}
use Rattle.cm_model.proofs.Runs.{run_of-acted}
use Rattle.cm_model.proofs.Torus.{neighbours_lead_back}
use Rattle.cm_language.specs.declared.macros.Context.{Context}
use Rattle.cm_language.specs.declared.macros.Context.TheVariants.{Always, On, Off}
use Rattle.cm_language.specs.declared.fault.MacroFault.{MacroFault}
use Rattle.cm_language.specs.declared.fault.MacroFault.TheVariants as fault
use Rattle.cm_language.specs.Effect.{selected, size, value_of}
use Rattle.cm_language.specs.Acts.{nano, each_bit}
use Rattle.cm_language.specs.Faults.{is_partly, lengths_differ, is_fixed}
use Rattle.cm_language.proofs.Bits.{reads}
use Rattle.cm_language.proofs.Steps.{run, Free, AllUnder, AllHome, under-each, home-each, run-unselected}
use Rattle.cm_language.proofs.Loops.{IsBehind}
use Rattle.cm_language.proofs.Selected.{Whole, Pair}
use Rattle.cm_language.proofs.Lifting.{each_place, with_chips, lifted}
use Rattle.cm_bits.specs.Bit.{differ}
use Rattle.lab_phrases.specs.declared.phrase.Phrase.{Phrase}
use Rattle.lab_phrases.specs.declared.phrase.Phrase.TheVariants.{News, Chain, And, Or, Xor, Not, AddNumber, Test, Keep}
use Rattle.lab_phrases.specs.Effect.{phrase_sender, one_of, phrase_assigned, phrase_effect}
use Rattle.lab_phrases.specs.Acts.{phrase_nanos, phrase_acts, add_bit, keep_bit, fetch_bit}
use Rattle.lab_phrases.specs.Faults.{phrase_overlaps, phrase_misfits, phrase_writes, phrase_writes_condition}
use Rattle.lab_phrases.specs.Faults.{phrase_names_fixed, first_phrase_fault}
use Rattle.lab_phrases.specs.Laws.{HasPhraseFields, machine_after_phrase}
use Rattle.lab_phrases.proofs.Bitwise.{bitwise, table_and, table_or, table_xor, table_not}
use Rattle.lab_phrases.proofs.Numbered.{add_number_is}
use Rattle.lab_phrases.proofs.Flags.{IsSettable, test_is, keep_is}
use Rattle.lab_phrases.proofs.Fetched.{placed, at_place, same_placed, chips_after, acts_done, AreWhole, IsSender}
use Rattle.lab_phrases.proofs.Fetched.{TakesIncoming, IsFetching, came, bits_fetched, whole_came, sent_over_news}
use Rattle.lab_phrases.proofs.Fetched.{sent_along_chain, from_neighbour, from_before}

-- ---- what a phrase that is not refused has

-- none of the causes
pub record Accepted (phrase : Phrase) (c : Context) : Type 0 where
  pub meets : phrase_overlaps phrase ≡ false
  pub fits : phrase_misfits phrase ≡ false
  pub condition : phrase_writes_condition phrase c ≡ false
  pub fixed : phrase_names_fixed phrase ≡ false

-- the first of the causes that are there
abbrev chosen_fault : Bool → Bool → Bool → Option MacroFault
chosen_fault a b s =
    if a then Some fault.Overlap else (if b then Some fault.Lengths else (if s then Some fault.Scratch else None))

record AllFalse (a b s : Bool) : Type 0 where
  first : a ≡ false
  second : b ≡ false
  third : s ≡ false

none_is_there : (a b s : Bool) → chosen_fault a b s ≡ None → AllFalse a b s
none_is_there true b s h = absurd cc
none_is_there false true s h = absurd cc
none_is_there false false true h = absurd cc
none_is_there false false false h = record { first = refl; second = refl; third = refl }

or_first : (a b : Bool) → (a || b) ≡ false → a ≡ false
or_first true b h = absurd cc
or_first false b h = refl

or_second : (a b : Bool) → (a || b) ≡ false → b ≡ false
or_second true b h = absurd cc
or_second false b h = h

pub accepted : (phrase : Phrase) (c : Context) → first_phrase_fault phrase c ≡ None → Accepted phrase c
accepted phrase c h =
    let all : AllFalse (phrase_overlaps phrase) (phrase_misfits phrase) (phrase_writes_condition phrase c || phrase_names_fixed phrase) =
    none_is_there (phrase_overlaps phrase) (phrase_misfits phrase) (phrase_writes_condition phrase c || phrase_names_fixed phrase) h in
    record {
      meets = all.first;
      fits = all.second;
      condition = or_first (phrase_writes_condition phrase c) (phrase_names_fixed phrase) all.third;
      fixed = or_second (phrase_writes_condition phrase c) (phrase_names_fixed phrase) all.third;
    }

-- a flag that can be set
pub settable : (f : ℕ) → is_fixed f ≡ false → IsSettable f
settable f h =
    let two : (eqb f 8 || eqb f 10) ≡ false = or_first (eqb f 8 || eqb f 10) (eqb f 11) h in
    record {
      zero_flag = or_first (eqb f 8) (eqb f 10) two;
      news = or_second (eqb f 8) (eqb f 10) two;
      daisy = or_second (eqb f 8 || eqb f 10) (eqb f 11) h;
    }

-- ---- fields

not_false : (b : Bool) → not b ≡ false → b ≡ true
not_false true h = refl
not_false false h = absurd cc

same_number : (a b : ℕ) → not (eqb a b) ≡ false → a ≡ b
same_number a b h = grind (arith, nat_tests, not_false (eqb a b) h)

-- where two fields do not meet partly, they are the same or apart
some_holds : (t u : Bool) → is_partly (if t then Same else (if u then Apart else Partly)) ≡ false
    → (t ≡ true) ⊎ (u ≡ true)
some_holds true u h = inl refl
some_holds false true h = inr refl
some_holds false false h = absurd cc

and_first : (a b : Bool) → (a && b) ≡ true → a ≡ true
and_first true b h = refl
and_first false b h = absurd cc

or_cases : (a b : Bool) → (a || b) ≡ true → (a ≡ true) ⊎ (b ≡ true)
or_cases true b h = inl refl
or_cases false b h = inr h

leb_is : (a b : ℕ) → leb a b ≡ true → a ≤ b
leb_is a b h = grind (arith, nat_tests, h)

eqb_is : (a b : ℕ) → eqb a b ≡ true → a ≡ b
eqb_is a b h = grind (arith, nat_tests, h)

below_is : (a b : ℕ) → leb a b ≡ false → b < a
below_is a b h = grind (arith, nat_tests, h)

behind_is : (d s : Span) → d.len ≡ s.len → is_partly (meeting d s) ≡ false → IsBehind d.at s.at d.len
behind_is d s same h =
    ⊎_elim
    (λ (e : (eqb d.at s.at && eqb d.len s.len) ≡ true).
    let at : d.at ≡ s.at = eqb_is d.at s.at (and_first (eqb d.at s.at) (eqb d.len s.len) e) in inl (omega (arith, at)))
    (λ (e : (leb (d.at + d.len) s.at || leb (s.at + s.len) d.at) ≡ true).
    ⊎_elim
    (λ (f : leb (d.at + d.len) s.at ≡ true).
    let l : d.at + d.len ≤ s.at = leb_is (d.at + d.len) s.at f in inl (omega arith))
    (λ (f : leb (s.at + s.len) d.at ≡ true).
    let l : s.at + s.len ≤ d.at = leb_is (s.at + s.len) d.at f in inr (omega (arith, same)))
    (or_cases (leb (d.at + d.len) s.at) (leb (s.at + s.len) d.at) e))
    (some_holds (eqb d.at s.at && eqb d.len s.len) (leb (d.at + d.len) s.at || leb (s.at + s.len) d.at) h)

pair_is : (d s : Span) → IsField d → IsField s → lengths_differ d s ≡ false → is_partly (meeting d s) ≡ false
    → Pair d s
pair_is d s hd hs fits meets =
    let same : d.len ≡ s.len = same_number d.len s.len fits in
    record { first = hd.within; second = hs.within; same = same; behind = behind_is d s same meets }

itself : (d : Span) → IsField d → Pair d d
itself d h = record { first = h.within; second = h.within; same = refl; behind = inl (omega arith) }

-- a flag that the phrase writes is not the one that is looked at
free : (c : Context) (phrase : Phrase) (w : ℕ) → ((f : ℕ) → phrase_writes phrase f ≡ eqb f w)
    → phrase_writes_condition phrase c ≡ false → Free c w
free Always phrase w is h = tt
free (On g) phrase w is h = sym (is g) ∙ h
free (Off g) phrase w is h = sym (is g) ∙ h

-- ---- phrases that nothing comes to

-- nothing comes to it
abbrev is_local : Phrase → Bool
is_local (News d s dir) = false
is_local (Chain d s) = false
is_local (And d s) = true
is_local (Or d s) = true
is_local (Xor d s) = true
is_local (Not d) = true
is_local (AddNumber d v) = true
is_local (Test f s) = true
is_local (Keep d f) = true

selected_is : (phrase : Phrase) (c : Context) (from p : Processor) → is_local phrase ≡ true → HasPhraseFields phrase
    → Accepted phrase c → Whole c p → run (phrase_nanos phrase c) p ≡ phrase_assigned phrase from p
selected_is (News d s dir) c from p e f a h = absurd cc
selected_is (Chain d s) c from p e f a h = absurd cc
selected_is (And d s) c from p e f a h =
    bitwise c 0xc0 (λ x y. x && y) table_and d s p h (pair_is d s f.0 f.1 a.fits a.meets)
selected_is (Or d s) c from p e f a h =
    bitwise c 0xfc (λ x y. x || y) table_or d s p h (pair_is d s f.0 f.1 a.fits a.meets)
selected_is (Xor d s) c from p e f a h =
    bitwise c 0x3c differ table_xor d s p h (pair_is d s f.0 f.1 a.fits a.meets)
selected_is (Not d) c from p e f a h = bitwise c 0x0f (λ x y. not x) table_not d d p h (itself d f)
selected_is (AddNumber d v) c from p e f a h =
    add_number_is c d v p h f.within (below_is (size d) v a.fits) (free c (AddNumber d v) 7 (λ g. refl) a.condition)
selected_is (Test w s) c from p e f a h =
    test_is c w s p h f.0.within f.1 (settable w a.fixed) (free c (Test w s) w (λ g. refl) a.condition)
selected_is (Keep d w) c from p e f a h = keep_is c d w p h f.0

under_bits : (c : Context) (x y : Span) (r w tm tf : ℕ) → AllUnder c (each_bit c x y r w tm tf)
unfolding tabulate
under_bits c x y r w tm tf = under-each c (λ i. nano c (x.at + i) (y.at + i) r w tm tf) (λ i. refl) (λ i. refl) 0 x.len

under_number : (c : Context) (d : Span) (v : ℕ) → AllUnder c (tabulate 0 d.len (add_bit c d v))
unfolding tabulate
under_number c d v = under-each c (add_bit c d v) (λ i. refl) (λ i. refl) 0 d.len

under_kept : (c : Context) (d : Span) (f : ℕ) → AllUnder c (tabulate 0 d.len (keep_bit c d f))
unfolding tabulate
under_kept c d f = under-each c (keep_bit c d f) (λ i. refl) (λ i. refl) 0 d.len

all_under : (phrase : Phrase) (c : Context) → is_local phrase ≡ true → AllUnder c (phrase_nanos phrase c)
all_under (News d s dir) c e = absurd cc
all_under (Chain d s) c e = absurd cc
all_under (And d s) c e = under_bits c d s 8 8 0xc0 0x00
all_under (Or d s) c e = under_bits c d s 8 8 0xfc 0x00
all_under (Xor d s) c e = under_bits c d s 8 8 0x3c 0x00
all_under (Not d) c e = under_bits c d d 8 8 0x0f 0x00
all_under (AddNumber d v) c e = (refl, (refl, under_number c d v))
all_under (Test f s) c e = (refl, (refl, under_bits c s s f f 0xf0 0xfa))
all_under (Keep d f) c e = under_kept c d f

home_bits : (c : Context) (x y : Span) (tm : ℕ) → AllHome (each_bit c x y 8 8 tm 0x00)
unfolding tabulate
home_bits c x y tm = home-each (λ i. nano c (x.at + i) (y.at + i) 8 8 tm 0x00) (λ i. refl) 0 x.len

home_number : (c : Context) (d : Span) (v : ℕ) → AllHome (tabulate 0 d.len (add_bit c d v))
unfolding tabulate
home_number c d v = home-each (add_bit c d v) (λ i. refl) 0 d.len

home_kept : (c : Context) (d : Span) (f : ℕ) → AllHome (tabulate 0 d.len (keep_bit c d f))
unfolding tabulate
home_kept c d f = home-each (keep_bit c d f) (λ i. refl) 0 d.len

-- what writes a flag that can be set takes nothing
free_of_others : (f : ℕ) → IsSettable f → (eqb f 10 || eqb f 11) ≡ false
free_of_others f h = rw (h.news, h.daisy) refl

home_tests : (c : Context) (s : Span) (f : ℕ) → IsSettable f → AllHome (each_bit c s s f f 0xf0 0xfa)
unfolding tabulate
home_tests c s f h =
    home-each (λ i. nano c (s.at + i) (s.at + i) f f 0xf0 0xfa) (λ i. free_of_others f h) 0 s.len

all_home : (phrase : Phrase) (c : Context) → is_local phrase ≡ true → phrase_names_fixed phrase ≡ false
    → AllHome (phrase_nanos phrase c)
all_home (News d s dir) c e h = absurd cc
all_home (Chain d s) c e h = absurd cc
all_home (And d s) c e h = home_bits c d s 0xc0
all_home (Or d s) c e h = home_bits c d s 0xfc
all_home (Xor d s) c e h = home_bits c d s 0x3c
all_home (Not d) c e h = home_bits c d d 0x0f
all_home (AddNumber d v) c e h = (refl, home_number c d v)
all_home (Test f s) c e h = (free_of_others f (settable f h), home_tests c s f (settable f h))
all_home (Keep d f) c e h = home_kept c d f

some_bits : (n : ℕ) (f : ℕ → Nano) → 1 ≤ n → 0 < length (tabulate 0 n f)
some_bits n f h = omega (arith, length-tabulate 0 n f)

some_acts : (phrase : Phrase) (c : Context) → is_local phrase ≡ true → HasPhraseFields phrase → 0 < length (phrase_nanos phrase c)
some_acts (News d s dir) c e f = absurd cc
some_acts (Chain d s) c e f = absurd cc
some_acts (And d s) c e f = some_bits d.len _ f.0.some
some_acts (Or d s) c e f = some_bits d.len _ f.0.some
some_acts (Xor d s) c e f = some_bits d.len _ f.0.some
some_acts (Not d) c e f = some_bits d.len _ f.some
some_acts (AddNumber d v) c e f = omega arith
some_acts (Test w s) c e f = omega arith
some_acts (Keep d w) c e f = some_bits d.len _ f.0.some

effect_selected : (phrase : Phrase) (c : Context) (from p q : Processor) → selected c p ≡ true
    → q ≡ phrase_assigned phrase from p → q ≡ phrase_effect phrase c from p
unfolding phrase_effect
effect_selected phrase c from p q h e = rw h e

effect_unselected : (phrase : Phrase) (c : Context) (from p q : Processor) → selected c p ≡ false → q ≡ p
    → q ≡ phrase_effect phrase c from p
unfolding phrase_effect
effect_unselected phrase c from p q h e = rw h e

bool_cases : (b : Bool) → (b ≡ true) ⊎ (b ≡ false)
bool_cases true = inl refl
bool_cases false = inr refl

in_processor : (phrase : Phrase) (c : Context) (from p : Processor) → is_local phrase ≡ true → HasPhraseFields phrase
    → Accepted phrase c → IsProcessor p → run (phrase_nanos phrase c) p ≡ phrase_effect phrase c from p
in_processor phrase c from p l f a h =
    ⊎_elim
    (λ (e : selected c p ≡ true). effect_selected phrase c from p (run (phrase_nanos phrase c) p) e
    (selected_is phrase c from p l f a (record
    { ready = record { here = e; zero_flag = h.zero; long = h.flags }; memory = h.memory })))
    (λ (e : selected c p ≡ false). effect_unselected phrase c from p (run (phrase_nanos phrase c) p) e
    (run-unselected c (phrase_nanos phrase c) p (all_under phrase c l) h.zero e))
    (bool_cases (selected c p))

-- the chips after a phrase
abbrev chips_left : ℕ → Phrase → Context → Chips → Chips
chips_left n phrase c chips =
    placed n (λ ch p. phrase_effect phrase c (phrase_sender n phrase chips ch p) (at_place chips ch p))

local_is_right : (n cap : ℕ) (phrase : Phrase) (c : Context) (machine : Machine) → is_local phrase ≡ true
    → IsMachine n cap machine → HasPhraseFields phrase → Accepted phrase c
    → run_of n cap machine (phrase_acts phrase c) ≡ with_chips machine (chips_left n phrase c machine.chips)
unfolding each_place
local_is_right n cap phrase c machine e h f a =
    run_of-acted n cap machine (map act.Nano (phrase_nanos phrase c)) h.buffer_count
    ∙ lifted n cap (phrase_nanos phrase c) machine (some_acts phrase c e f) (all_home phrase c e a.fixed)
    ∙ (λ i. with_chips machine (same_placed n (λ ch p. run (phrase_nanos phrase c) (at_place machine.chips ch p))
    (λ ch p. phrase_effect phrase c (phrase_sender n phrase machine.chips ch p) (at_place machine.chips ch p))
    (λ ch p l k. in_processor phrase c (phrase_sender n phrase machine.chips ch p) (at_place machine.chips ch p)
    e f a ((h.whole ch l).each p k)) i))

-- ---- phrases that a field comes to

-- the flag and the direction of a fetch
fetched_is_right : (n cap : ℕ) (phrase : Phrase) (c : Context) (w : ℕ) (dir : Dir) (d s : Span) (machine : Machine)
    → IsMachine n cap machine → IsField d → IsField s → d.len ≡ s.len → IsFetching n phrase c w dir d s
    → phrase_nanos phrase c ≡ flat_map (fetch_bit c w dir d s) (range_with_len 0 d.len)
    → ((from p : Processor) → (if selected c p then record {
      memory = with_field p.memory d.at d.len (value_of from s);
      flags = set p.flags w (get_or from.memory (s.at + (s.len - 1)) false);
    } else p) ≡ phrase_effect phrase c from p)
    → ((ch p : ℕ) → ch < 2 ^ n → p < 16 → IsSender (phrase_sender n phrase machine.chips ch p))
    → run_of n cap machine (phrase_acts phrase c) ≡ with_chips machine (chips_left n phrase c machine.chips)
fetched_is_right n cap phrase c w dir d s machine h hd hs same is bits effects sends =
    let some : 1 ≤ d.len = hd.some in
    let count : d.len ≡ suc (d.len - 1) = omega (arith, some) in
    let within : 0 + suc (d.len - 1) ≤ d.len = omega (arith, some) in
    let chips : Chips = machine.chips in
    let whole : AreWhole n chips = λ ch p l k. (h.whole ch l).each p k in
    let came_all : (len : ℕ) → Chips = λ len. placed n (λ ch p. came c w (d.at + 0)
    (reads (phrase_sender n phrase chips ch p).memory (s.at + 0) len) (at_place chips ch p)) in
    let fetched : chips_after n (flat_map (fetch_bit c w dir d s) (range_with_len 0 d.len)) chips ≡ came_all d.len =
    ap (λ (k : ℕ). chips_after n (flat_map (fetch_bit c w dir d s) (range_with_len 0 k)) chips) count
    ∙ bits_fetched n phrase c w dir d s is (d.len - 1) 0 chips within whole
    ∙ ap came_all (sym count) in
    run_of-acted n cap machine (map act.Nano (phrase_nanos phrase c)) h.buffer_count
    ∙ acts_done n cap (phrase_nanos phrase c) machine
    ∙ (λ i. with_chips machine (chips_after n (bits i) chips))
    ∙ (λ i. with_chips machine (fetched i))
    ∙ (λ i. with_chips machine (same_placed n
    (λ ch p. came c w (d.at + 0) (reads (phrase_sender n phrase chips ch p).memory (s.at + 0) d.len) (at_place chips ch p))
    (λ ch p. phrase_effect phrase c (phrase_sender n phrase chips ch p) (at_place chips ch p))
    (λ ch p l k. whole_came c w d s (phrase_sender n phrase chips ch p) (at_place chips ch p) hd hs same (sends ch p l k)
    (whole ch p l k)
    ∙ effects (phrase_sender n phrase chips ch p) (at_place chips ch p)) i))

over_news : TakesIncoming 10
over_news = record { takes = refl; stored = refl; other = refl; below = omega arith }

along_chain : TakesIncoming 11
along_chain = record { takes = refl; stored = refl; other = refl; below = omega arith }

neighbour_sends : (n : ℕ) (d s : Span) (dir : Dir) (chips : Chips) → AreWhole n chips
    → (ch p : ℕ) → ch < 2 ^ n → p < 16 → IsSender (phrase_sender n (News d s dir) chips ch p)
neighbour_sends n d s dir chips whole ch p l k =
    let here : IsPlace n (record { chip = ch; proc = p }) = record { chip = l; proc = k } in
    let there : IsPlace n (source n dir (record { chip = ch; proc = p })) =
    (neighbours_lead_back n (opposite dir) (record { chip = ch; proc = p }) here).within in
    inl (whole (source n dir (record { chip = ch; proc = p })).chip
    (source n dir (record { chip = ch; proc = p })).proc there.chip there.proc).memory

before_sends : (b : Bool) (chip : List Processor) (q : ℕ) → IsProcessor (processor_at chip q)
    → IsSender (one_of chip (if b then None else Some q))
before_sends true chip q h = inr refl
before_sends false chip q h = inl h.memory

news_is_right : (n cap : ℕ) (d s : Span) (dir : Dir) (c : Context) (machine : Machine) → IsMachine n cap machine
    → HasPhraseFields (News d s dir) → Accepted (News d s dir) c
    → run_of n cap machine (phrase_acts (News d s dir) c)
    ≡ with_chips machine (chips_left n (News d s dir) c machine.chips)
unfolding phrase_effect
news_is_right n cap d s dir c machine h f a =
    let fields : Pair d s = pair_is d s f.0 f.1 a.fits a.meets in
    fetched_is_right n cap (News d s dir) c 10 dir d s machine h f.0 f.1 fields.same
    (record {
      line = over_news;
      free = free c (News d s dir) 10 (λ g. refl) a.condition;
      sent = sent_over_news n d s dir c;
      from = from_neighbour n d s dir;
      behind = fields.behind;
    })
    refl (λ from p. refl)
    (neighbour_sends n d s dir machine.chips (λ ch p l k. (h.whole ch l).each p k))

chain_is_right : (n cap : ℕ) (d s : Span) (c : Context) (machine : Machine) → IsMachine n cap machine
    → HasPhraseFields (Chain d s) → Accepted (Chain d s) c
    → run_of n cap machine (phrase_acts (Chain d s) c)
    ≡ with_chips machine (chips_left n (Chain d s) c machine.chips)
unfolding phrase_effect
chain_is_right n cap d s c machine h f a =
    let fields : Pair d s = pair_is d s f.0 f.1 a.fits a.meets in
    fetched_is_right n cap (Chain d s) c 11 North d s machine h f.0 f.1 fields.same
    (record {
      line = along_chain;
      free = free c (Chain d s) 11 (λ g. refl) a.condition;
      sent = sent_along_chain n d s c;
      from = from_before n d s;
      behind = fields.behind;
    })
    refl (λ from p. refl)
    (λ ch p l k. before_sends (eqb p 0) (chip_at machine.chips ch) (p - 1) ((h.whole ch l).each (p - 1) (omega arith)))

-- ---- all

all_are_right : (n cap : ℕ) (phrase : Phrase) (c : Context) (machine : Machine) → IsMachine n cap machine
    → HasPhraseFields phrase → Accepted phrase c
    → run_of n cap machine (phrase_acts phrase c) ≡ with_chips machine (chips_left n phrase c machine.chips)
all_are_right n cap (News d s dir) c machine h f a = news_is_right n cap d s dir c machine h f a
all_are_right n cap (Chain d s) c machine h f a = chain_is_right n cap d s c machine h f a
all_are_right n cap (And d s) c machine h f a = local_is_right n cap (And d s) c machine refl h f a
all_are_right n cap (Or d s) c machine h f a = local_is_right n cap (Or d s) c machine refl h f a
all_are_right n cap (Xor d s) c machine h f a = local_is_right n cap (Xor d s) c machine refl h f a
all_are_right n cap (Not d) c machine h f a = local_is_right n cap (Not d) c machine refl h f a
all_are_right n cap (AddNumber d v) c machine h f a = local_is_right n cap (AddNumber d v) c machine refl h f a
all_are_right n cap (Test w s) c machine h f a = local_is_right n cap (Test w s) c machine refl h f a
all_are_right n cap (Keep d w) c machine h f a = local_is_right n cap (Keep d w) c machine refl h f a

pub phrases_are_right : (n cap : ℕ) (phrase : Phrase) (c : Context) (machine : Machine) → IsMachine n cap machine
    → HasPhraseFields phrase → first_phrase_fault phrase c ≡ None
    → run_of n cap machine (phrase_acts phrase c) ≡ machine_after_phrase n phrase c machine
unfolding machine_after_phrase
phrases_are_right n cap phrase c machine h f e = all_are_right n cap phrase c machine h f (accepted phrase c e)

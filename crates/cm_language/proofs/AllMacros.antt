-- All macros: in one processor, and in all at once.
use Rattle.std.proofs.Common.{◌≡◌, ℕ, ◌+◌, ◌-◌, ◌<◌, ◌≤◌, ◌⊎◌, ◌&&◌, ◌||◌, Bool, true, false, not, eqb, leb, [], ◌∷◌}
use Rattle.std.proofs.Common.{◌++◌, length, map, Option, Some, None, refl, sym, ◌∙◌, arith, inl, inr, ⊎_elim}
use Rattle.std.proofs.Common.{length-append}
use Rattle.std.specs.Prelude.{if◌then◌else◌}
use Rattle.std.specs.List.{range_with_len}
use Rattle.std.proofs.lemmas.Bool.Decides.{nat_tests}
use Rattle.cm_bits.specs.Span.{Span, IsField}
use Rattle.cm_bits.specs.Field.{meeting}
use Rattle.cm_bits.specs.declared.field.Meets.TheVariants.{Same, Apart, Partly}
use Rattle.cm_model.specs.declared.act.Nano.{Nano}
use Rattle.cm_model.specs.declared.act.Act.TheVariants as act
use Rattle.cm_model.specs.Processor.{Processor}
use Rattle.cm_model.specs.Each.{tabulate}
use Rattle.cm_model.specs.Chip.{processor_at}
use Rattle.cm_model.specs.Array.{chip_at}
use Rattle.cm_model.specs.Whole.{IsProcessor}
use Rattle.cm_model.specs.Machine.{Machine, run_of}
use Rattle.cm_model.specs.Keeping.{IsMachine}
use Rattle.cm_model.proofs.Each.{length-tabulate}
use Rattle.cm_model.proofs.Runs.{run_of-acted}
use Rattle.cm_language.specs.declared.macros.Macro.{Macro}
use Rattle.cm_language.specs.declared.macros.Macro.TheVariants.{Add, Sub, Less, Equal, Move, Select, Const, Shift, Mul}
use Rattle.cm_language.specs.declared.macros.Macro.TheVariants.{Set, Clear}
use Rattle.cm_language.specs.declared.macros.Context.{Context}
use Rattle.cm_language.specs.declared.macros.Context.TheVariants.{Always, On, Off}
use Rattle.cm_language.specs.declared.fault.MacroFault.{MacroFault}
use Rattle.cm_language.specs.declared.fault.MacroFault.TheVariants as fault
use Rattle.cm_language.specs.Effect.{selected, assigned, effect}
use Rattle.cm_language.specs.Acts.{nano, nanos, acts_of, clear_flag, each_bit, number_bits, product, product_round}
use Rattle.cm_language.specs.Acts.{above, lowest}
use Rattle.cm_language.specs.Faults.{is_partly, is_apart, overlaps, misfits, writes, writes_condition, names_fixed}
use Rattle.cm_language.specs.Faults.{is_fixed, is_conditional, is_conditional_product, first_fault}
use Rattle.cm_language.specs.Laws.{HasFields, machine_after_macro}
use Rattle.cm_language.proofs.Steps.{run, Free, AllUnder, AllHome, under-each, home-each, home-append, home-flat_map}
use Rattle.cm_language.proofs.Steps.{run-unselected}
use Rattle.cm_language.proofs.Loops.{IsBehind}
use Rattle.cm_language.proofs.Selected.{Whole, Pair, add_is, sub_is, less_is, equal_is, move_is, select_is, const_is}
use Rattle.cm_language.proofs.Selected.{shift_is, set_step, clear_step}
use Rattle.cm_language.proofs.Products.{AreApart, Factors, mul_is}
use Rattle.cm_language.proofs.Lifting.{each_place, same_places, with_chips, lifted}

-- ---- what a macro that is not refused has

-- none of the four causes
pub record Accepted (m : Macro) (c : Context) : Type 0 where
  pub meets : overlaps m ≡ false
  pub fits : misfits m ≡ false
  pub condition : writes_condition m c ≡ false
  pub fixed : names_fixed m ≡ false
  pub context : is_conditional_product m c ≡ false

-- the first of the causes that are there
abbrev chosen_fault : Bool → Bool → Bool → Bool → Option MacroFault
chosen_fault a b s x =
    if a then Some fault.Overlap
    else (if b then Some fault.Lengths
    else (if s then Some fault.Scratch else (if x then Some fault.Context else None)))

record AllFalse (a b s x : Bool) : Type 0 where
  first : a ≡ false
  second : b ≡ false
  third : s ≡ false
  fourth : x ≡ false

none_is_there : (a b s x : Bool) → chosen_fault a b s x ≡ None → AllFalse a b s x
none_is_there true b s x h = absurd cc
none_is_there false true s x h = absurd cc
none_is_there false false true x h = absurd cc
none_is_there false false false true h = absurd cc
none_is_there false false false false h = record { first = refl; second = refl; third = refl; fourth = refl }

or_first : (a b : Bool) → (a || b) ≡ false → a ≡ false
or_first true b h = absurd cc
or_first false b h = refl

or_second : (a b : Bool) → (a || b) ≡ false → b ≡ false
or_second true b h = absurd cc
or_second false b h = h

pub accepted : (m : Macro) (c : Context) → first_fault m c ≡ None → Accepted m c
accepted m c h =
    let all : AllFalse (overlaps m) (misfits m) (writes_condition m c || names_fixed m) (is_conditional_product m c) =
    none_is_there (overlaps m) (misfits m) (writes_condition m c || names_fixed m) (is_conditional_product m c) h in
    record {
      meets = all.first;
      fits = all.second;
      condition = or_first (writes_condition m c) (names_fixed m) all.third;
      fixed = or_second (writes_condition m c) (names_fixed m) all.third;
      context = all.fourth;
    }

-- ---- fields

not_false : (b : Bool) → not b ≡ false → b ≡ true
not_false true h = refl
not_false false h = absurd cc

same_number : (a b : ℕ) → not (eqb a b) ≡ false → a ≡ b
same_number a b h = grind (arith, nat_tests, not_false (eqb a b) h)

-- where two tests say how fields meet, one of them holds
some_holds : (t u : Bool) → is_partly (if t then Same else (if u then Apart else Partly)) ≡ false
    → (t ≡ true) ⊎ (u ≡ true)
some_holds true u h = inl refl
some_holds false true h = inr refl
some_holds false false h = absurd cc

second_holds : (t u : Bool) → not (is_apart (if t then Same else (if u then Apart else Partly))) ≡ false → u ≡ true
second_holds true u h = absurd cc
second_holds false true h = refl
second_holds false false h = absurd cc

and_first : (a b : Bool) → (a && b) ≡ true → a ≡ true
and_first true b h = refl
and_first false b h = absurd cc

or_cases : (a b : Bool) → (a || b) ≡ true → (a ≡ true) ⊎ (b ≡ true)
or_cases true b h = inl refl
or_cases false b h = inr h

leb_is : (a b : ℕ) → leb a b ≡ true → a ≤ b
leb_is a b h = grind (arith, nat_tests, h)

eqb_is : (a b : ℕ) → eqb a b ≡ true → a ≡ b
eqb_is a b h = grind (arith, nat_tests, h)

apart_is : (d s : Span) → (leb (d.at + d.len) s.at || leb (s.at + s.len) d.at) ≡ true → AreApart d s
apart_is d s h =
    ⊎_elim (λ (e : leb (d.at + d.len) s.at ≡ true). inl (leb_is (d.at + d.len) s.at e))
    (λ (e : leb (s.at + s.len) d.at ≡ true). inr (leb_is (s.at + s.len) d.at e))
    (or_cases (leb (d.at + d.len) s.at) (leb (s.at + s.len) d.at) h)

behind_is : (d s : Span) → d.len ≡ s.len → is_partly (meeting d s) ≡ false → IsBehind d.at s.at d.len
behind_is d s same h =
    ⊎_elim
    (λ (e : (eqb d.at s.at && eqb d.len s.len) ≡ true).
    let at : d.at ≡ s.at = eqb_is d.at s.at (and_first (eqb d.at s.at) (eqb d.len s.len) e) in inl (omega (arith, at)))
    (λ (e : (leb (d.at + d.len) s.at || leb (s.at + s.len) d.at) ≡ true).
    ⊎_elim (λ (a : d.at + d.len ≤ s.at). inl (omega arith)) (λ (b : s.at + s.len ≤ d.at). inr (omega (arith, same)))
    (apart_is d s e))
    (some_holds (eqb d.at s.at && eqb d.len s.len) (leb (d.at + d.len) s.at || leb (s.at + s.len) d.at) h)

pair_is : (d s : Span) → IsField d → IsField s → not (eqb d.len s.len) ≡ false → is_partly (meeting d s) ≡ false
    → Pair d s
pair_is d s hd hs fits meets =
    let same : d.len ≡ s.len = same_number d.len s.len fits in
    record { first = hd.within; second = hs.within; same = same; behind = behind_is d s same meets }

fields_apart : (d s : Span) → not (is_apart (meeting d s)) ≡ false → AreApart d s
fields_apart d s h = apart_is d
    s (second_holds (eqb d.at s.at && eqb d.len s.len) (leb (d.at + d.len) s.at || leb (s.at + s.len) d.at) h)

factors_are : (d x y : Span) → IsField d → IsField x → IsField y → overlaps (Mul d x y) ≡ false
    → misfits (Mul d x y) ≡ false → Factors d x y
factors_are d x y hd hx hy meets fits =
    let one : (not (is_apart (meeting d x)) || not (is_apart (meeting d y))) ≡ false =
    or_first (not (is_apart (meeting d x)) || not (is_apart (meeting d y))) (is_partly (meeting x y)) meets in
    record {
      whole = hd.within;
      first = hx.within;
      second = hy.within;
      first_len = sym (same_number d.len x.len (or_first (not (eqb d.len x.len)) (not (eqb d.len y.len)) fits));
      second_len = sym (same_number d.len y.len (or_second (not (eqb d.len x.len)) (not (eqb d.len y.len)) fits));
      first_apart = fields_apart d x (or_first (not (is_apart (meeting d x))) (not (is_apart (meeting d y))) one);
      second_apart = fields_apart d y (or_second (not (is_apart (meeting d x))) (not (is_apart (meeting d y))) one);
    }

-- ---- one processor that the context means

free_carry : (c : Context) (m : Macro) → ((f : ℕ) → writes m f ≡ eqb f 7) → writes_condition m c ≡ false → Free c 7
free_carry Always m is h = tt
free_carry (On g) m is h = sym (is g) ∙ h
free_carry (Off g) m is h = sym (is g) ∙ h

fixed_8 : (f : ℕ) → is_fixed f ≡ false → eqb f 8 ≡ false
fixed_8 f h = or_first (eqb f 8) (eqb f 10) (or_first (eqb f 8 || eqb f 10) (eqb f 11) h)

fixed_10 : (f : ℕ) → is_fixed f ≡ false → eqb f 10 ≡ false
fixed_10 f h = or_second (eqb f 8) (eqb f 10) (or_first (eqb f 8 || eqb f 10) (eqb f 11) h)

fixed_11 : (f : ℕ) → is_fixed f ≡ false → eqb f 11 ≡ false
fixed_11 f h = or_second (eqb f 8 || eqb f 10) (eqb f 11) h

product_is : (c : Context) (d x y : Span) (p : Processor) → is_conditional c ≡ false → Whole c p → Factors d x y
    → run (nanos (Mul d x y) c) p ≡ assigned (Mul d x y) p
product_is Always d x y p e h fields = mul_is d x y p h fields
product_is (On f) d x y p e h fields = absurd cc
product_is (Off f) d x y p e h fields = absurd cc

selected_is : (m : Macro) (c : Context) (p : Processor) → HasFields m → Accepted m c → Whole c p
    → run (nanos m c) p ≡ assigned m p
selected_is (Add d s) c p f a h =
    add_is c d s p h (pair_is d s f.0 f.1 a.fits a.meets) (free_carry c (Add d s) (λ g. refl) a.condition)
selected_is (Sub d s) c p f a h =
    sub_is c d s p h (pair_is d s f.0 f.1 a.fits a.meets) (free_carry c (Sub d s) (λ g. refl) a.condition)
selected_is (Less x y) c p f a h =
    less_is c x y p h (pair_is x y f.0 f.1 a.fits a.meets) (free_carry c (Less x y) (λ g. refl) a.condition)
selected_is (Equal x y) c p f a h =
    equal_is c x y p h (pair_is x y f.0 f.1 a.fits a.meets) (free_carry c (Equal x y) (λ g. refl) a.condition)
selected_is (Move d s) c p f a h = move_is c d s p h (pair_is d s f.0 f.1 a.fits a.meets)
selected_is (Select d s g) c p f a h = select_is c d s g p h (pair_is d s f.0 f.1 a.fits a.meets)
selected_is (Const d v) c p f a h = const_is c d v p h f.within
selected_is (Shift d) c p f a h = shift_is c d p h f (free_carry c (Shift d) (λ g. refl) a.condition)
selected_is (Mul d x y) c p f a h = product_is c d x y p a.context h (factors_are d x y f.0 f.1 f.2 a.meets a.fits)
selected_is (Set g) c p f a h = set_step c g p h.ready (fixed_8 g a.fixed) (fixed_10 g a.fixed) (fixed_11 g a.fixed)
selected_is (Clear g) c p f a h = clear_step c g p h.ready (fixed_8 g a.fixed) (fixed_10 g a.fixed) (fixed_11 g a.fixed)

-- ---- one processor that it does not mean

under_bits : (c : Context) (x y : Span) (r w tm tf : ℕ) → AllUnder c (each_bit c x y r w tm tf)
unfolding tabulate
under_bits c x y r w tm tf = under-each c (λ i. nano c (x.at + i) (y.at + i) r w tm tf) (λ i. refl) (λ i. refl) 0 x.len

under_number : (c : Context) (d : Span) (v : ℕ) → AllUnder c (number_bits c d v)
unfolding tabulate
under_number c d v = under-each c _ (λ i. refl) (λ i. refl) 0 d.len

all_under : (m : Macro) (c : Context) → is_conditional_product m c ≡ false → (p : Processor) → selected c p ≡ false
    → AllUnder c (nanos m c)
all_under (Add d s) c e p h = (refl, (refl, under_bits c d s 7 7 0x96 0xe8))
all_under (Sub d s) c e p h = (refl, (refl, under_bits c d s 7 7 0x69 0xb2))
all_under (Less x y) c e p h = (refl, (refl, under_bits c x y 7 7 0xf0 0x8e))
all_under (Equal x y) c e p h = (refl, (refl, under_bits c x y 7 7 0xf0 0x82))
all_under (Move d s) c e p h = under_bits c d s 8 8 0xcc 0x00
all_under (Select d s f) c e p h = under_bits c d s f 8 0xd8 0x00
all_under (Const d v) c e p h = under_number c d v
all_under (Shift d) c e p h = (refl, (refl, under_bits c d d 7 7 0xaa 0xf0))
all_under (Mul d x y) Always e p h = absurd cc
all_under (Mul d x y) (On f) e p h = absurd cc
all_under (Mul d x y) (Off f) e p h = absurd cc
all_under (Set f) c e p h = (refl, (refl, tt))
all_under (Clear f) c e p h = (refl, (refl, tt))

effect_selected : (m : Macro) (c : Context) (p q : Processor) → selected c p ≡ true → q ≡ assigned m p
    → q ≡ effect m c p
unfolding effect
effect_selected m c p q h e = rw h e

effect_unselected : (m : Macro) (c : Context) (p q : Processor) → selected c p ≡ false → q ≡ p → q ≡ effect m c p
unfolding effect
effect_unselected m c p q h e = rw h e

bool_cases : (b : Bool) → (b ≡ true) ⊎ (b ≡ false)
bool_cases true = inl refl
bool_cases false = inr refl

in_processor : (m : Macro) (c : Context) (p : Processor) → HasFields m → Accepted m c → IsProcessor p
    → run (nanos m c) p ≡ effect m c p
in_processor m c p f a h =
    ⊎_elim
    (λ (e : selected c p ≡ true). effect_selected m c p (run (nanos m c) p) e
    (selected_is m c p f a (record
    { ready = record { here = e; zero_flag = h.zero; long = h.flags }; memory = h.memory })))
    (λ (e : selected c p ≡ false). effect_unselected m c p (run (nanos m c) p) e
    (run-unselected c (nanos m c) p (all_under m c a.context p e) h.zero e))
    (bool_cases (selected c p))

-- ---- all processors

home_bits : (c : Context) (x y : Span) (r tm tf : ℕ) → AllHome (each_bit c x y r 7 tm tf)
unfolding tabulate
home_bits c x y r tm tf = home-each (λ i. nano c (x.at + i) (y.at + i) r 7 tm tf) (λ i. refl) 0 x.len

home_still : (c : Context) (x y : Span) (r tm tf : ℕ) → AllHome (each_bit c x y r 8 tm tf)
unfolding tabulate
home_still c x y r tm tf = home-each (λ i. nano c (x.at + i) (y.at + i) r 8 tm tf) (λ i. refl) 0 x.len

home_number : (c : Context) (d : Span) (v : ℕ) → AllHome (number_bits c d v)
unfolding tabulate
home_number c d v = home-each _ (λ i. refl) 0 d.len

home_round : (d x y : Span) (j : ℕ) → AllHome (product_round d x y j)
unfolding product_round
home_round d x y j = (refl, (refl, home_bits (On 6) (above d j) (lowest y (d.len - j)) 7 0x96 0xe8))

free_of_others : (f : ℕ) → is_fixed f ≡ false → (eqb f 10 || eqb f 11) ≡ false
free_of_others f h = rw (fixed_10 f h) (fixed_11 f h)

all_home : (m : Macro) (c : Context) → names_fixed m ≡ false → AllHome (nanos m c)
all_home (Add d s) c e = (refl, home_bits c d s 7 0x96 0xe8)
all_home (Sub d s) c e = (refl, home_bits c d s 7 0x69 0xb2)
all_home (Less x y) c e = (refl, home_bits c x y 7 0xf0 0x8e)
all_home (Equal x y) c e = (refl, home_bits c x y 7 0xf0 0x82)
all_home (Move d s) c e = home_still c d s 8 0xcc 0x00
all_home (Select d s f) c e = home_still c d s f 0xd8 0x00
all_home (Const d v) c e = home_number c d v
all_home (Shift d) c e = (refl, home_bits c d d 7 0xaa 0xf0)
all_home (Mul d x y) c e =
    home-append (number_bits c d 0) (product d x y ++ clear_flag c 6 ∷ clear_flag c 7 ∷ []) (home_number c d 0)
    (home-append (product d x y) (clear_flag c 6 ∷ clear_flag c 7 ∷ [])
    (home-flat_map (product_round d x y) (home_round d x y) (range_with_len 0 d.len)) (refl, (refl, tt)))
all_home (Set f) c e = (free_of_others f e, tt)
all_home (Clear f) c e = (free_of_others f e, tt)

some_bits : (n : ℕ) (f : ℕ → Nano) → 1 ≤ n → 0 < length (tabulate 0 n f)
some_bits n f h = omega (arith, length-tabulate 0 n f)

some_acts : (m : Macro) (c : Context) → HasFields m → 0 < length (nanos m c)
some_acts (Add d s) c f = omega arith
some_acts (Sub d s) c f = omega arith
some_acts (Less x y) c f = omega arith
some_acts (Equal x y) c f = omega arith
some_acts (Move d s) c f = some_bits d.len _ f.0.some
some_acts (Select d s g) c f = some_bits d.len _ f.0.some
some_acts (Const d v) c f = some_bits d.len _ f.some
some_acts (Shift d) c f = omega arith
some_acts (Mul d x y) c f =
    omega (
      arith,
      some_bits d.len (λ i. nano c (d.at + i) (d.at + i) 8 8 0x00 0x00) f.0.some,
      length-append (number_bits c d 0) (product d x y ++ clear_flag c 6 ∷ clear_flag c 7 ∷ []),
      length-append (product d x y) (clear_flag c 6 ∷ clear_flag c 7 ∷ []),
    )
some_acts (Set g) c f = omega arith
some_acts (Clear g) c f = omega arith

pub macros_are_right : (n cap : ℕ) (m : Macro) (c : Context) (machine : Machine) → IsMachine n cap machine
    → HasFields m → first_fault m c ≡ None
    → run_of n cap machine (acts_of m c) ≡ machine_after_macro n m c machine
unfolding machine_after_macro each_place
macros_are_right n cap m c machine h f e =
    let a : Accepted m c = accepted m c e in
    run_of-acted n cap machine (map act.Nano (nanos m c)) h.buffer_count
    ∙ lifted n cap (nanos m c) machine (some_acts m c f) (all_home m c a.fixed)
    ∙ (λ i. with_chips machine (same_places n (run (nanos m c)) (effect m c) machine.chips
    (λ chip p l k. in_processor m c (processor_at (chip_at machine.chips chip) p) f a ((h.whole chip l).each p k)) i))

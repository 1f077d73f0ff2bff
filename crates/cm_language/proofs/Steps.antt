-- One instruction of a macro in one processor, and lists of them.
use Rattle.std.proofs.Common.{◌≡◌, ℕ, zero, suc, ◌+◌, Bool, true, false, not, eqb, List, [], ◌∷◌, ◌++◌, length, get_or}
use Rattle.std.proofs.Common.{set, map, refl, ap, ◌∙◌}
use Rattle.std.specs.Bool.{beq}
use Rattle.std.specs.List.{range_with_len, flat_map}
use Rattle.std.proofs.lemmas.Bool.{eqb-false}
use Rattle.std.proofs.lemmas.List.{get_or-set_other, length-set}
use Rattle.cm_model.specs.declared.act.Nano.{Nano}
use Rattle.cm_model.specs.Processor.{Processor, flag, entry}
use Rattle.cm_model.specs.Instruction.{takes_incoming, processor_after}
use Rattle.cm_language.specs.declared.macros.Context.{Context}
use Rattle.cm_language.specs.declared.macros.Context.TheVariants.{Always, On, Off}
use Rattle.cm_language.specs.Effect.{selected}
use Rattle.cm_language.specs.Acts.{nano, cond_of, sense_of}

-- a processor after instructions that take nothing from others
abbrev pub run : List Nano → Processor → Processor
run [] p = p
run (i ∷ is) p = run is (processor_after i false p)

pub run-append : (is js : List Nano) (p : Processor) → run (is ++ js) p ≡ run js (run is p)
run-append [] js p = refl
run-append (i ∷ is) js p = run-append is js (processor_after i false p)

-- ---- a context and a processor

-- the context means the processor
pub record Ready (c : Context) (p : Processor) : Type 0 where
  pub here : selected c p ≡ true
  pub zero_flag : get_or p.flags 8 false ≡ false
  pub long : length p.flags ≡ 16

on_is : (b : Bool) → beq b true ≡ b
on_is true = refl
on_is false = refl

off_is : (b : Bool) → beq b false ≡ not b
off_is true = refl
off_is false = refl

-- the condition of an act is that the context means the processor
pub condition : (c : Context) (p : Processor) → get_or p.flags 8 false ≡ false
    → beq (flag p (cond_of c)) (sense_of c) ≡ selected c p
condition Always p h = ap (λ (b : Bool). beq b false) h
condition (On f) p h = on_is (flag p f)
condition (Off f) p h = off_is (flag p f)

-- a flag that the context does not look at
abbrev pub Free : Context → ℕ → Type 0
Free Always f = Unit {0}
Free (On g) f = eqb g f ≡ false
Free (Off g) f = eqb g f ≡ false

flag_stays : (fs : List Bool) (g f : ℕ) (b : Bool) → eqb g f ≡ false → get_or (set fs f b) g false ≡ get_or fs g false
flag_stays fs g f b h = get_or-set_other fs f g b false (eqb-false g f h)

selected_stays : (c : Context) (m n fs : List Bool) (f : ℕ) (b : Bool) → Free c f
    → selected c (record { memory = n; flags = set fs f b }) ≡ selected c (record { memory = m; flags = fs })
selected_stays Always m n fs f b h = refl
selected_stays (On g) m n fs f b h = flag_stays fs g f b h
selected_stays (Off g) m n fs f b h = ap not (flag_stays fs g f b h)

selected_memory : (c : Context) (m n fs : List Bool)
    → selected c (record { memory = n; flags = fs }) ≡ selected c (record { memory = m; flags = fs })
selected_memory Always m n fs = refl
selected_memory (On g) m n fs = refl
selected_memory (Off g) m n fs = refl

-- it goes on to mean the processor, whatever is written there
pub ready-flag : (c : Context) (n : List Bool) (f : ℕ) (b : Bool) (p : Processor) → Free c f → eqb 8 f ≡ false
    → Ready c p → Ready c (record { memory = n; flags = set p.flags f b })
ready-flag c n f b p free other h = record {
  here = selected_stays c p.memory n p.flags f b free ∙ h.here;
  zero_flag = flag_stays p.flags 8 f b other ∙ h.zero_flag;
  long = length-set p.flags f b ∙ h.long;
}

pub ready-memory : (c : Context) (n : List Bool) (p : Processor) → Ready c p
    → Ready c (record { memory = n; flags = p.flags })
ready-memory c n p h = record
    { here = selected_memory c p.memory n p.flags ∙ h.here; zero_flag = h.zero_flag; long = h.long }

-- ---- one instruction

-- it writes memory alone
pub one_still : (c : Context) (a b r tm tf : ℕ) (p : Processor) → Ready c p
    → processor_after (nano c a b r 8 tm tf) false p
    ≡ record {
      memory = set p.memory
          a (entry tm (get_or p.memory a false) (get_or p.memory b false) (get_or p.flags r false));
      flags = p.flags;
    }
unfolding processor_after
one_still c a b r tm tf p h =
    let met : beq (get_or p.flags (cond_of c) false) (sense_of c) ≡ true = condition c p h.zero_flag ∙ h.here in
    rw met refl

-- it writes memory and a flag
pub one_flag : (c : Context) (a b r w tm tf : ℕ) (p : Processor) → Ready c p → eqb w 8 ≡ false → eqb w 10 ≡ false
    → eqb w 11 ≡ false
    → processor_after (nano c a b r w tm tf) false p
    ≡ record {
      memory = set p.memory a (entry tm (get_or p.memory a false) (get_or p.memory b false) (get_or p.flags r false));
      flags = set p.flags w (entry tf (get_or p.memory a false) (get_or p.memory b false) (get_or p.flags r false));
    }
unfolding processor_after
one_flag c a b r w tm tf p h e8 e10 e11 =
    let met : beq (get_or p.flags (cond_of c) false) (sense_of c) ≡ true = condition c p h.zero_flag ∙ h.here in
    rw (met, e8, e10, e11) refl

-- it does nothing where the context does not mean the processor
pub one_unselected : (c : Context) (a b r w tm tf : ℕ) (p : Processor) → get_or p.flags 8 false ≡ false
    → selected c p ≡ false
    → processor_after (nano c a b r w tm tf) false p ≡ p
unfolding processor_after
one_unselected c a b r w tm tf p z h =
    let met : beq (get_or p.flags (cond_of c) false) (sense_of c) ≡ false = condition c p z ∙ h in
    rw met refl

-- ---- lists of instructions

-- all stand under the context
abbrev pub AllUnder : Context → List Nano → Type 0
AllUnder c [] = Unit {0}
AllUnder c (i ∷ is) = (i.cond ≡ cond_of c) × ((i.sense ≡ sense_of c) × AllUnder c is)

pub run-unselected : (c : Context) (is : List Nano) (p : Processor) → AllUnder c is → get_or p.flags 8 false ≡ false
    → selected c p ≡ false → run is p ≡ p
unfolding processor_after
run-unselected c [] p under z h = refl
run-unselected c (i ∷ is) p under z h =
    let met : beq (get_or p.flags i.cond false) i.sense ≡ false =
    (λ k. beq (get_or p.flags (under.0 k) false) (under.1.0 k)) ∙ (condition c p z ∙ h) in
    let stays : processor_after i false p ≡ p = rw met refl in
    ap (run is) stays ∙ run-unselected c is p under.1.1 z h

pub under-each : (c : Context) (f : ℕ → Nano) → ((i : ℕ) → (f i).cond ≡ cond_of c)
    → ((i : ℕ) → (f i).sense ≡ sense_of c) → (j n : ℕ) → AllUnder c (map f (range_with_len j n))
under-each c f cond sense j zero = tt
under-each c f cond sense j (suc n) = (cond j, (sense j, under-each c f cond sense (j + 1) n))

-- none takes what comes in
abbrev pub AllHome : List Nano → Type 0
AllHome [] = Unit {0}
AllHome (i ∷ is) = (takes_incoming i ≡ false) × AllHome is

pub home-each : (f : ℕ → Nano) → ((i : ℕ) → takes_incoming (f i) ≡ false) → (j n : ℕ)
    → AllHome (map f (range_with_len j n))
home-each f h j zero = tt
home-each f h j (suc n) = (h j, home-each f h (j + 1) n)

pub home-append : (is js : List Nano) → AllHome is → AllHome js → AllHome (is ++ js)
home-append [] js h k = k
home-append (i ∷ is) js h k = (h.0, home-append is js h.1 k)

pub home-flat_map : (f : ℕ → List Nano) → ((i : ℕ) → AllHome (f i)) → (xs : List ℕ) → AllHome (flat_map f xs)
home-flat_map f h [] = tt
home-flat_map f h (x ∷ xs) = home-append (f x) (flat_map f xs) (h x) (home-flat_map f h xs)

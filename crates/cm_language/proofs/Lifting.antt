-- A list of instructions that take nothing from others does to every processor what it does to one.
use Rattle.std.proofs.Common.{◌≡◌, ℕ, ◌<◌, ◌^◌, Bool, false, List, [], ◌∷◌, length, map, refl, ap, ◌∙◌, arith}
use Rattle.cm_model.specs.declared.act.Nano.{Nano}
use Rattle.cm_model.specs.declared.act.Act.TheVariants as act
use Rattle.cm_model.specs.Processor.{Processor}
use Rattle.cm_model.specs.Instruction.{takes_incoming, processor_after}
use Rattle.cm_model.specs.Chip.{each_processor, processor_at, no_processor, chip_after}
use Rattle.cm_model.specs.Array.{Chips, each_chip, chip_at, incoming, after_nano}
use Rattle.cm_model.specs.Machine.{Machine}
use Rattle.cm_model.specs.Buffers.{after_acts}
use Rattle.cm_model.proofs.Each.{same_each_below, get_or-each_below}
use Rattle.cm_language.proofs.Steps.{run, AllHome}

-- every processor by what a function makes of it
unfoldable pub each_place : ℕ → (Processor → Processor) → Chips → Chips
each_place n f chips = each_chip n (λ c. each_processor (λ p. f (processor_at (chip_at chips c) p)))

-- two functions that do the same to each processor
pub same_places : (n : ℕ) (f g : Processor → Processor) (chips : Chips)
    → ((c p : ℕ) → c < 2 ^ n → p < 16 → f (processor_at (chip_at chips c) p) ≡ g (processor_at (chip_at chips c) p))
    → each_place n f chips ≡ each_place n g chips
unfolding each_place
same_places n f g chips same =
    same_each_below [] (2 ^ n) (λ c. each_processor (λ p. f (processor_at (chip_at chips c) p)))
    (λ c. each_processor (λ p. g (processor_at (chip_at chips c) p)))
    (λ c l. same_each_below no_processor
    16 (λ p. f (processor_at (chip_at chips c) p)) (λ p. g (processor_at (chip_at chips c) p)) (λ p k. same c p l k))

-- one after the other
each_place-each_place : (n : ℕ) (f g : Processor → Processor) (chips : Chips)
    → each_place n g (each_place n f chips) ≡ each_place n (λ p. g (f p)) chips
unfolding each_place
each_place-each_place n f g chips =
    let made : ℕ → List Processor = λ c. each_processor (λ p. f (processor_at (chip_at chips c) p)) in
    same_each_below [] (2 ^ n) (λ c. each_processor (λ p. g (processor_at (chip_at (each_chip n made) c) p)))
    (λ c. each_processor (λ p. g (f (processor_at (chip_at chips c) p))))
    (λ c l. same_each_below no_processor
    16 (λ p. g (processor_at (chip_at (each_chip n made) c) p)) (λ p. g (f (processor_at (chip_at chips c) p)))
    (λ p k. ap g (ap (λ chip. processor_at chip p) (get_or-each_below (2 ^ n) made c [] l)
    ∙ get_or-each_below 16 (λ q. f (processor_at (chip_at chips c) q)) p no_processor k)))

-- what comes in does not matter to an instruction that does not take it
nothing_comes_in : (i : Nano) (b : Bool) (p : Processor) → takes_incoming i ≡ false
    → processor_after i b p ≡ processor_after i false p
unfolding processor_after
nothing_comes_in i b p home = rw (home) refl

one_place : (n : ℕ) (i : Nano) (chips : Chips) → takes_incoming i ≡ false
    → after_nano n i chips ≡ each_place n (processor_after i false) chips
unfolding after_nano chip_after each_place
one_place n i chips home =
    same_each_below [] (2 ^ n)
    (λ c. each_processor (λ p. processor_after i (incoming n i chips c p) (processor_at (chip_at chips c) p)))
    (λ c. each_processor (λ p. processor_after i false (processor_at (chip_at chips c) p)))
    (λ c l. same_each_below no_processor
    16 (λ p. processor_after i (incoming n i chips c p) (processor_at (chip_at chips c) p))
    (λ p. processor_after i false (processor_at (chip_at chips c) p))
    (λ p k. nothing_comes_in i (incoming n i chips c p) (processor_at (chip_at chips c) p) home))

-- the machine with other chips
abbrev pub with_chips : Machine → Chips → Machine
with_chips machine chips =
    record machine { chips = chips }

lifted_from : (n cap : ℕ) (i : Nano) (is : List Nano) (machine : Machine) → AllHome (i ∷ is)
    → after_acts n cap machine (map act.Nano (i ∷ is)) ≡ with_chips machine (each_place n (run (i ∷ is)) machine.chips)
lifted_from n cap i [] machine home = λ k. with_chips machine (one_place n i machine.chips home.0 k)
lifted_from n cap i (j ∷ js) machine home =
    lifted_from n cap j js (with_chips machine (after_nano n i machine.chips)) home.1
    ∙ (λ k. with_chips machine
    ((ap (each_place n (run (j ∷ js))) (one_place n i machine.chips home.0)
    ∙ each_place-each_place n (processor_after i false) (run (j ∷ js)) machine.chips) k))

pub lifted : (n cap : ℕ) (is : List Nano) (machine : Machine) → 0 < length is → AllHome is
    → after_acts n cap machine (map act.Nano is) ≡ with_chips machine (each_place n (run is) machine.chips)
lifted n cap [] machine some home = absurd (omega (arith, some))
lifted n cap (i ∷ is) machine some home = lifted_from n cap i is machine home

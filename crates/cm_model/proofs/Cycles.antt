-- The steps of a petit cycle, and the acts of a run, one after another, with the count of petit cycles.
use Rattle.std.proofs.Common.{◌≡◌, ℕ, zero, suc, ◌+◌, ◌≤◌, List, [], ◌∷◌, ◌++◌, map, refl, ap, ◌∙◌, arith}
use Rattle.std.proofs.lemmas.List.{map-append}
use Rattle.std.specs.List.{range_with_len}
use Rattle.cm_model.specs.declared.act.Act.{Act}
use Rattle.cm_model.specs.declared.act.Act.TheVariants as act
use Rattle.cm_model.specs.Steps.{Cross, Deliver}
use Rattle.cm_model.specs.Machine.{Machine}
use Rattle.cm_model.specs.Buffers.{machine_after_injection, machine_after_dimension, machine_after_delivery}
use Rattle.cm_model.specs.Buffers.{after_steps, after_act}
use Rattle.cm_model.proofs.Runs.{after_steps-append}

-- one number more
pub range-more : (first count : ℕ)
    → range_with_len first (count + 1) ≡ range_with_len first count ++ (first + count) ∷ []
range-more first zero = ap (λ (j : ℕ). j ∷ []) (omega arith)
range-more first (suc count) =
    let more : suc count + 1 ≡ suc (count + 1) = omega arith in
    let last : first + 1 + count ≡ first + suc count = omega arith in
    ap (range_with_len first) more
    ∙ ap (λ z. first ∷ z) (range-more (first + 1) count ∙ ap (λ j. range_with_len (first + 1) count ++ j ∷ []) last)

-- the machine after so many dimensions are crossed, from the lowest on
abbrev pub after_crossings : ℕ → ℕ → Machine → ℕ → Machine
after_crossings n cap machine count = after_steps n cap machine (map Cross (range_with_len 0 count))

-- one dimension more
pub after_crossings-more : (n cap : ℕ) (machine : Machine) (d : ℕ)
    → after_crossings n cap machine (d + 1) ≡ machine_after_dimension n cap d (after_crossings n cap machine d)
after_crossings-more n cap machine d =
    let last : 0 + d ≡ d = omega arith in
    ap (λ (ds : List ℕ). after_steps n cap machine (map Cross ds)) (range-more 0 d
    ∙ ap (λ (k : ℕ). range_with_len 0 d ++ k ∷ []) last)
    ∙ (ap (after_steps n cap machine) (map-append Cross (range_with_len 0 d) (d ∷ []))
    ∙ after_steps-append n cap machine (map Cross (range_with_len 0 d)) (Cross d ∷ []))

-- a petit cycle is done after delivery
pub after_cycle-is : (n cap : ℕ) (machine : Machine)
    → after_act n cap machine act.Cycle ≡ machine_after_delivery n
    (after_crossings n cap (machine_after_injection n cap machine) n)
after_cycle-is n cap machine =
    after_steps-append n cap (machine_after_injection n cap machine) (map Cross (range_with_len 0 n)) (Deliver ∷ [])

-- only delivery counts a petit cycle
clock-machine_after_injection : (n cap : ℕ) (machine : Machine)
    → (machine_after_injection n cap machine).clock ≡ machine.clock
unfolding machine_after_injection
clock-machine_after_injection n cap machine = refl

clock-machine_after_dimension : (n cap d : ℕ) (machine : Machine)
    → (machine_after_dimension n cap d machine).clock ≡ machine.clock
unfolding machine_after_dimension
clock-machine_after_dimension n cap d machine = refl

clock-machine_after_delivery : (n : ℕ) (machine : Machine)
    → (machine_after_delivery n machine).clock ≡ machine.clock + 1
unfolding machine_after_delivery
clock-machine_after_delivery n machine = refl

clock-after_crossings : (n cap : ℕ) (machine : Machine) (ds : List ℕ)
    → (after_steps n cap machine (map Cross ds)).clock ≡ machine.clock
clock-after_crossings n cap machine [] = refl
clock-after_crossings n cap machine (d ∷ ds) =
    clock-after_crossings n cap (machine_after_dimension n cap d machine) ds
    ∙ clock-machine_after_dimension n cap d machine

-- the count of petit cycles before delivery
pub clock_in_cycle : (n cap : ℕ) (machine : Machine) (d : ℕ)
    → (after_crossings n cap (machine_after_injection n cap machine) d).clock ≡ machine.clock
clock_in_cycle n cap machine d =
    clock-after_crossings n cap (machine_after_injection n cap machine) (range_with_len 0 d)
    ∙ clock-machine_after_injection n cap machine

-- an act is one petit cycle at most
pub clock-after_act : (n cap : ℕ) (machine : Machine) (a : Act) → (after_act n cap machine a).clock ≤ machine.clock + 1
clock-after_act n cap machine (act.Nano nano) = omega arith
clock-after_act n cap machine act.Sense = omega arith
clock-after_act n cap machine act.Cycle =
    let counted : (after_act n cap machine act.Cycle).clock ≡ machine.clock + 1 =
    ap (λ (m : Machine). m.clock) (after_cycle-is n cap machine)
    ∙ (clock-machine_after_delivery n (after_crossings n cap (machine_after_injection n cap machine) n)
    ∙ ap (λ (k : ℕ). k + 1) (clock_in_cycle n cap machine n)) in
    omega arith

-- no step of a petit cycle changes how the machine routes
routing-after_injection : (n cap : ℕ) (machine : Machine)
    → (machine_after_injection n cap machine).routing ≡ machine.routing
unfolding machine_after_injection
routing-after_injection n cap machine = refl

routing-after_dimension : (n cap d : ℕ) (machine : Machine)
    → (machine_after_dimension n cap d machine).routing ≡ machine.routing
unfolding machine_after_dimension
routing-after_dimension n cap d machine = refl

routing-after_crossings : (n cap : ℕ) (machine : Machine) (ds : List ℕ)
    → (after_steps n cap machine (map Cross ds)).routing ≡ machine.routing
routing-after_crossings n cap machine [] = refl
routing-after_crossings n cap machine (d ∷ ds) =
    routing-after_crossings n cap (machine_after_dimension n cap d machine) ds
    ∙ routing-after_dimension n cap d machine

-- how a machine routes, in the midst of a petit cycle
pub routing_in_cycle : (n cap : ℕ) (machine : Machine) (d : ℕ)
    → (after_crossings n cap (machine_after_injection n cap machine) d).routing ≡ machine.routing
routing_in_cycle n cap machine d =
    routing-after_crossings n cap (machine_after_injection n cap machine) (range_with_len 0 d)
    ∙ routing-after_injection n cap machine

-- Lists of acts: how many petit cycles they have, and how many acts and petit cycles a runner takes. Ours.
use Rattle.std.specs.Prelude.{ℕ, ◌+◌, ◌^◌, Bool, false, true, ◌||◌, nat_le, nat_lt, List, length}
use Rattle.std.specs.List.{count_by}
use Rattle.cm_model.specs.declared.act.Act.{Act}
use Rattle.cm_model.specs.declared.act.Act.TheVariants.{Nano, Sense, Cycle}

-- the act is a petit cycle
abbrev pub is_cycle : Act → Bool
is_cycle (Nano nano) = false
is_cycle Sense = false
is_cycle Cycle = true

-- the act is an instruction
abbrev pub is_instruction : Act → Bool
is_instruction (Nano nano) = true
is_instruction Sense = false
is_instruction Cycle = false

-- how many of the acts are petit cycles
abbrev pub cycles_in : List Act → ℕ
cycles_in acts = count_by is_cycle acts

-- more acts than a runner takes at once, or more petit cycles among them
abbrev pub is_long : List Act → Bool
is_long acts = nat_lt 4096 (length acts) || nat_lt 64 (cycles_in acts)

-- after so many petit cycles, those of the acts would take the count past 2 ^ 63 - 1
abbrev pub is_late : ℕ → List Act → Bool
is_late clock acts = nat_le (2 ^ 63) (clock + cycles_in acts)

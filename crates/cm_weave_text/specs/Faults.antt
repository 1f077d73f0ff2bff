-- What is reported of a session of steps that ends otherwise than finished: ours.
use Rattle.std.specs.Prelude.{ℕ}
use Rattle.cm_weave_text.specs.declared.fault.WeaveFault.{WeaveFault}
use Rattle.cm_weave_text.specs.declared.fault.WeaveFault.TheVariants.{Read, Write, TooMuch, Memory, Unfinished}

-- the number of a fault
abbrev pub weave_fault_number : WeaveFault → ℕ
weave_fault_number Read = 30
weave_fault_number (Write count) = 31
weave_fault_number TooMuch = 32
weave_fault_number Memory = 33
weave_fault_number Unfinished = 35

-- What is reported of a session that ends before its commands do: ours.
use Rattle.std.specs.Prelude.{ℕ}
use Rattle.cm_session.specs.declared.fault.SessionFault.{SessionFault}
use Rattle.cm_session.specs.declared.fault.SessionFault.TheVariants.{Read, Write, TooMuch, Memory, NoThread}

-- the number of a fault
abbrev pub fault_number : SessionFault → ℕ
fault_number Read = 30
fault_number (Write count) = 31
fault_number TooMuch = 32
fault_number Memory = 33
fault_number NoThread = 9

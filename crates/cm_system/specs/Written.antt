-- What goes into a file: ours.
use Rattle.std.specs.Prelude.{Bool, true, false, Result, Ok, Err}
use Rattle.cm_system.specs.declared.system.PutFault.{PutFault}
use Rattle.cm_system.specs.declared.system.PutFault.TheVariants.{Write, Memory}

-- whether a write failed
abbrev pub is_put_write : Result (Unit {0}) PutFault → Bool
is_put_write (Ok done) = false
is_put_write (Err Write) = true
is_put_write (Err Memory) = false

-- What came of taking a source to its end.
use Rattle.std.proofs.Common.{◌≤◌, ℕ, Result, Ok, Err, Vec, length, refl}
use Rattle.std.specs.Prelude.{IfOk, OnOk, IsErrOf}
use Rattle.std.specs.declared.alloc.Global.{Global}
use Rattle.std.specs.Io.KnownBytes.{Consumes, IsAtEnd}
use Rattle.cm_system.specs.declared.read_all.TakeFault.{TakeFault}
use Rattle.cm_system.specs.declared.read_all.TakeFault.TheVariants.{Read, TooMuch, Memory}
use Rattle.cm_system.specs.ReadAll.{ConsumesAtMost, ConsumesBeyond}
use Rattle.cm_system.specs.InputFiles.{Reads, IsTakenTo}

pub taken_to : {F : Type 0} (reads : Reads F) (limit : ℕ) (file after : F) (taken : Result (Vec ℕ Global) TakeFault)
    → IfOk taken (λ bytes. length bytes.items ≤ limit)
    → IfOk taken (λ bytes. Consumes (reads.left file) (reads.left after) bytes.items)
    → OnOk taken (IsAtEnd (reads.left after))
    → (IsErrOf taken Read → ConsumesAtMost limit (reads.left file) (reads.left after))
    → (IsErrOf taken Memory → ConsumesAtMost limit (reads.left file) (reads.left after))
    → (IsErrOf taken TooMuch → ConsumesBeyond limit (reads.left file) (reads.left after))
    → IsTakenTo reads limit file after taken
taken_to reads limit file after (Ok bytes) within came end read memory much = (within, came, end)
taken_to reads limit file after (Err Read) within came end read memory much = read refl
taken_to reads limit file after (Err TooMuch) within came end read memory much = much refl
taken_to reads limit file after (Err Memory) within came end read memory much = memory refl

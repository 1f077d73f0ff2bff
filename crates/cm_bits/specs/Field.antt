-- Memory fields: runs of 1 to 64 memory bits of each processor, below bit 4096: ours.
use Rattle.std.specs.Prelude.{ℕ, ◌+◌, ◌<◌, ◌≤◌, ◌==◌, ◌&&◌, ◌||◌, nat_lt, nat_le, if◌then◌else◌, Option, Some, None}
use Rattle.cm_bits.specs.declared.field.FieldFault.{FieldFault}
use Rattle.cm_bits.specs.declared.field.FieldFault.TheVariants.{Width, Range}
use Rattle.cm_bits.specs.declared.field.Meets.{Meets}
use Rattle.cm_bits.specs.declared.field.Meets.TheVariants.{Same, Apart, Partly}
use Rattle.cm_bits.specs.Span.{Span}

-- the memory bit of this address is one of the field's
pub record IsIn (field : Span) (address : ℕ) : Type 0 where
  pub from : field.at ≤ address
  pub below : address < field.at + field.len

-- why a field of this address and length is refused, if it is: the length is judged first
abbrev pub field_fault : ℕ → ℕ → Option FieldFault
field_fault at len =
    if len == 0 || nat_lt 64 len then Some Width else (if nat_lt 4096 (at + len) then Some Range else None)

-- how two fields meet: equal, with no bit in common, or the rest
abbrev pub meeting : Span → Span → Meets
meeting a b =
    if a.at == b.at && a.len == b.len then Same
    else (if nat_le (a.at + a.len) b.at || nat_le (b.at + b.len) a.at then Apart else Partly)

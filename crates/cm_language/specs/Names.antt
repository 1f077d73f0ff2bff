-- Names of fields, and the fields that a text has defined so far: ours.
use Rattle.std.specs.Prelude.{ℕ, ◌&&◌, ◌||◌, ◌==◌, Bool, false, Option, Some, None, List, [], ◌∷◌, bytes_eq}
use Rattle.std.specs.Prelude.{if◌then◌else◌}
use Rattle.std.specs.List.{list_all}
use Rattle.std.specs.Char.{is_ascii_alphabetic, is_ascii_alphanumeric}
use Rattle.cm_bits.specs.Span.{Span}

-- a field and the name that a text gave it
pub record NamedField : Type 0 where
  pub name : List ℕ
  pub field : Span

-- a field under a name
abbrev pub named : List ℕ → Span → NamedField
named name field = record { name = name; field = field }

-- a letter, digit or `_`
abbrev pub is_name_byte : ℕ → Bool
is_name_byte byte = is_ascii_alphanumeric byte || byte == 95

-- a letter, and then letters, digits and `_`
abbrev pub is_name : List ℕ → Bool
is_name [] = false
is_name (byte ∷ bytes) = is_ascii_alphabetic byte && list_all is_name_byte bytes

-- the field of a name
abbrev pub field_named : List NamedField → List ℕ → Option Span
field_named [] name = None
field_named (defined ∷ fields) name = if bytes_eq name defined.name then Some defined.field else field_named fields name

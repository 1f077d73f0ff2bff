-- The command of a line of a session, by its words: ours.
use Rattle.std.specs.Prelude.{ℕ, ◌^◌, if◌then◌else◌, Option, Some, None, Result, Ok, Err}
use Rattle.std.specs.Prelude.{List, [], ◌∷◌, codes, bytes_eq}
use Rattle.cm_bits.specs.Field.{field_fault}
use Rattle.cm_session.specs.declared.command.Command.{Command}
use Rattle.cm_session.specs.declared.command.Command.TheVariants as command
use Rattle.cm_session.specs.declared.command.Refusal.{Refusal}
use Rattle.cm_session.specs.declared.command.Refusal.TheVariants.{Word, Operands}
use Rattle.cm_session.specs.Operands.{◌>>=◌, number_in_word, three_numbers, four_numbers, below_limit, one_bit, place}
use Rattle.cm_session.specs.Operands.{command_field_unless, pokeable}

-- ---- by the words after the first, or by the numbers that these write

-- no operand
abbrev pub command_alone : Command → List (List ℕ) → Result Command Refusal
command_alone asked [] = Ok asked
command_alone asked (word ∷ words) = Err Operands

-- the index of one of so many acts
abbrev pub index_of : ℕ → List (List ℕ) → Result ℕ Refusal
index_of count (i ∷ []) = number_in_word i >>= λ i'. below_limit count i'
index_of count _ = Err Operands

-- on, off or show
abbrev pub wire_operand : List (List ℕ) → Result Command Refusal
wire_operand (word ∷ []) =
    if bytes_eq word (codes "on") then Ok command.WireOn
    else (if bytes_eq word (codes "off") then Ok command.WireOff
    else (if bytes_eq word (codes "show") then Ok command.WireShow
    else Err Operands))
wire_operand _ = Err Operands

-- chip, processor, address and length of a field
abbrev pub field_at : ℕ → ℕ × ℕ × ℕ × ℕ → Result Command Refusal
field_at n (c, p, a, l) =
    place n c p >>= λ there. command_field_unless a l (field_fault a l) >>= λ bits. Ok (command.Field there bits)

-- the same by words
abbrev pub field_operands : ℕ → List (List ℕ) → Result Command Refusal
field_operands n operands = four_numbers operands >>= field_at n

-- chip, processor, flag
abbrev pub flag_at : ℕ → ℕ × ℕ × ℕ → Result Command Refusal
flag_at n (c, p, f) = place n c p >>= λ there. below_limit 16 f >>= λ flag. Ok (command.Flag there flag)

-- the same by words
abbrev pub flag_operands : ℕ → List (List ℕ) → Result Command Refusal
flag_operands n operands = three_numbers operands >>= flag_at n

-- chip, processor, address, bit
abbrev pub poke_at : ℕ → ℕ × ℕ × ℕ × ℕ → Result Command Refusal
poke_at n (c, p, a, b) =
    place n c p >>= λ there. below_limit 4096 a >>= λ address. one_bit b >>= λ bit. Ok (command.Poke there address bit)

-- the same by words
abbrev pub poke_operands : ℕ → List (List ℕ) → Result Command Refusal
poke_operands n operands = four_numbers operands >>= poke_at n

-- chip, processor, flag, bit: that the flag cannot be poked is judged last
abbrev pub poke_flag_at : ℕ → ℕ × ℕ × ℕ × ℕ → Result Command Refusal
poke_flag_at n (c, p, f, b) =
    place n c p >>= λ there. below_limit 16 f >>= λ flag. one_bit b >>= λ bit. pokeable flag >>= λ poked.
    Ok (command.PokeFlag there poked bit)

-- the same by words
abbrev pub poke_flag_operands : ℕ → List (List ℕ) → Result Command Refusal
poke_flag_operands n operands = four_numbers operands >>= poke_flag_at n

-- chip and processor that sent a message, and its birth, which is any number
abbrev pub find_by : ℕ → ℕ × ℕ × ℕ → Result Command Refusal
find_by n (c, p, b) =
    place n c p >>= λ origin. Ok (command.Find (record { chip = origin.chip; proc = origin.proc; birth = b }))

-- the same by words
abbrev pub find_operands : ℕ → List (List ℕ) → Result Command Refusal
find_operands n operands = three_numbers operands >>= find_by n

-- a chip
abbrev pub chip_operand : ℕ → List (List ℕ) → Result ℕ Refusal
chip_operand n (c ∷ []) = number_in_word c >>= λ c'. below_limit (2 ^ n) c'
chip_operand n _ = Err Operands

-- ---- a line

-- what a first word and its operands ask for, where the first operand is a chip of a cube of n dimensions
abbrev pub command_at_chip : ℕ → List ℕ → List (List ℕ) → Result Command Refusal
command_at_chip n name operands =
    if bytes_eq name (codes "field") then field_operands n operands
    else (if bytes_eq name (codes "flag") then flag_operands n operands
    else (if bytes_eq name (codes "poke") then poke_operands n operands
    else (if bytes_eq name (codes "pokeflag") then poke_flag_operands n operands
    else (if bytes_eq name (codes "buf") then (chip_operand n operands >>= λ c. Ok (command.Buffer c))
    else (if bytes_eq name (codes "find") then find_operands n operands
    else (if bytes_eq name (codes "events") then (chip_operand n operands >>= λ c. Ok (command.Events c))
    else Err Word))))))

-- what a first word and its operands ask for, on a cube of n dimensions with a program of so many acts
abbrev pub command_named : ℕ → ℕ → List ℕ → List (List ℕ) → Result Command Refusal
command_named n count name operands =
    if bytes_eq name (codes "step") then command_alone command.Step operands
    else (if bytes_eq name (codes "run") then command_alone command.Run operands
    else (if bytes_eq name (codes "break") then (index_of count operands >>= λ i. Ok (command.Break i))
    else (if bytes_eq name (codes "clear") then (index_of count operands >>= λ i. Ok (command.Clear i))
    else (if bytes_eq name (codes "wire") then wire_operand operands
    else (if bytes_eq name (codes "rule") then command_alone command.Rule operands
    else command_at_chip n name operands)))))

-- the command of the words of a line, none where there are no words
abbrev pub command_of : ℕ → ℕ → List (List ℕ) → Result (Option Command) Refusal
command_of n count [] = Ok None
command_of n count (name ∷ operands) = command_named n count name operands >>= λ asked. Ok (Some asked)

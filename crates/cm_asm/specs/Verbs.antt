-- What a first word asks for, by the kind of its operands: ours.
use Rattle.std.specs.Prelude.{ℕ, List, Option, Some, None, bytes_eq, codes, if◌then◌else◌}
use Rattle.cm_language.specs.declared.statement.Verb.{Verb}
use Rattle.cm_language.specs.declared.statement.Verb.TheVariants as verb

-- of words without operands
abbrev pub lone_verb_of : List ℕ → Option Verb
lone_verb_of word =
    if bytes_eq word (codes "always") then Some verb.Always
    else (if bytes_eq word (codes "cycle") then Some verb.Cycle
    else (if bytes_eq word (codes "sense") then Some verb.Sense
    else None))

-- of these, and of words before a flag
abbrev pub flag_verb_of : List ℕ → Option Verb
flag_verb_of word =
    if bytes_eq word (codes "set") then Some verb.Set
    else (if bytes_eq word (codes "clear") then Some verb.Clear
    else (if bytes_eq word (codes "if") then Some verb.If
    else (if bytes_eq word (codes "unless") then Some verb.Unless
    else lone_verb_of word)))

-- of these, and of words before fields, but not two alone
abbrev pub field_verb_of : List ℕ → Option Verb
field_verb_of word =
    if bytes_eq word (codes "select") then Some verb.Select
    else (if bytes_eq word (codes "const") then Some verb.Const
    else (if bytes_eq word (codes "shift") then Some verb.Shift
    else (if bytes_eq word (codes "mul") then Some verb.Mul
    else flag_verb_of word)))

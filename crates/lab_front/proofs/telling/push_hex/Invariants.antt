use Rattle.std.proofs.Common.{◌≡◌, ◌++◌, drop, length}
use Rattle.lab_front.specs.Telling.{hex_text}
use Rattle.lab_front.proofs.telling.push_hex.Given as goal

-- so many bytes are written, and the others are left
abbrev pub invariant-loop-i : goal.invariant-loop-i
invariant-loop-i l = l.fn.text.items ++ hex_text (length l.bytes) 0 l.bytes
    ≡ l.text.items ++ hex_text (length l.bytes) l.i (drop l.i l.bytes)

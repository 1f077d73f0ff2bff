-- What the operands of a command are of: a cube of n dimensions, and a program of so many acts. Ours.
use Rattle.std.specs.Prelude.{◌≢◌, ℕ, ◌<◌, ◌^◌}
use Rattle.cm_model.specs.Processor.{ZERO}
use Rattle.cm_session.specs.declared.command.Command.{Command}
use Rattle.cm_session.specs.declared.command.Command.TheVariants as command

-- chips are below 2 ^ n, indices below the number of acts, and flag 8 is not poked
abbrev pub IsFor : ℕ → ℕ → Command → Type 0
IsFor n count command.Step = Unit {0}
IsFor n count command.Run = Unit {0}
IsFor n count (command.Break i) = i < count
IsFor n count (command.Clear i) = i < count
IsFor n count command.WireOn = Unit {0}
IsFor n count command.WireOff = Unit {0}
IsFor n count command.WireShow = Unit {0}
IsFor n count (command.Field place bits) = place.chip < 2 ^ n
IsFor n count (command.Flag place number) = place.chip < 2 ^ n
IsFor n count (command.Poke place address b) = place.chip < 2 ^ n
IsFor n count (command.PokeFlag place number b) = (place.chip < 2 ^ n) × (number ≢ ZERO)
IsFor n count (command.Buffer c) = c < 2 ^ n
IsFor n count (command.Find tag) = tag.chip < 2 ^ n
IsFor n count (command.Events c) = c < 2 ^ n
IsFor n count command.Rule = Unit {0}

-- What a line asks for, and what is wanting where it is not answered. Ours.
use Rattle.std.specs.Prelude.{Bool, true, false, Option, Some, None, Result, Ok, Err}
use Rattle.cm_session.specs.declared.command.Command.{Command}
use Rattle.cm_session.specs.declared.command.Command.TheVariants as command
use Rattle.cm_session.specs.declared.command.Refusal.{Refusal}
use Rattle.cm_debug.specs.declared.out_of.OutOf.{OutOf}
use Rattle.cm_debug.specs.declared.out_of.OutOf.TheVariants as want

-- a thread is wanting
abbrev pub is_thread : OutOf → Bool
is_thread want.Memory = false
is_thread want.Thread = true

-- the command runs acts
abbrev pub runs_acts : Command → Bool
runs_acts command.Step = true
runs_acts command.Run = true
runs_acts _ = false

-- the command asks for something, and leaves all as it is
abbrev pub only_asks : Command → Bool
only_asks command.WireShow = true
only_asks (command.Field place bits) = true
only_asks (command.Flag place number) = true
only_asks (command.Buffer c) = true
only_asks (command.Find tag) = true
only_asks (command.Events c) = true
only_asks command.Rule = true
only_asks _ = false

-- a line asks for a command that does
abbrev pub asks_for_acts : Result (Option Command) Refusal → Bool
asks_for_acts (Ok (Some asked)) = runs_acts asked
asks_for_acts (Ok None) = false
asks_for_acts (Err refusal) = false

-- a line asks for acts that may be many
abbrev pub asks_to_run : Result (Option Command) Refusal → Bool
asks_to_run (Ok (Some command.Run)) = true
asks_to_run _ = false

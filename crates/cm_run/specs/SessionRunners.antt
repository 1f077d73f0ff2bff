-- How a session goes on a machine that is lent to it, from standard input to standard output. Ours.
use Rattle.std.specs.Prelude.{◌≡◌, ◌+◌, ◌↔◌, true, IfSome, IsErrOf, Result, List}
use Rattle.cm_model.specs.declared.act.Act.{Act}
use Rattle.cm_session.specs.declared.fault.SessionFault.{SessionFault}
use Rattle.cm_session.specs.declared.fault.SessionFault.TheVariants as session
use Rattle.cm_session.specs.Reading.{ConsumesAtMost, PIECE_LIMIT}
use Rattle.cm_session.specs.Ends.{COMMANDS_LIMIT, Ends, EndsForSome, is_write}
use Rattle.cm_array.specs.Sizes.{SizedMachine}
use Rattle.cm_system.specs.Streams.{Streams}

-- it began on the one machine, ended so, and left the other, which has the same sizes
pub record Goes (from to : SizedMachine) (acts : List Act) (streams : Streams) (result : Result (Unit {0}) SessionFault)
    : Type 0 where
  pub n : to.n ≡ from.n
  pub cap : to.cap ≡ from.cap
  pub ends : IfSome streams.lines (λ lines. Ends from.n from.cap acts lines streams.rest from.machine streams.out_before
      to.machine streams.out_after result)
  pub heard : EndsForSome from.n from.cap acts streams.lines streams.rest from.machine streams.out_before to.machine
      streams.out_after result
  pub within : ConsumesAtMost (COMMANDS_LIMIT + PIECE_LIMIT) streams.lines streams.rest
  pub read : (streams.read_failed ≡ true) ↔ IsErrOf result session.Read
  pub write : streams.write_failed ≡ is_write result

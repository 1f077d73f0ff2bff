use Rattle.cm_whole.proofs.Whole.{as_written}
use Rattle.cm_whole.proofs.laws.sessions_are_as_written.Goals as goal

pub returns : goal.returns
returns c =
    as_written c.only_texts_are_read.ensures c.macros_stand_in_their_program.ensures c.lines_can_be_parted.ensures
    c.lines_run_their_acts.ensures c.sessions_keep_machines.ensures c.sessions_do_macros.ensures
    c.sessions_keep_messages.ensures c.sessions_deliver.ensures

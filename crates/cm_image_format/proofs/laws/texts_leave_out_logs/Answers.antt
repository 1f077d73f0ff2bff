use Rattle.cm_image_format.proofs.Unlogging.{texts_leave_out_logs}
use Rattle.cm_image_format.proofs.laws.texts_leave_out_logs.Goals as goal

pub returns : goal.returns
returns c = texts_leave_out_logs

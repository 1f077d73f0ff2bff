use Rattle.std.proofs.Common.{sym}
use Rattle.std.proofs.lemmas.Result.{IfOk-at_ok}
use Rattle.cm_bits.specs.Text.{words_left}
use Rattle.cm_session.specs.Bounds.{IsFor}
use Rattle.cm_session.proofs.Bounded.{named_is_for}
use Rattle.cm_debug.proofs.reader.read_command.Goals as goal

pub returns-clause-inside : goal.returns-clause-inside
returns-clause-inside c =
    IfOk-at_ok (IsFor c.args.dimensions c.args.count) (sym c.in_ok-command.ensures.value)
    (named_is_for c.args.dimensions c.args.count c.in-Some.name.now (words_left c.next.new.self))

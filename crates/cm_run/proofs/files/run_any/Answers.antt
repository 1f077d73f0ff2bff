use Rattle.std.proofs.Common.{Result, Ok, Err, subst}
use Rattle.std.specs.Option.{is_some}
use Rattle.std.specs.Prelude.{IsErrOf}
use Rattle.cm_session.specs.declared.fault.SessionFault.{SessionFault}
use Rattle.cm_session.specs.declared.fault.SessionFault.TheVariants as session
use Rattle.cm_system.specs.Streams.{Streams, streams}
use Rattle.cm_system.proofs.Leading.{did_so}
use Rattle.cm_run.specs.SessionRunners.{Goes}
use Rattle.cm_run.proofs.Sessions.{kept_without}
use Rattle.cm_run.proofs.Going.{left_so, off_so, wants_thread}
use Rattle.cm_run.proofs.files.run_any.Goals as goal

pub returns-in-Ok : goal.returns-in-Ok
returns-in-Ok g c =
    let went = c.go-left in
    let told : Streams =
    streams (g.I.Source.left c.args.commands.now) (g.I.Source.left went.new.commands)
    (g.O.Sink.contents c.args.answers.now) (g.O.Sink.contents went.new.out)
    (g.I.Source.has_failed went.new.commands) (g.O.Sink.has_failed went.new.out) in
    let goes : Goes c.args.machine went.result.0 c.args.program.now.acts told (Ok tt) =
    subst (λ (r : Result (Unit {0}) SessionFault). Goes c.args.machine went.result.0 c.args.program.now.acts told r)
    c.in-Ok.is went.ensures.goes in
    record {
      does = did_so c.close_any.ensures.value (λ trace left. record {
        ran = left.kept;
        session = left_so c.args.machine went.result.0 c.args.program.now.acts told (is_some c.args.part) left.kept goes
            left.is;
        threads = kept_without went.result.0.n went.result.0.cap went.result.0.machine (is_some c.args.part) left.kept
            left.is;
        closes = left.closes;
      });
    }

pub returns-in-Err : goal.returns-in-Err
returns-in-Err g c =
    let went = c.go-left in
    let told : Streams =
    streams (g.I.Source.left c.args.commands.now) (g.I.Source.left went.new.commands)
    (g.O.Sink.contents c.args.answers.now) (g.O.Sink.contents went.new.out)
    (g.I.Source.has_failed went.new.commands) (g.O.Sink.has_failed went.new.out) in
    let goes : Goes c.args.machine went.result.0 c.args.program.now.acts told (Err c.in-Err.fault) =
    subst (λ (r : Result (Unit {0}) SessionFault). Goes c.args.machine went.result.0 c.args.program.now.acts told r)
    c.in-Err.is went.ensures.goes in
    record {
      does = did_so c.abort_files.ensures.value (λ trace broke. record {
        ran = Err c.from.result;
        session = off_so c.args.machine went.result.0 c.args.program.now.acts told (is_some c.args.part) c.in-Err.fault
            c.from.result c.from.ensures goes;
        threads = wants_thread c.in-Err.fault c.from.result c.from.ensures
            (subst (λ (r : Result (Unit {0}) SessionFault). IsErrOf r session.NoThread → g.R.SessionRunner.may_want c.args.runner)
            c.in-Err.is went.ensures.threads);
        closes = broke;
      });
    }

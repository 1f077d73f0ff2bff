use Rattle.cm_system.proofs.Leading.{did_so}
use Rattle.cm_cli.proofs.performing.perform.Goals as goal

pub returns : goal.returns
returns g c = record {
  performs = did_so c.do_words-ended.ensures.does (λ trace does. record {
    result = c.do_words-ended.result;
    does = does;
    tells = c.tell.ensures.value;
  });
}

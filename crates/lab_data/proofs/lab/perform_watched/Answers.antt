use Rattle.std.proofs.Common.{◌≡◌, ◌≢◌, Ok, Err, ◌∙◌}
use Rattle.lab_data.specs.declared.lab.LabFault.TheVariants.{Memory}
use Rattle.lab_data.specs.Lab.{work_on, done_with}
use Rattle.lab_data.proofs.Doing.{where_ok, where_err, opened_so, refused_so}
use Rattle.lab_data.proofs.lab.perform_watched.Goals as goal

pub returns-in-Err-clause-refused : goal.returns-in-Err-clause-refused
returns-in-Err-clause-refused g c =
    refused_so c.args.task c.args.given.now c.args.image.now c.in-Err.fault c.of_open.result c.in-Err.ensures.refused
    c.of_open.ensures.memory c.of_open.ensures.other

pub returns-in-Ok-clause-value : goal.returns-in-Ok-clause-value
returns-in-Ok-clause-value g c =
    where_ok (λ text. work_on c.args.task c.args.given.now c.in-Ok.machine ≡ Ok text.items)
    (λ text. done_with c.args.task c.args.given.now c.args.image.now ≡ Ok text.items) c.work_on.result
    (λ text done. opened_so c.args.task c.args.given.now c.args.image.now c.in-Ok.machine c.in-Ok.ensures.value
    ∙ done)
    c.work_on.ensures.value

pub returns-in-Ok-clause-refused : goal.returns-in-Ok-clause-refused
returns-in-Ok-clause-refused g c =
    where_err (λ fault. fault ≢ Memory → work_on c.args.task c.args.given.now c.in-Ok.machine ≡ Err fault)
    (λ fault. fault ≢ Memory → done_with c.args.task c.args.given.now c.args.image.now ≡ Err fault) c.work_on.result
    (λ fault told other. opened_so c.args.task c.args.given.now c.args.image.now c.in-Ok.machine
    c.in-Ok.ensures.value ∙ told other)
    c.work_on.ensures.refused

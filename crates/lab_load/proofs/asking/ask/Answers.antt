use Rattle.std.proofs.Common.{◌≡◌, ◌∙◌, ◌/◌, ◌%◌, bit_xor, set}
use Rattle.cm_model.specs.Array.{chip_at}
use Rattle.lab_load.specs.Asking.{chip_asking, chips_asking}
use Rattle.lab_load.proofs.Poking.{as_many}
use Rattle.lab_load.proofs.asking.ask.Goals as goal

pub returns : goal.returns
returns c =
    let run = c.args.run.now in
    let chip : c.chip_of-chip.result ≡ c.args.place / 16 = c.chip_of-chip.ensures.value in
    let far : c.chip_of-far.result ≡ c.args.to / 16 = c.chip_of-far.ensures.value in
    let proc : c.proc_of-proc.result ≡ c.args.place % 16 = c.proc_of-proc.ensures.value in
    let value : c.write_record.new.run ≡ chips_asking c.args.place c.args.to c.args.payload run =
    c.write_record.ensures.value
    ∙ (λ i. set run (chip i) (chip_asking (proc i) (bit_xor (chip i) (far i)) (c.args.to % 16) c.args.payload
    (chip_at run (chip i)))) in
    record { value = value; chips = as_many run c.write_record.new.run _ _ value }

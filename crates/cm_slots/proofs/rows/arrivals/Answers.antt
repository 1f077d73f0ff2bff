use Rattle.std.proofs.Common.{take, ◌≡◌, arith}
use Rattle.std.proofs.lemmas.List.{take_all}
use Rattle.cm_slots.proofs.Lanes.{arrivals_found}
use Rattle.cm_slots.proofs.rows.arrivals.Goals as goal

pub returns : goal.returns
returns c =
    let all : take 64 c.args.row.now ≡ c.args.row.now = take_all 64 c.args.row.now (omega (arith, c.requires.long)) in
    record { value = λ i inside. rw all (arrivals_found c.args.row.now c.requires.long i inside) }

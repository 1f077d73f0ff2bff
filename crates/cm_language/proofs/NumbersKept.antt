-- What is put into a field is what it reads.
use Rattle.std.proofs.Common.{◌+◌, ◌≤◌, length, arith}
use Rattle.cm_model.specs.Processor.{field_value}
use Rattle.cm_model.proofs.Receiving.{value-with_field}
use Rattle.cm_language.specs.Laws.{NumbersReadBack}

pub numbers_read_back : NumbersReadBack
unfolding field_value
numbers_read_back field number p is whole =
    let within : field.at + field.len ≤ length p.memory = omega (arith, is.within, whole.memory) in
    value-with_field p.memory field.at field.len number within

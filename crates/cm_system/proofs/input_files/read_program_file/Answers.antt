use Rattle.std.proofs.Common.{◌≡◌, ℕ, List, Ok, Err, subst}
use Rattle.cm_language.specs.Program.{program_of, IsFaultOf}
use Rattle.cm_system.proofs.Leading.{did_so}
use Rattle.cm_system.proofs.input_files.read_program_file.Goals as goal

pub returns-in-Ok-assemble : goal.returns-in-Ok-assemble
returns-in-Ok-assemble g c = record {
  value = did_so c.in-Ok.ensures (λ trace takes. record {
    text = c.in-Ok.text;
    takes = takes;
    is = subst (λ (bytes : List ℕ). program_of bytes ≡ Ok c.in-Ok-assemble.program) c.as_slice.ensures.value
        c.in-Ok-assemble.ensures.value;
  });
  refused = tt;
}

pub returns : goal.returns
returns g c = record {
  value = tt;
  refused = did_so c.in-Ok.ensures (λ trace takes. record {
    taken = Ok c.in-Ok.text;
    takes = takes;
    refused = subst (λ (bytes : List ℕ). IsFaultOf bytes c.in-Err-assemble.fault) c.as_slice.ensures.value
        c.in-Err-assemble.ensures.value;
  });
}

pub returns-in-Err : goal.returns-in-Err
returns-in-Err g c = record {
  value = tt;
  refused = did_so c.in-Err.ensures (λ trace takes. record {
    taken = Err c.in-Err.fault;
    takes = takes;
    refused = c.from.ensures;
  });
}

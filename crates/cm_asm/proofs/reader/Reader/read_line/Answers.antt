use Rattle.cm_asm.proofs.Reading.{instruction_line}
use Rattle.cm_asm.proofs.reader.Reader.read_line.Goals as goal

pub returns-in-Some : goal.returns-in-Some
returns-in-Some c =
    let says = instruction_line c.args.self.now c.args.line.now c.in-Some.nano c.in-Some.ensures in
    rw says record {
      ok = c.add_act.ensures.ok;
      fault = c.add_act.ensures.fault;
      fields = c.add_act.ensures.fields;
      context = c.add_act.ensures.context;
    }

use Rattle.std.proofs.Common.{sym, ◌∙◌, ◌<◌, ◌+◌, length}
use Rattle.std.specs.Vec.{vec_len, vec_capacity}
use Rattle.cm_language.specs.Acts.{acts_of}
use Rattle.cm_macros.proofs.Refusals.{is_refusal}
use Rattle.cm_macros.proofs.expansion.expand.Goals as goal

pub returns-in-Some-clause-refused : goal.returns-in-Some-clause-refused
returns-in-Some-clause-refused c =
    is_refusal c.args.wanted.now c.args.context (vec_capacity c.args.list.now
    < vec_len c.args.list.now + length (acts_of c.args.wanted.now c.args.context)) c.in-Some.fault
    (sym c.fault_of.ensures ∙ c.in-Some.is)

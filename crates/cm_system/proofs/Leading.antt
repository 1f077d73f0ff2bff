-- Deeds that lead from one state of the outside to another, put together.
use Rattle.std.proofs.Common.{List, [], ◌∷◌, ◌++◌, refl, sym, subst}
use Rattle.cm_system.specs.Trace.{Leads, HasTrace}

-- one deed
pub one : {S D : Type 0} (does : S → D → S → Type 0) (from : S) (deed : D) (to : S) → does from deed to
    → Leads does from (deed ∷ []) to
one does from deed to h = (to, h, refl)

-- a deed before others
pub followed : {S D : Type 0} (does : S → D → S → Type 0) (from : S) (deed : D) (next : S) (trace : List D) (to : S)
    → does from deed next → Leads does next trace to → Leads does from (deed ∷ trace) to
followed does from deed next trace to h rest = (next, h, rest)

-- deeds before others
joined : {S D : Type 0} (does : S → D → S → Type 0) (from : S) (trace : List D) (next : S) (more : List D) (to : S)
    → Leads does from trace next → Leads does next more to → Leads does from (trace ++ more) to
joined does from [] next more to h rest = subst (λ s. Leads does s more to) (sym h) rest
joined does from (deed ∷ trace) next more to h rest = (h.0, h.1, joined does h.0 trace next more to h.2 rest)

-- what follows of the deeds that were done
pub did_so : {S D : Type 0} {does : S → D → S → Type 0} {from to : S} {P Q : List D → Type 0}
    → HasTrace does from to P → ((trace : List D) → P trace → Q trace) → HasTrace does from to Q
did_so did f = record { trace = did.trace; lead = did.lead; so = f did.trace did.so }

-- some deeds, and then others
pub did_both : {S D : Type 0} {does : S → D → S → Type 0} {from next to : S} {P Q R : List D → Type 0}
    → HasTrace does from next P → HasTrace does next to Q → ((trace more : List D) → P trace → Q more → R (trace ++ more))
    → HasTrace does from to R
did_both {S} {D} {does} {from} {next} {to} first second f = record {
  trace = first.trace ++ second.trace;
  lead = joined does from first.trace next second.trace to first.lead second.lead;
  so = f first.trace second.trace first.so second.so;
}

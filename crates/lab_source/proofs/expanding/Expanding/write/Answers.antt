use Rattle.std.proofs.Common.{◌≡◌, ◌≢◌, ℕ, Ok, Err, OnOk, IfErr, List, ◌∙◌, subst}
use Rattle.cm_bits.specs.Text.{words_of}
use Rattle.cm_language.specs.declared.fault.AsmKind.TheVariants as asm
use Rattle.lab_source.specs.declared.fault.SourceKind.TheVariants.{Asm}
use Rattle.lab_source.specs.Says.{phrase_verb_of}
use Rattle.lab_source.specs.Expansion.{after_plain, expansion_after_place, plain_line}
use Rattle.lab_source.proofs.expanding.Expanding.write.Goals as goal

pub returns-clause-ok : goal.returns-clause-ok
unfolding expansion_after_place
returns-clause-ok c =
    let is : c.as_slice.result.now ≡ plain_line c.args.constants.now c.args.place (words_of c.args.line.now) =
    c.as_slice.ensures.value ∙ (rw c.new-plain.ensures.items at c.in_ok-push_plain.ensures.ok) in
    subst (λ (line : List ℕ). OnOk c.write_plain.result
    (after_plain c.args.self.now c.args.place line (phrase_verb_of (words_of line)) ≡ Ok c.write_plain.new.self))
    is c.write_plain.ensures.ok

pub returns-clause-fault : goal.returns-clause-fault
unfolding expansion_after_place
returns-clause-fault c =
    let is : c.as_slice.result.now ≡ plain_line c.args.constants.now c.args.place (words_of c.args.line.now) =
    c.as_slice.ensures.value ∙ (rw c.new-plain.ensures.items at c.in_ok-push_plain.ensures.ok) in
    subst (λ (line : List ℕ). IfErr c.write_plain.result (λ kind. kind ≢ Asm asm.Memory
    → after_plain c.args.self.now c.args.place line (phrase_verb_of (words_of line)) ≡ Err kind))
    is c.write_plain.ensures.fault

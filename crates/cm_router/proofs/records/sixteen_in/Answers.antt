use Rattle.std.proofs.Common.{◌≡◌, ℕ, ◌+◌, ◌-◌, List, drop, ap, ◌∙◌, arith}
use Rattle.std.proofs.lemmas.List.{get_or-take, get_or-drop}
use Rattle.cm_bits.specs.Bit.{bit}
use Rattle.cm_model.specs.declared.letters.TheConstants.{SENT_REL}
use Rattle.cm_model.specs.Processor.{memory_bit}
use Rattle.cm_model.specs.Chip.{processor_at}
use Rattle.cm_router.proofs.records.sixteen_in.Goals as goal

pub returns-clause-value : goal.returns-clause-value
returns-clause-value c = λ chip are.
    let planes : List ℕ = c.args.planes.now in
    let from : ℕ = c.args.from in
    let p = c.args.proc in
    c.sixteen_bits_in.ensures.value (processor_at chip p) (SENT_REL + from)
    (λ k h. let next : SENT_REL + (from + k) ≡ SENT_REL + from + k = omega arith in
    ap (λ (w : ℕ). bit w p) (get_or-take (from + 16 - from) (drop from planes) k 0 (omega arith)
    ∙ get_or-drop from planes k 0)
    ∙ are (from + k) (omega (arith, h, c.requires.from)) p c.sixteen_bits_in.ensures.in_range
    ∙ ap (memory_bit (processor_at chip p)) next)

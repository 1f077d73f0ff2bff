use Rattle.std.proofs.Common.{◌≡◌, ℕ, ◌+◌, ◌-◌, ◌*◌, List, [], Some, drop, get_or, ap, ◌∙◌, arith}
use Rattle.std.proofs.lemmas.List.{get_or-take, get_or-drop}
use Rattle.cm_bits.specs.Bit.{bit}
use Rattle.cm_model.specs.declared.letters.TheConstants.{SENT_REL}
use Rattle.cm_model.specs.Processor.{memory_bit}
use Rattle.cm_model.specs.Chip.{processor_at}
use Rattle.cm_router.specs.Records.{Held, AreRecords}
use Rattle.cm_router.proofs.records.Records.planes_of.Goals as goal

pub returns : goal.returns
unfolding AreRecords
returns c =
    let planes : List ℕ = c.self.inside.planes in
    let start : ℕ = c.from-start.result in
    let first : ℕ = c.first_of_eight-first.result in
    let here : first + start ≡ c.args.chip = omega (arith, c.first_of_eight-first.ensures.from, c.from-start.ensures) in
    rw (← c.self.view_is) (record {
      value = λ run are inside long k few p below.
          let held : c.self.inside.first ≡ Some first =
          ap (λ (h : Held). h.first) c.self.view_is ∙ c.are_of.ensures.read c.if-not-are_of.false in
          let right = rw held at are in
          ap (λ (w : ℕ). bit w p) (get_or-take (start * 64 + 64 - start * 64) (drop (start * 64) planes) k 0 (omega arith)
          ∙ get_or-drop (start * 64) planes k 0)
          ∙ right start k (omega (arith, here, c.first_of_eight-first.ensures.within)) (omega (arith, here, inside)) few p
          below
          ∙ ap (λ (i : ℕ). memory_bit (processor_at (get_or run i []) p) (SENT_REL + k)) here;
    })

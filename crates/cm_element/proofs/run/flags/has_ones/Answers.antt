use Rattle.std.proofs.Common.{◌==◌, ◌||◌, ◌∙◌, Bool, not, ap, sym, get_or, List, ℕ}
use Rattle.std.specs.List.{list_any}
use Rattle.std.proofs.lemmas.List.{take_all}
use Rattle.std.proofs.lemmas.List.Folds.{list_any_more}
use Rattle.cm_element.proofs.Flagged.{seen_more}
use Rattle.cm_element.proofs.run.flags.has_ones.Goals as goal

pub loop-plane-preserved : goal.loop-plane-preserved
loop-plane-preserved c =
    let planes : List ℕ = c.args.planes.now in
    let i : ℕ = c.loop-plane.plane-index in
    seen_more c.loop-plane.seen (get_or planes i 0)
    ∙ ap (λ (b : Bool). b || not (get_or planes i 0 == 0)) c.loop-plane.invariant
    ∙ sym (list_any_more (λ plane. not (plane == 0)) planes i 0 c.loop-plane-test.true)

pub returns : goal.returns
returns c = record {
  value = c.loop-plane.invariant
      ∙ ap (list_any (λ plane. not (plane == 0)))
      (take_all c.loop-plane.plane-index c.args.planes.now c.loop-plane-test.false);
  words = λ k. (c.type_inv.planes k).fits;
}

use Rattle.std.proofs.Common.{ℕ, List, Option, take, drop, ◌+◌, ◌-◌, ◌≡◌, length, arith, sym, subst}
use Rattle.std.proofs.lemmas.Grind.{common_steps}
use Rattle.std.proofs.Math.Seq.{take-add}
use Rattle.std.proofs.KnownBytes.{Appends-trans}
use Rattle.std.specs.Io.KnownBytes.{Appends}
use Rattle.cm_bits.proofs.ends.write_all.Goals as goal

-- two parts of a text, written one after the other
Appends_next_part : (a b c : Option (List ℕ)) (text : List ℕ) (done count : ℕ) → Appends a b (take done text)
    → Appends b c (take count (take (length text - done) (drop done text))) → Appends a c (take (done + count) text)
Appends_next_part a b c text done count first next =
    let rest : take (length text - done) (drop done text) ≡ drop done text = grind (arith, common_steps) in
    subst (Appends a c) (sym (take-add done count text))
    (Appends-trans a b c _ _ first (subst (λ (part : List ℕ). Appends b c (take count part)) rest next))

pub loop-done-preserved : goal.loop-done-preserved
loop-done-preserved g c =
    record {
      within = grind (arith, common_steps);
      written = Appends_next_part _ _ _ _ _ _ c.loop-done.invariant.written c.in-Ok.ensures.bytes;
      working = grind (arith, common_steps);
    }

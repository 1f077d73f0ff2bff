-- Text that goes out behind other text.
use Rattle.std.proofs.Common.{◌≡◌, ℕ, ◌+◌, ◌≤◌, List, [], ◌++◌, length, take}
use Rattle.std.proofs.Common.{Option, ap, ◌∙◌, sym, subst, arith, append-nil, length-append}
use Rattle.std.proofs.lemmas.Grind.{common_steps}
use Rattle.std.proofs.Math.Seq.{take-append-add}
use Rattle.std.proofs.KnownBytes.{Appends-trans}
use Rattle.std.specs.Io.KnownBytes.{Appends}
use Rattle.cm_weave_text.specs.declared.fault.WeaveFault.{WeaveFault}
use Rattle.cm_weave_text.specs.declared.fault.WeaveFault.TheVariants.{Read, Write, TooMuch, Memory, Unfinished}
use Rattle.cm_weave_text.specs.Ends.{IsWrittenInPart}
use Rattle.cm_weave_text.specs.Hearing.{TextAborts}

front_of : (front rest : List ℕ) (count : ℕ) → count ≤ length front → take count (front ++ rest) ≡ take count front
front_of front rest count within = grind (arith, common_steps)

all_of : (xs : List ℕ) → take (length xs) xs ≡ xs
all_of xs = grind (arith, common_steps)

-- what breaks off behind a front that was written is cut
pub cut_text : (whole gone text more : List ℕ) (out_before out_after on : Option (List ℕ)) (sent : ℕ) (fault : WeaveFault)
    → Appends out_before out_after gone → sent ≡ length gone → whole ≡ gone ++ (text ++ more)
    → TextAborts text sent out_after on fault → IsWrittenInPart whole out_before on fault
cut_text whole gone text more out_before out_after on sent (Write count) wrote long is cut =
    let at : count ≡ length gone + cut.part = cut.count_is ∙ ap (λ (k : ℕ). k + cut.part) long in
    let taken : take count whole ≡ gone ++ take cut.part text =
    (λ i. take (at i) (is i)) ∙ take-append-add gone (text ++ more) cut.part
    ∙ ap (λ (xs : List ℕ). gone ++ xs) (front_of text more cut.part (let w = cut.within in omega (arith, w))) in
    record {
      within = let w = cut.within in
          omega (arith, at, w, ap length is, length-append gone (text ++ more), length-append text more);
      written = subst (Appends out_before on) (sym taken) (Appends-trans out_before out_after on _ _ wrote cut.written);
    }
cut_text whole gone text more out_before out_after on sent Memory wrote long is none =
    let front : take (length gone) whole ≡ gone =
    ap (take (length gone)) is ∙ front_of gone (text ++ more) (length gone) (omega arith) ∙ all_of gone in
    record {
      count = length gone;
      within = omega (arith, ap length is, length-append gone (text ++ more));
      written = subst (Appends out_before on) (append-nil gone ∙ sym front) (Appends-trans out_before out_after on gone [] wrote none);
    }
cut_text whole gone text more out_before out_after on sent Read wrote long is none = absurd none
cut_text whole gone text more out_before out_after on sent TooMuch wrote long is none = absurd none
cut_text whole gone text more out_before out_after on sent Unfinished wrote long is none = absurd none

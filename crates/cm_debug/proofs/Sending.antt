-- Bytes that went out, and those behind them that are gathered.
use Rattle.std.proofs.Common.{◌≡◌, ℕ, ◌+◌, ◌<◌, ◌≤◌, List, [], ◌++◌, length, take, drop, take-add}
use Rattle.std.proofs.Common.{Option, Some, None, refl, ap, ◌∙◌, sym, subst, arith}
use Rattle.std.proofs.Common.{append_assoc, append-nil, length-append}
use Rattle.std.proofs.lemmas.Grind.{common_steps}
use Rattle.std.proofs.KnownBytes.{Appends-trans}
use Rattle.std.specs.Io.KnownBytes.{Appends, append_known}
use Rattle.cm_debug.specs.BufferedOutput.{IsShortWriteAfter}

-- a count of bytes of the answers to the first lines is one of the answers to all
pub take_front : (front rest : List ℕ) (count : ℕ) → count ≤ length front → take count (front ++ rest) ≡ take count front
take_front front rest count within = grind (arith, common_steps)

all_of : (xs : List ℕ) → take (length xs) xs ≡ xs
all_of xs = grind (arith, common_steps)

past : (front rest : List ℕ) → drop (length front) (front ++ rest) ≡ rest
past front rest = grind (arith, common_steps)

pub take_past : (front rest : List ℕ) (part : ℕ) → take (length front + part) (front ++ rest) ≡ front ++ take part rest
take_past front rest part =
    let first : take (length front) (front ++ rest) ≡ front =
    take_front front rest (length front) (omega arith) ∙ all_of front in
    let second : drop (length front) (front ++ rest) ≡ rest = past front rest in
    take-add (length front) part (front ++ rest) ∙ (λ i. first i ++ take part (second i))

-- nothing is gathered
pub with_none : (out_after : Option (List ℕ)) (kept : List ℕ) → kept ≡ [] → append_known out_after kept ≡ out_after
with_none None kept none = refl
with_none (Some xs) kept none = ap Some (ap (λ (ys : List ℕ). xs ++ ys) none ∙ append-nil xs)

-- what was gathered is written
pub as_gathered : (out_after on : Option (List ℕ)) (kept : List ℕ) → Appends out_after on kept
    → Appends (append_known out_after kept) on []
as_gathered None on kept wrote = tt
as_gathered (Some xs) None kept wrote = absurd wrote
as_gathered (Some xs) (Some ys) kept wrote = wrote ∙ sym (append-nil (xs ++ kept))

-- the front of the answers that went out, where the rest was gathered
pub front_written : (out_before out_after on : Option (List ℕ)) (kept first more rest : List ℕ) (sent part : ℕ)
    → Appends out_before (append_known out_after kept) first → sent + length kept ≡ length first
    → part < length (kept ++ more) → Appends out_after on (take part (kept ++ more))
    → Appends out_before on (take (sent + part) (first ++ (more ++ rest)))
front_written None out_after on kept first more rest sent part wrote long within cut = tt
front_written (Some h) None on kept first more rest sent part wrote long within cut = absurd wrote
front_written (Some h) (Some c) None kept first more rest sent part wrote long within cut = absurd cut
front_written (Some h) (Some c) (Some o) kept first more rest sent part wrote long within cut =
    let size : length c + length kept ≡ length h + length first =
    sym (length-append c kept) ∙ ap length wrote ∙ length-append h first in
    let count : length c + part ≡ length h + (sent + part) = omega (arith, size, long) in
    let whole : c ++ (kept ++ more) ≡ h ++ (first ++ more) =
    sym (append_assoc c kept more) ∙ ap (λ (xs : List ℕ). xs ++ more) wrote ∙ append_assoc h first more in
    let short : sent + part ≤ length (first ++ more) =
    omega (arith, within, long, length-append kept more, length-append first more) in
    let front : take (sent + part) (first ++ (more ++ rest)) ≡ take (sent + part) (first ++ more) =
    ap (take (sent + part)) (sym (append_assoc first more rest)) ∙ take_front (first ++ more) rest (sent + part) short in
    cut ∙ sym (take_past c (kept ++ more) part) ∙ (λ i. take (count i) (whole i))
    ∙ take_past h (first ++ more) (sent + part) ∙ ap (λ (xs : List ℕ). h ++ xs) (sym front)

-- all of them, where all that was gathered went out
pub all_written : (out_before out_after on : Option (List ℕ)) (kept first : List ℕ)
    → Appends out_before (append_known out_after kept) first → Appends out_after on kept → Appends out_before on first
all_written None out_after on kept first wrote rest = tt
all_written (Some h) None on kept first wrote rest = absurd wrote
all_written (Some h) (Some c) None kept first wrote rest = absurd rest
all_written (Some h) (Some c) (Some o) kept first wrote rest = rest ∙ wrote

-- what was gathered went out, and then a front of more
pub cut_later : (out_before out_after on : Option (List ℕ)) (kept gone more text : List ℕ) (sent before now part : ℕ)
    → gone ≡ kept → text ≡ more → before ≡ sent → Appends out_before out_after gone → now ≡ before + length gone
    → part < length text → Appends out_after on (take part text)
    → IsShortWriteAfter sent (kept ++ more) out_before on (now + part)
cut_later out_before out_after on kept gone more text sent before now part same alike kept' wrote count within cut = record {
  part = length kept + part;
  count_is = omega (arith, count, kept', ap length same);
  within = omega (arith, within, ap length alike, length-append kept more);
  written = subst (Appends out_before on)
      ((λ i. same i ++ take part (alike i)) ∙ sym (take_past kept more part))
      (Appends-trans out_before out_after on _ _ wrote cut);
}

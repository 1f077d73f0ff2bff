-- The wires that an image lists as cut: a turn of the loop, a fault, and the end.
use Rattle.std.proofs.Common.{◌≡◌, ℕ, ◌+◌, ◌*◌, ◌-◌, ◌<◌, ◌≤◌, ◌==◌, ◌&&◌, true, false, List, [], ◌∷◌, ◌++◌, get_or}
use Rattle.std.proofs.Common.{fold, None, Ok, Err, refl, sym, ap, ◌∙◌, subst, ⊎_elim, arith, nat_lt, append_assoc}
use Rattle.std.specs.Int.{w16}
use Rattle.std.specs.List.{All, list_any}
use Rattle.std.proofs.lemmas.Bool.{and_parts, and_from, or_left, or_right, eqb-true, eq-eqb, lt-ltb, cases_lt}
use Rattle.std.proofs.lemmas.Bool.{false_from_ne_true}
use Rattle.std.proofs.lemmas.List.{append-nil}
use Rattle.std.proofs.lemmas.List.Elements.{All-head, All-tail, All-push, All-nil}
use Rattle.std.proofs.lemmas.List.Folds.{list_any_none}
use Rattle.cm_bits.specs.Wire.{Wire}
use Rattle.cm_model.specs.Wiring.{same_wire, wire_before}
use Rattle.cm_model.specs.Machine.{Machine}
use Rattle.cm_image_format.specs.declared.fault.ImageFault.{ImageFault}
use Rattle.cm_image_format.specs.declared.fault.ImageFault.TheVariants.{Count}
use Rattle.cm_image_format.specs.Reading.{◌>>=◌, Read, must, number_at, made}
use Rattle.cm_image_format.specs.Cuts.{cut_part, after_cut, is_cut_count, listed_cuts_part}
use Rattle.cm_image_fields.specs.Cuts.{with_cuts, with_cut}
use Rattle.cm_router.specs.Cuts.{with_wire, wire_put}
use Rattle.cm_image_fields.proofs.Filling.{fill, fill_on, counted_err, counted_all}

abbrev pair : Wire → ℕ
pair w = w.chip * 16 + w.dim

-- ---- a wire above all others is put behind them

less_is_before : (v w : Wire) → w.dim < 16 → pair v < pair w → wire_before v w ≡ true
less_is_before v w small less =
    ⊎_elim
    (λ (lower : v.chip < w.chip). or_left (nat_lt v.chip w.chip) (v.chip == w.chip && nat_lt v.dim w.dim)
    (lt-ltb v.chip w.chip lower))
    (λ (not_lower : w.chip ≤ v.chip).
    let chip : v.chip ≡ w.chip = omega (arith, small) in
    let dim : v.dim < w.dim = omega arith in
    or_right (nat_lt v.chip w.chip) (v.chip == w.chip && nat_lt v.dim w.dim)
    (and_from (v.chip == w.chip) (nat_lt v.dim w.dim) (eq-eqb v.chip w.chip chip) (lt-ltb v.dim w.dim dim)))
    (cases_lt v.chip w.chip)

put_last : (w : Wire) (ws : List Wire) → w.dim < 16 → All (λ v. pair v < pair w) ws → wire_put w ws ≡ ws ++ w ∷ []
put_last w [] small less = refl
put_last w (v ∷ vs) small less =
    let before : wire_before v w ≡ true =
    less_is_before v w small (All-head (λ u. pair u < pair w) v vs less) in
    rw before (ap (λ (xs : List Wire). v ∷ xs)
    (put_last w vs small (All-tail (λ u. pair u < pair w) v vs less)))

not_there : (w : Wire) (ws : List Wire) → All (λ v. pair v < pair w) ws → list_any (same_wire w) ws ≡ false
not_there w ws less =
    list_any_none (same_wire w) ws (λ k d h. false_from_ne_true (same_wire w (get_or ws k d)) (λ same.
    let both = and_parts (w.chip == (get_or ws k d).chip) (w.dim == (get_or ws k d).dim) same in
    omega (arith, less k d h, eqb-true w.chip (get_or ws k d).chip both.0, eqb-true w.dim (get_or ws k d).dim both.1)))

with_last : (w : Wire) (ws : List Wire) → w.dim < 16 → All (λ v. pair v < pair w) ws → with_wire w ws ≡ ws ++ w ∷ []
with_last w ws small less = rw (not_there w ws less) (put_last w ws small less)

-- ---- the loop

-- from here on, with this machine, it gives what it gave at the start, and all wires so far lie below the next
pub record IsCutting (n count i least : ℕ) (machine : Machine) (rest : List ℕ) (first : Machine)
    (bytes : List ℕ) : Type 0 where
  pub same : fill after_cut (cut_part n) with_cut (count - i) least machine rest
      ≡ fill after_cut (cut_part n) with_cut count 0 first bytes
  pub below : All (λ w. w.chip * 16 + w.dim < least) machine.routing.cuts

pub cuts_start : (n count : ℕ) (machine : Machine) (rest : List ℕ) → machine.routing.cuts ≡ []
    → IsCutting n count 0 0 machine rest machine rest
cuts_start n count machine rest none = record {
  same = let all : count - 0 ≡ count = omega arith in
      ap (λ (k : ℕ). fill after_cut (cut_part n) with_cut k 0 machine rest) all;
  below = subst (λ (ws : List Wire). All (λ w. w.chip * 16 + w.dim < 0) ws) (sym none)
      (All-nil (λ w. w.chip * 16 + w.dim < 0));
}

pub cuts_on : (n count i least : ℕ) (w : Wire) (machine cut first : Machine) (rest after bytes : List ℕ)
    → i < count → w.dim < 16 → least ≤ w.chip * 16 + w.dim → IsCutting n count i least machine rest first bytes
    → cut_part n least rest ≡ Ok (w, after) → cut ≡ with_cuts machine (with_wire w machine.routing.cuts)
    → IsCutting n count (i + 1) (w.chip * 16 + w.dim + 1) cut after first bytes
cuts_on n count i least w machine cut first rest after bytes h small above cutting is put =
    let less : All (λ v. pair v < pair w) machine.routing.cuts = λ k d l.
    let below : pair (get_or machine.routing.cuts k d) < least = cutting.below k d l in omega arith in
    let behind : cut ≡ with_cut machine w =
    put ∙ ap (λ (ws : List Wire). with_cuts machine ws) (with_last w machine.routing.cuts small less) in
    subst (λ (m : Machine). IsCutting n count (i + 1) (w.chip * 16 + w.dim + 1) m after first bytes) (sym behind)
    (record {
      same = sym (fill_on after_cut (cut_part n) with_cut count i least machine rest after w h is) ∙ cutting.same;
      below = All-push (λ v. pair v < pair w + 1) machine.routing.cuts w
          (λ k d l. let below : pair (get_or machine.routing.cuts k d) < pair w = less k d l in omega arith)
          (omega arith);
    })

few : (n rule count : ℕ) → is_cut_count n rule count ≡ true → must Count (is_cut_count n rule) count ≡ None
few n rule count h = rw h refl

pub cuts_err : (n rule count i least : ℕ) (machine first : Machine) (rest after bytes : List ℕ) (fault : ImageFault)
    → i < count → is_cut_count n rule count ≡ true → number_at w16 bytes ≡ Ok (count, after)
    → IsCutting n count i least machine rest first after → cut_part n least rest ≡ Err fault
    → listed_cuts_part n rule bytes ≡ Err fault
cuts_err n rule count i least machine first rest after bytes fault h most is cutting wrong =
    counted_err w16 (must Count (is_cut_count n rule)) after_cut (cut_part n) with_cut count i least 0 machine first
    rest after bytes fault h (few n rule count most) is cutting.same wrong

-- one wire after another is all of them
cut_all : (machine : Machine) (ws : List Wire) → fold with_cut machine ws ≡ with_cuts machine (machine.routing.cuts ++ ws)
cut_all machine [] = ap (λ (cuts : List Wire). with_cuts machine cuts) (sym (append-nil machine.routing.cuts))
cut_all machine (w ∷ ws) =
    cut_all (with_cut machine w) ws
    ∙ ap (λ (cuts : List Wire). with_cuts machine cuts) (append_assoc machine.routing.cuts (w ∷ []) ws)

abbrev into : {A B : Type 0} → (A → B) → A × List ℕ → Read B
into f x = Ok (f x.0, x.1)

made_alike : {A B : Type 0} (f g : A → B) (r : Read A) → ((x : A) → f x ≡ g x) → (r >>= into f) ≡ (r >>= into g)
made_alike f g (Ok x) same = λ i. Ok (same x.0 i, x.1)
made_alike f g (Err fault) same = refl

same_made : {A B : Type 0} (f g : A → B) (read : List ℕ → Read A) (bytes : List ℕ) → ((x : A) → f x ≡ g x)
    → made f read bytes ≡ made g read bytes
same_made {A} {B} f g read bytes same = made_alike f g (read bytes) same

pub cuts_all : (n rule count i least : ℕ) (machine first : Machine) (rest after bytes : List ℕ) → count ≤ i
    → is_cut_count n rule count ≡ true → number_at w16 bytes ≡ Ok (count, after) → first.routing.cuts ≡ []
    → IsCutting n count i least machine rest first after
    → made (with_cuts first) (listed_cuts_part n rule) bytes ≡ Ok (machine, rest)
cuts_all n rule count i least machine first rest after bytes h most is none cutting =
    same_made (with_cuts first) (λ ws. fold with_cut first ws) (listed_cuts_part n rule) bytes
    (λ ws. ap (λ (cuts : List Wire). with_cuts first (cuts ++ ws)) (sym none) ∙ sym (cut_all first ws))
    ∙ counted_all w16 (must Count (is_cut_count n rule)) after_cut (cut_part n) with_cut count i least 0 machine first
    rest after bytes h (few n rule count most) is cutting.same

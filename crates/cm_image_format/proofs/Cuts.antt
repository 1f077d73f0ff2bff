-- How a machine routes: what is written of it is what is read.
use Rattle.std.proofs.Common.{◌≡◌, ℕ, zero, suc, ◌+◌, ◌*◌, ◌/◌, ◌^◌, ◌<◌, ◌≤◌, ◌==◌, ◌&&◌, ◌||◌, not, Bool, true, false}
use Rattle.std.proofs.Common.{List, [], ◌∷◌, ◌++◌, length, get_or, None, Ok, refl, sym, ap, ◌∙◌, subst, ⊎_elim, arith}
use Rattle.std.proofs.Common.{nat_lt, nat_le, lit<, if◌then◌else◌}
use Rattle.std.specs.Int.{w8, w16}
use Rattle.std.specs.Bool.{MatchBool}
use Rattle.std.specs.List.{All, flat_map}
use Rattle.std.proofs.lemmas.Bool.{and_parts, and_from, or_parts, or_from, or_cases, or_left, or_right, eqb-true}
use Rattle.std.proofs.lemmas.Bool.{eq-eqb, ne_eqb, ltb-true, ltb-false, lt-ltb, le-ltb, leb-false, le-leb, lt-leb}
use Rattle.std.proofs.lemmas.Bool.{not_from_false, cases_lt}
use Rattle.std.proofs.lemmas.List.Elements.{All-head, All-tail, All-cons, All-nil}
use Rattle.std.proofs.Math.Nat.{pow-le-pow_right, mul-le-mul}
use Rattle.cm_bits.specs.Bit.{bit}
use Rattle.cm_bits.specs.Wire.{Wire}
use Rattle.cm_model.specs.declared.rule.Rule.{Rule}
use Rattle.cm_model.specs.declared.rule.Rule.TheVariants.{First, Oldest}
use Rattle.cm_model.specs.Wiring.{Routing, rule_number, wire_before, AreRising, IsWireOf, IsRouting}
use Rattle.cm_model.proofs.Cuts.{cuts_are_few}
use Rattle.cm_message.specs.Bytes.{number_bytes}
use Rattle.cm_image_format.specs.declared.fault.ImageFault.TheVariants.{Count, Value}
use Rattle.cm_image_format.specs.Reading.{Read, must, checked_number, followed}
use Rattle.cm_image_format.specs.Header.{is_version, is_rule, Head}
use Rattle.cm_image_format.specs.Cuts.{chip_number_part, cut_text, cut_fault, cut_part, after_cut, is_cut_count}
use Rattle.cm_image_format.specs.Cuts.{listed_cuts_text, listed_cuts_part, cuts_text, cuts_part, version_by, version_of}
use Rattle.cm_image_format.specs.Cuts.{head_of, rule_of, routing_part}
use Rattle.cm_image_format.proofs.Numbers.{Reads, Fits8, Fits16, number_8, number_16}
use Rattle.cm_image_format.proofs.Forms.{must_pass, must_hold, same_ok, AllFrom, Reads-checked_number, Reads-followed, Reads-made}
use Rattle.cm_image_format.proofs.Forms.{Reads-counted}
use Rattle.cm_image_format.proofs.Parts.{IsBelow, below_pass, below_hold, value_pass, value_hold}
use Rattle.cm_image_format.proofs.Header.{version_cases}

-- ---- one wire

abbrev IsChipNumber : ℕ → ℕ → Type 0
IsChipNumber n chip = Fits16 chip × IsBelow Value (2 ^ n) chip

-- a dimension that may stand behind a chip
abbrev MayFollow : ℕ → ℕ → ℕ → ℕ → Type 0
MayFollow n least chip dim = Fits8 dim × (cut_fault n least chip dim ≡ None)

-- a wire that may stand where no pair below `least` may
abbrev IsCut : ℕ → ℕ → Wire → Type 0
IsCut n least w = IsChipNumber n w.chip × MayFollow n least w.chip w.dim

Reads-cut : (n least : ℕ) → Reads (IsCut n least) cut_text (cut_part n least)
Reads-cut n least =
    Reads-made (λ (p : ℕ × ℕ). IsChipNumber n p.0 × MayFollow n least p.0 p.1) (IsCut n least)
    (λ (p : ℕ × ℕ). number_bytes w16 p.0 ++ number_bytes w8 p.1) cut_text
    (λ (p : ℕ × ℕ). record { chip = p.0; dim = p.1 }) (λ (w : Wire). (w.chip, w.dim))
    (followed (chip_number_part n) (λ chip. checked_number w8 (cut_fault n least chip)))
    (Reads-followed (IsChipNumber n) (MayFollow n least) (number_bytes w16) (λ (chip : ℕ). number_bytes w8)
    (chip_number_part n) (λ chip. checked_number w8 (cut_fault n least chip))
    (Reads-checked_number w16 (must Value (λ k. nat_lt k (2 ^ n))) Fits16 number_16)
    (λ chip good. Reads-checked_number w8 (cut_fault n least chip) Fits8 number_8))
    (λ w good. refl) (λ w good. good) (λ w good. refl) (λ p good. (good, refl))

-- ---- all wires

-- those of an image of this version, and whose rule has this number
abbrev AreCuts : ℕ → ℕ → ℕ → List Wire → Type 0
AreCuts version n rule cuts = MatchBool (version == 1) (cuts ≡ [])
    ((Fits16 (length cuts) × (must Count (is_cut_count n rule) (length cuts) ≡ None))
    × AllFrom after_cut (IsCut n) 0 cuts)

-- nothing is written, and nothing is read
Reads-none : Reads (λ (cuts : List Wire). cuts ≡ []) (λ cuts. []) (λ bytes. Ok ([], bytes))
Reads-none = record {
  back = λ cuts rest none. ap (λ (ws : List Wire). Ok (ws, rest)) (sym none);
  only = λ bytes rest cuts are read.
      subst (λ (y : List Wire × List ℕ). (bytes ≡ [] ++ y.1) × (y.0 ≡ [])) (same_ok ([], bytes) (cuts, rest) read)
      (refl, refl);
}

-- one of two, by a test
Reads-either : {A : Type 0} (b : Bool) (G H : A → Type 0) (s t : A → List ℕ) (q r : List ℕ → Read A)
    → Reads G s q → Reads H t r
    → Reads (λ x. MatchBool b (G x) (H x)) (λ x. if b then s x else t x) (λ bytes. if b then q bytes else r bytes)
Reads-either true G H s t q r one other = one
Reads-either false G H s t q r one other = other

Reads-cuts : (version n rule : ℕ) → Reads (AreCuts version n rule) (cuts_text version) (cuts_part version n rule)
Reads-cuts version n rule =
    Reads-either (version == 1) (λ (cuts : List Wire). cuts ≡ [])
    (λ cuts. (Fits16 (length cuts) × (must Count (is_cut_count n rule) (length cuts) ≡ None))
    × AllFrom after_cut (IsCut n) 0 cuts)
    (λ cuts. []) listed_cuts_text (λ bytes. Ok ([], bytes)) (listed_cuts_part n rule)
    Reads-none
    (Reads-counted w16 (must Count (is_cut_count n rule)) Fits16 after_cut (IsCut n) cut_text (cut_part n) number_16
    (λ least. Reads-cut n least) 0)

-- ---- they are wires of the cube, in their order

abbrev pair : Wire → ℕ
pair w = w.chip * 16 + w.dim

small_cube : (n : ℕ) → n ≤ 12 → 2 ^ n ≤ 2 ^ 12
small_cube n h = pow-le-pow_right (lit< tt) h

to_cut : (n least : ℕ) (w : Wire) → n ≤ 12 → IsWireOf n w → least ≤ pair w → IsCut n least w
to_cut n least w h is above =
    let fits : Fits16 w.chip = omega (arith, is.chip, small_cube n h) in
    let fits_too : Fits8 w.dim = omega (arith, is.dim, h) in (
      (fits, below_pass Value (2 ^ n) w.chip is.chip),
      (
        fits_too,
        value_pass (nat_le n w.dim || bit w.chip w.dim) (nat_lt (pair w) least)
            (or_from (nat_le n w.dim) (bit w.chip w.dim) (lt-leb n w.dim is.dim) is.wire.lower)
            (le-ltb (pair w) least above),
      ),
    )

from_cut : (n least : ℕ) (w : Wire) → n ≤ 12 → IsCut n least w → IsWireOf n w × (least ≤ pair w)
from_cut n least w h is =
    let told = value_hold (nat_le n w.dim || bit w.chip w.dim) (nat_lt (pair w) least) is.1.1 in
    let lower = or_parts (nat_le n w.dim) (bit w.chip w.dim) told.0 in
    let dim : w.dim < n = leb-false n w.dim lower.0 in
    let chip : w.chip < 2 ^ n = below_hold Value (2 ^ n) w.chip is.0.1 in (
      record {
        wire = record { dim = omega arith; chip = omega (arith, chip, small_cube n h); lower = lower.1 };
        dim = dim;
        chip = chip;
      },
      ltb-false (pair w) least told.1,
    )

-- one wire stands before another where its pair is less
before_is_less : (n : ℕ) (v w : Wire) → n ≤ 12 → IsWireOf n v → IsWireOf n w → wire_before v w ≡ true → pair v < pair w
before_is_less n v w h one other before =
    ⊎_elim
    (λ (lower : nat_lt v.chip w.chip ≡ true). let chip : v.chip < w.chip = ltb-true v.chip w.chip lower in
    omega (arith, one.dim, h))
    (λ (same : (v.chip == w.chip && nat_lt v.dim w.dim) ≡ true).
    let both = and_parts (v.chip == w.chip) (nat_lt v.dim w.dim) same in
    omega (arith, eqb-true v.chip w.chip both.0, ltb-true v.dim w.dim both.1))
    (or_cases (nat_lt v.chip w.chip) (v.chip == w.chip && nat_lt v.dim w.dim) before)

less_is_before : (n : ℕ) (v w : Wire) → n ≤ 12 → IsWireOf n v → IsWireOf n w → pair v < pair w → wire_before v w ≡ true
less_is_before n v w h one other less =
    ⊎_elim
    (λ (lower : v.chip < w.chip). or_left (nat_lt v.chip w.chip) (v.chip == w.chip && nat_lt v.dim w.dim)
    (lt-ltb v.chip w.chip lower))
    (λ (not_lower : w.chip ≤ v.chip).
    let chip : v.chip ≡ w.chip = omega (arith, other.dim, h) in
    let dim : v.dim < w.dim = omega arith in
    or_right (nat_lt v.chip w.chip) (v.chip == w.chip && nat_lt v.dim w.dim)
    (and_from (v.chip == w.chip) (nat_lt v.dim w.dim) (eq-eqb v.chip w.chip chip) (lt-ltb v.dim w.dim dim)))
    (cases_lt v.chip w.chip)

to_cuts : (n least : ℕ) (ws : List Wire) → n ≤ 12 → All (IsWireOf n) ws → AreRising ws
    → All (λ w. least ≤ pair w) ws → AllFrom after_cut (IsCut n) least ws
to_cuts n least [] h within rising above = tt
to_cuts n least (w ∷ ws) h within rising above =
    let here : IsWireOf n w = All-head (IsWireOf n) w ws within in
    let others : All (IsWireOf n) ws = All-tail (IsWireOf n) w ws within in (
      to_cut n least w h here (All-head (λ v. least ≤ pair v) w ws above),
      to_cuts n (pair w + 1) ws h others rising.1 (λ k d l.
          let less : pair w < pair (get_or ws k d) =
          before_is_less n w (get_or ws k d) h here (others k d l) (rising.0 k d l) in omega arith),
    )

-- what such a list tells
record Rises (n least : ℕ) (ws : List Wire) : Type 0 where
  within : All (IsWireOf n) ws
  rising : AreRising ws
  above : All (λ w. least ≤ pair w) ws

from_cuts : (n least : ℕ) (ws : List Wire) → n ≤ 12 → AllFrom after_cut (IsCut n) least ws → Rises n least ws
from_cuts n least [] h good = record {
  within = All-nil (IsWireOf n);
  rising = tt;
  above = All-nil (λ w. least ≤ pair w);
}
from_cuts n least (w ∷ ws) h good =
    let here = from_cut n least w h good.0 in
    let others = from_cuts n (pair w + 1) ws h good.1 in
    record {
      within = All-cons (IsWireOf n) w ws here.0 others.within;
      rising = (
        (λ k d l. let later : pair w + 1 ≤ pair (get_or ws k d) = others.above k d l in
            less_is_before n w (get_or ws k d) h here.0 (others.within k d l) (omega arith)),
        others.rising,
      );
      above = All-cons (λ v. least ≤ pair v) w ws here.1 (λ k d l.
          let later : pair w + 1 ≤ pair (get_or ws k d) = others.above k d l in
          let first : least ≤ pair w = here.1 in omega arith);
    }

-- ---- how a machine routes

-- the routing of an image with this head
abbrev pub IsRoutingOf : ℕ → Head → Routing → Type 0
IsRoutingOf n head routing = AreCuts head.version n head.rule routing.cuts × (routing.rule ≡ rule_of head.rule)

pub Reads-routing : (n : ℕ) (head : Head)
    → Reads (IsRoutingOf n head) (λ routing. cuts_text head.version routing.cuts) (routing_part n head)
Reads-routing n head =
    Reads-made (AreCuts head.version n head.rule) (IsRoutingOf n head) (cuts_text head.version)
    (λ (routing : Routing). cuts_text head.version routing.cuts)
    (λ (cuts : List Wire). record { cuts = cuts; rule = rule_of head.rule }) (λ (routing : Routing). routing.cuts)
    (cuts_part head.version n head.rule) (Reads-cuts head.version n head.rule)
    (λ routing good. λ i. record { cuts = routing.cuts; rule = sym good.1 i })
    (λ routing good. good.0) (λ routing good. refl) (λ cuts good. ((good, refl), refl))

-- what head and cuts tell of it
pub record RoutingTold (n version rule : ℕ) (routing : Routing) : Type 0 where
  pub version_is : version ≡ version_of routing
  pub rule_is : rule ≡ rule_number routing.rule
  pub is : IsRouting n routing

zero_below : (k : ℕ) → k < 1 → k ≡ 0
zero_below k h = omega arith

same_rule : (rule : ℕ) → rule < 2 → rule ≡ rule_number (rule_of rule)
same_rule zero h = refl
same_rule (suc zero) h = refl
same_rule (suc (suc k)) h = absurd (omega (arith, h))

-- under the first rule some wire is cut
second_version : (n rule : ℕ) (cuts : List Wire) → rule < 2
    → must Count (is_cut_count n rule) (length cuts) ≡ None → 2 ≡ version_by (rule_of rule) cuts
second_version n zero [] h count =
    let none : false ≡ true =
    (and_parts (nat_le 0 (n * 2 ^ n / 2)) false (must_hold Count (nat_le 0 (n * 2 ^ n / 2) && false) count)).1 in
    absurd (cc)
second_version n zero (w ∷ ws) h count = refl
second_version n (suc zero) cuts h count = refl
second_version n (suc (suc k)) cuts h count = absurd (omega (arith, h))

first_told : (n rule : ℕ) (routing : Routing) → rule < 1 → AreCuts 1 n rule routing.cuts → routing.rule ≡ rule_of rule
    → RoutingTold n 1 rule routing
first_told n rule routing small none is =
    let first : routing.rule ≡ First = is ∙ ap rule_of (zero_below rule small) in
    record {
      version_is = λ i. version_by (sym first i) (sym none i);
      rule_is = zero_below rule small ∙ ap rule_number (sym first);
      is = subst (λ (ws : List Wire). IsRouting n (record { cuts = ws; rule = routing.rule })) (sym none)
          (record { within = All-nil (IsWireOf n); rising = tt });
    }

second_told : (n rule : ℕ) (routing : Routing) → n ≤ 12 → rule < 2 → AreCuts 2 n rule routing.cuts
    → routing.rule ≡ rule_of rule → RoutingTold n 2 rule routing
second_told n rule routing h small good is =
    let told = from_cuts n 0 routing.cuts h good.1 in
    record {
      version_is = second_version n rule routing.cuts small good.0.1
          ∙ ap (λ (r : Rule). version_by r routing.cuts) (sym is);
      rule_is = same_rule rule small ∙ ap rule_number (sym is);
      is = record { within = told.within; rising = told.rising };
    }

pub routing_told : (n : ℕ) (head : Head) (routing : Routing) → n ≤ 12 → is_version head.version ≡ true
    → is_rule head.version head.rule ≡ true → IsRoutingOf n head routing
    → RoutingTold n head.version head.rule routing
routing_told n head routing h version rule good =
    let below : head.rule < head.version = ltb-true head.rule head.version rule in
    ⊎_elim
    (λ (one : head.version ≡ 1).
    subst (λ (v : ℕ). RoutingTold n v head.rule routing) (sym one)
    (first_told n head.rule routing (omega arith)
    (subst (λ (v : ℕ). AreCuts v n head.rule routing.cuts) one good.0) good.1))
    (λ (two : head.version ≡ 2).
    subst (λ (v : ℕ). RoutingTold n v head.rule routing) (sym two)
    (second_told n head.rule routing h (omega arith)
    (subst (λ (v : ℕ). AreCuts v n head.rule routing.cuts) two good.0) good.1))
    (version_cases head.version version)

-- ---- a routing has a head and cuts that tell it

pub has_version : (rule : Rule) (cuts : List Wire) → is_version (version_by rule cuts) ≡ true
has_version First [] = refl
has_version First (w ∷ ws) = refl
has_version Oldest cuts = refl

pub has_rule : (rule : Rule) (cuts : List Wire) → is_rule (version_by rule cuts) (rule_number rule) ≡ true
has_rule First [] = refl
has_rule First (w ∷ ws) = refl
has_rule Oldest cuts = refl

rule_again : (rule : Rule) → rule ≡ rule_of (rule_number rule)
rule_again First = refl
rule_again Oldest = refl

few_of : (n : ℕ) → n ≤ 12 → n * 2 ^ n ≤ 12 * 2 ^ 12
few_of n h = mul-le-mul h (small_cube n h)

counted_cuts : (n rule : ℕ) (cuts : List Wire) → n ≤ 12 → IsRouting n (record { cuts = cuts; rule = rule_of rule })
    → (length cuts == 0 && rule == 0) ≡ false
    → (Fits16 (length cuts) × (must Count (is_cut_count n rule) (length cuts) ≡ None))
    × AllFrom after_cut (IsCut n) 0 cuts
counted_cuts n rule cuts h is some =
    let most : length cuts ≤ n * 2 ^ n / 2 = cuts_are_few n (record { cuts = cuts; rule = rule_of rule }) is in
    let fits : Fits16 (length cuts) = omega (arith, few_of n h) in (
      (
        fits,
        must_pass Count (is_cut_count n rule (length cuts))
            (and_from (nat_le (length cuts) (n * 2 ^ n / 2)) (not (length cuts == 0 && rule == 0))
            (le-leb (length cuts) (n * 2 ^ n / 2) most)
            (not_from_false (length cuts == 0 && rule == 0) some)),
      ),
      to_cuts n 0 cuts h is.within is.rising (λ k d l. omega arith),
    )

some_of : (w : Wire) (ws : List Wire) → (length (w ∷ ws) == 0 && 0 == 0) ≡ false
some_of w ws = ap (λ (b : Bool). b && true) (ne_eqb (suc (length ws)) 0 (λ e. absurd (omega (arith, e))))

second_of : (none : Bool) → (none && false) ≡ false
second_of true = refl
second_of false = refl

has_cuts : (n : ℕ) (rule : Rule) (cuts : List Wire) → n ≤ 12 → IsRouting n (record { cuts = cuts; rule = rule })
    → AreCuts (version_by rule cuts) n (rule_number rule) cuts
has_cuts n First [] h is = refl
has_cuts n First (w ∷ ws) h is = counted_cuts n 0 (w ∷ ws) h is (some_of w ws)
has_cuts n Oldest cuts h is = counted_cuts n 1 cuts h is (second_of (length cuts == 0))

pub has_routing : (n cap : ℕ) (routing : Routing) → n ≤ 12 → IsRouting n routing
    → IsRoutingOf n (head_of n cap routing) routing
has_routing n cap routing h is = (has_cuts n routing.rule routing.cuts h is, rule_again routing.rule)

-- The product: after each round the field is worth the rounds so far, and what was dropped.
use Rattle.std.proofs.Common.{◌≡◌, ℕ, zero, suc, ◌+◌, ◌-◌, ◌*◌, ◌%◌, ◌^◌, ◌<◌, ◌≤◌, ◌⊎◌, Bool, true, false, List, []}
use Rattle.std.proofs.Common.{◌∷◌, ◌++◌, length, get_or, set, take, drop, refl, sym, ap, ◌∙◌, subst, arith, inl, inr}
use Rattle.std.proofs.Common.{⊎_elim}
use Rattle.std.proofs.Math.Nat.{mul-one, mul-zero, zero-mul, mul-add, add-mul, zero-mod}
use Rattle.std.specs.List.{range_with_len, flat_map}
use Rattle.std.proofs.lemmas.List.{set-set, set_comm, set-get_or, get_or-set_same, get_or-set_other, length-set}
use Rattle.std.proofs.lemmas.List.{length-take-le, length-drop, length-append, take-append-drop}
use Rattle.cm_bits.specs.Bit.{bit_number}
use Rattle.cm_bits.specs.Span.{Span}
use Rattle.cm_model.specs.declared.act.Nano.{Nano}
use Rattle.cm_model.specs.Processor.{Processor, value}
use Rattle.cm_model.specs.Each.{tabulate}
use Rattle.cm_model.specs.Instruction.{processor_after}
use Rattle.cm_model.specs.Letters.{bits_of, with_field}
use Rattle.cm_model.proofs.Wholes.{length-bits_of}
use Rattle.cm_language.specs.declared.macros.Context.TheVariants.{Always, On}
use Rattle.cm_language.specs.declared.macros.Macro.TheVariants.{Mul}
use Rattle.cm_language.specs.Effect.{assigned, value_of}
use Rattle.cm_language.specs.Acts.{nano, nanos, clear_flag, each_bit, above, lowest, number_bits, product}
use Rattle.cm_language.specs.Acts.{product_round}
use Rattle.cm_language.proofs.Bits.{reads, writes, length-reads, get_or-writes, reads-writes_apart, reads-writes_above}
use Rattle.cm_language.proofs.Bits.{writes-append, writes-over, reads_more, take-reads}
use Rattle.cm_language.proofs.Sums.{outs, carried, sum-outs, length-outs, value_below, value-append, low_part}
use Rattle.cm_language.proofs.Sums.{total as weighed, both, total-both, twice_power, adds_sum, table_a}
use Rattle.cm_language.proofs.Steps.{run, run-append, Ready, AllUnder, run-unselected, under-each, ready-flag, one_flag}
use Rattle.cm_language.proofs.Numbers.{stored, read_value, value-bits_of}
use Rattle.cm_language.proofs.Selected.{Whole, clear_step, begun_ripple, numbered}

-- two fields without a common bit
abbrev pub AreApart : Span → Span → Type 0
AreApart a b = (a.at + a.len ≤ b.at) ⊎ (b.at + b.len ≤ a.at)

-- the fields of a product
pub record Factors (d x y : Span) : Type 0 where
  pub whole : d.at + d.len ≤ 4096
  pub first : x.at + x.len ≤ 4096
  pub second : y.at + y.len ≤ 4096
  pub first_len : x.len ≡ d.len
  pub second_len : y.len ≡ d.len
  pub first_apart : AreApart d x
  pub second_apart : AreApart d y

-- a processor after some rounds: bits in the field, something in both flags, and what was dropped
pub record Sofar (p : Processor) (d : Span) (total : ℕ) (q : Processor) : Type 0 where
  pub bits : List Bool
  pub long : length bits ≡ d.len
  pub factor : Bool
  pub carry : Bool
  pub dropped : ℕ
  pub state : q ≡ record { memory = writes p.memory d.at bits; flags = set (set p.flags 6 factor) 7 carry }
  pub sum : value bits + 2 ^ d.len * dropped ≡ total

-- what the flags are after both were written again
flags_again : (fs : List Bool) (u v w : Bool) → set (set (set fs 6 u) 7 v) 6 w ≡ set (set fs 6 w) 7 v
flags_again fs u v w =
    let other : 7 ≡ 6 → ⊥ = λ e. omega (arith, e) in
    set_comm (set fs 6 u) 7 6 v w other ∙ ap (λ xs. set xs 7 v) (set-set fs 6 u w)

-- ---- numbers

-- n is worth 2^j times 2^k
shifted : (j k n c : ℕ) → j + k ≡ n → 2 ^ j * (2 ^ k * c) ≡ 2 ^ n * c
shifted zero k n c e = let s : k ≡ n = omega (arith, e) in omega (arith, ap (λ (z : ℕ). 2 ^ z * c) s)
shifted (suc j) k zero c e = absurd (omega (arith, e))
shifted (suc j) k (suc n) c e =
    let rest : 2 ^ j * (2 ^ k * c) ≡ 2 ^ n * c = shifted j k n c (omega (arith, e)) in
    twice_power j (2 ^ k * c) ∙ ap (λ (z : ℕ). 2 * z) rest ∙ sym (twice_power n c)

-- y is added from bit j up: u are the bits below, h those above before, o after, l the low bits of y, r the others
added : (big step high u h o l r c over total : ℕ)
    → (u + step * h) + big * over ≡ total → o + high * c ≡ h + l
    → step * (high * c) ≡ big * c → step * (high * r) ≡ big * r
    → (u + step * o) + big * (over + (r + c)) ≡ total + step * (l + high * r)
added big step high u h o l r c over total sum one ec er =
    let spread : step * (o + high * c) ≡ step * o + step * (high * c) = mul-add step o (high * c) in
    let gather : step * (h + l) ≡ step * h + step * l = mul-add step h l in
    let both_sides : step * (o + high * c) ≡ step * (h + l) = ap (λ (z : ℕ). step * z) one in
    let right : step * (l + high * r) ≡ step * l + step * (high * r) = mul-add step l (high * r) in
    let left : big * (over + (r + c)) ≡ big * over + big * (r + c) = mul-add big over (r + c) in
    let last : big * (r + c) ≡ big * r + big * c = mul-add big r c in
    omega (arith, spread, gather, both_sides, right, left, last, sum, ec, er)

-- ---- one round

-- the factor's bit goes into flag 6
factor_step : (p : Processor) (x j : ℕ) → Ready Always p
    → processor_after (nano Always (x + j) (x + j) 8 6 0xf0 0xf0) false p
    ≡ record { memory = p.memory; flags = set p.flags 6 (get_or p.memory (x + j) false) }
factor_step p x j h =
    let b : Bool = get_or p.memory (x + j) false in
    let z : Bool = get_or p.flags 8 false in
    one_flag Always (x + j) (x + j) 8 6 0xf0 0xf0 p h refl refl refl
    ∙ (λ i. record {
      memory = (ap (set p.memory (x + j)) (table_a b b z) ∙ set-get_or p.memory (x + j) false) i;
      flags = set p.flags 6 (table_a b b z i);
    })

-- where it is 0 nothing else happens
round_of_0 : (p q : Processor) (d x y : Span) (j total : ℕ) → Ready Always q
    → get_or q.memory (x.at + j) false ≡ false → Sofar p d total q
    → Sofar p d total (run (product_round d x y j) q)
unfolding product_round tabulate
round_of_0 p q d x y j total h zero_bit s =
    let fs : List Bool = set q.flags 6 false in
    let left : Processor = record { memory = q.memory; flags = fs } in
    let rest : List Nano = clear_flag (On 6) 7 ∷ each_bit (On 6) (above d j) (lowest y (d.len - j)) 7 7 0x96 0xe8 in
    let first : processor_after (nano Always (x.at + j) (x.at + j) 8 6 0xf0 0xf0) false q ≡ left =
    factor_step q x.at j h ∙ ap (λ (b : Bool). let r : Processor =
    record { memory = q.memory; flags = set q.flags 6 b } in r) zero_bit in
    let under : AllUnder (On 6) rest = (
      refl,
      (
        refl,
        under-each (On 6) (λ i. nano (On 6) (d.at + j + i) (y.at + i) 7 7 0x96 0xe8) (λ i. refl) (λ i. refl)
            0 (d.len - j),
      ),
    ) in
    let off : get_or fs 6 false ≡ false =
    get_or-set_same q.flags 6 false false (let long : length q.flags ≡ 16 = h.long in omega (arith, long)) in
    let zero_flag : get_or fs 8 false ≡ false = get_or-set_other q.flags 6 8 false false (λ e. omega (arith, e))
    ∙ h.zero_flag in
    let done : run (product_round d x y j) q ≡ left = ap (run rest) first
    ∙ run-unselected (On 6) rest left under zero_flag off in
    record {
      bits = s.bits;
      long = s.long;
      factor = false;
      carry = s.carry;
      dropped = s.dropped;
      state = done ∙ (λ i. record { memory = (s.state i).memory; flags = set (s.state i).flags 6 false })
          ∙ (λ i. record {
            memory = writes p.memory d.at s.bits;
            flags =
                flags_again p.flags s.factor s.carry false i;
          });
      sum = s.sum;
    }

-- y is apart from the part of d that is written
apart_above : (d y : Span) (j : ℕ) → j < d.len → y.len ≡ d.len → AreApart d y
    → (d.at + j ≤ y.at) ⊎ (y.at + (d.len - j) ≤ d.at + j)
apart_above d y j l e h =
    ⊎_elim (λ (a : d.at + d.len ≤ y.at). inl (omega arith)) (λ (b : y.at + y.len ≤ d.at). inr (omega (arith, e))) h

-- the bits of y that are added, and the others
low_and_high : (m : List Bool) (y j k n : ℕ) → j + k ≡ n
    → (r : ℕ) × (value (reads m y n) ≡ value (reads m y k) + 2 ^ k * r)
low_and_high m y j k n e =
    let whole : n ≡ k + j = omega (arith, e) in
    let parts : reads m y n ≡ reads m y k ++ drop k (reads m y n) =
    sym (take-append-drop k (reads m y n))
    ∙ ap (λ front. front ++ drop k (reads m y n)) (ap (λ (z : ℕ). take k (reads m y z)) whole ∙ take-reads m y k j) in (
      value (drop k (reads m y n)),
      ap value parts ∙ value-append (reads m y k) (drop k (reads m y n))
          ∙ ap (λ (z : ℕ). value (reads m y k) + 2 ^ z * value (drop k (reads m y n))) (length-reads m y k),
    )

-- where it is 1, y is added
round_of_1 : (p q : Processor) (d x y : Span) (j total : ℕ) → j < d.len → Ready Always q → length p.memory ≡ 4096
    → Factors d x y
    → get_or q.memory (x.at + j) false ≡ true → Sofar p d total q
    → Sofar p d (total + 2 ^ j * value (reads p.memory y.at d.len)) (run (product_round d x y j) q)
unfolding product_round
round_of_1 p q d x y j total l h wide fields one_bit s =
    let k : ℕ = d.len - j in
    let all : j + k ≡ d.len = omega (arith, l) in
    let whole : d.at + d.len ≤ 4096 = fields.whole in
    let long : length s.bits ≡ d.len = s.long in
    let fs : List Bool = set q.flags 6 true in
    let left : Processor = record { memory = q.memory; flags = fs } in
    let rest : List Nano = clear_flag (On 6) 7 ∷ each_bit (On 6) (above d j) (lowest y k) 7 7 0x96 0xe8 in
    let first : processor_after (nano Always (x.at + j) (x.at + j) 8 6 0xf0 0xf0) false q ≡ left =
    factor_step q x.at j h ∙ ap (λ (b : Bool). let r : Processor =
    record { memory = q.memory; flags = set q.flags 6 b } in r) one_bit in
    let ready : Ready (On 6) left = record {
      here = get_or-set_same q.flags 6 true false (let f : length q.flags ≡ 16 = h.long in omega (arith, f));
      zero_flag = get_or-set_other q.flags 6 8 true false (λ e. omega (arith, e)) ∙ h.zero_flag;
      long = length-set q.flags 6 true ∙ h.long;
    } in
    let m : List Bool = writes p.memory d.at s.bits in
    let memory_is : q.memory ≡ m = (λ i. (s.state i).memory) in
    let flags_are : q.flags ≡ set (set p.flags 6 s.factor) 7 s.carry = (λ i. (s.state i).flags) in
    let highs : List Bool = drop j s.bits in
    let lows : List Bool = take j s.bits in
    let addend : List Bool = reads p.memory y.at k in
    let low_long : length lows ≡ j = length-take-le j s.bits (omega (arith, long, l)) in
    let high_long : length highs ≡ k = length-drop j s.bits
    ∙ (let z : length s.bits - j ≡ k = omega (arith, long) in z) in
    let addend_long : length addend ≡ k = length-reads p.memory y.at k in
    let room : d.at + length s.bits ≤ length p.memory = omega (arith, long, wide, whole) in
    let xs : reads q.memory (d.at + j) k ≡ highs =
    ap (λ mem. reads mem (d.at + j) k) memory_is ∙ reads-writes_above p.memory d.at s.bits j k room (long ∙ sym all) in
    let beside : (d.at + length s.bits ≤ y.at) ⊎ (y.at + k ≤ d.at) =
    ⊎_elim (λ (a : d.at + d.len ≤ y.at). inl (omega (arith, long)))
    (λ (b : y.at + y.len ≤ d.at). inr (let e : y.len ≡ d.len = fields.second_len in omega (arith, e)))
    fields.second_apart in
    let ys : reads q.memory y.at k ≡ addend = ap (λ mem. reads mem y.at k) memory_is
    ∙ reads-writes_apart p.memory d.at s.bits y.at k beside in
    let rippled_is : run rest left ≡ record {
      memory = writes q.memory (d.at + j) (outs 0x96 0xe8 false (reads q.memory (d.at + j) k) (reads q.memory y.at k));
      flags = set fs 7 (carried 0xe8 false (reads q.memory (d.at + j) k) (reads q.memory y.at k));
    } = begun_ripple (On 6) 0x96 0xe8 false (clear_flag (On 6) 7) (above d j) (lowest y k) left ready
    (apart_above d y j l fields.second_len fields.second_apart) refl (clear_step (On 6) 7 left ready refl refl refl) in
    let sums : List Bool = outs 0x96 0xe8 false highs addend in
    let out : Bool = carried 0xe8 false highs addend in
    let same : length highs ≡ length addend = high_long ∙ sym addend_long in
    let sums_long : length sums ≡ k = length-outs 0x96 0xe8 false highs addend same ∙ high_long in
    let joined : lows ++ highs ≡ s.bits = take-append-drop j s.bits in
    let over : writes m (d.at + j) sums ≡ writes p.memory d.at (lows ++ sums) =
    ap (λ bs. writes (writes p.memory d.at bs) (d.at + j) sums) (sym joined)
    ∙ ap (λ mem. writes mem (d.at + j) sums) (writes-append p.memory d.at lows highs
    ∙ ap (λ (z : ℕ). writes (writes p.memory d.at lows) (d.at + z) highs) low_long)
    ∙ writes-over (writes p.memory d.at lows) (d.at + j) highs sums (high_long ∙ sym sums_long)
    ∙ sym (writes-append p.memory d.at lows sums
    ∙ ap (λ (z : ℕ). writes (writes p.memory d.at lows) (d.at + z) sums) low_long) in
    let y_parts : (r : ℕ) × (value (reads p.memory y.at d.len) ≡ value addend + 2 ^ k * r) =
    low_and_high p.memory y.at j k d.len all in
    let before : value s.bits ≡ value lows + 2 ^ j * value highs =
    ap value (sym joined) ∙ value-append lows highs ∙ ap (λ (z : ℕ). value lows + 2 ^ z * value highs) low_long in
    let after : value (lows ++ sums) ≡ value lows + 2 ^ j * value sums = value-append lows sums
    ∙ ap (λ (z : ℕ). value lows + 2 ^ z * value sums) low_long in
    let one : value sums + 2 ^ k * bit_number out ≡ value highs + value addend =
    ap (λ (z : ℕ). value sums + 2 ^ z * bit_number out) (sym high_long)
    ∙ sum-outs 0x96 0xe8 both adds_sum false highs addend same
    ∙ (let t : weighed both highs addend + 0 ≡ value highs + value addend =
    omega (arith, total-both highs addend same) in t) in
    let worth : (value lows + 2 ^ j * value sums) + 2 ^ d.len * (s.dropped + (y_parts.0 + bit_number out))
    ≡ total + 2 ^ j * (value addend + 2 ^ k * y_parts.0) =
    added (2 ^ d.len) (2 ^ j) (2 ^ k) (value lows) (value highs) (value sums) (value addend)
    y_parts.0 (bit_number out) s.dropped total
    (ap (λ (v : ℕ). v + 2 ^ d.len * s.dropped) (sym before) ∙ s.sum)
    one (shifted j k d.len (bit_number out) all) (shifted j k d.len y_parts.0 all) in
    record {
      bits = lows ++ sums;
      long = length-append lows sums
          ∙ (let z : length lows + length sums ≡ d.len = omega (arith, low_long, sums_long, all) in z);
      factor = true;
      carry = out;
      dropped = s.dropped + (y_parts.0 + bit_number out);
      state = ap (run rest) first ∙ rippled_is
          ∙ (λ i. record {
            memory = writes (memory_is i) (d.at + j) (outs 0x96 0xe8 false (xs i) (ys i));
            flags =
                set (set (flags_are i) 6 true) 7 (carried 0xe8 false (xs i) (ys i));
          })
          ∙ (λ i. record { memory = over i; flags = set (flags_again p.flags s.factor s.carry true i) 7 out })
          ∙ (λ i. record {
            memory = writes p.memory d.at (lows ++ sums);
            flags =
                set-set (set p.flags 6 true) 7 s.carry out i;
          });
      sum = ap (λ (v : ℕ). v + 2 ^ d.len * (s.dropped + (y_parts.0 + bit_number out))) after ∙ worth
          ∙ ap (λ (v : ℕ). total + 2 ^ j * v) (sym y_parts.1);
    }

-- a processor after some rounds is as whole as it was
sofar_ready : (p q : Processor) (d : Span) (total : ℕ) → Ready Always p → Sofar p d total q → Ready Always q
sofar_ready p q d total h s =
    let fs : q.flags ≡ set (set p.flags 6 s.factor) 7 s.carry = (λ i. (s.state i).flags) in
    record {
      here = refl;
      zero_flag = ap (λ flags. get_or flags 8 false) fs
          ∙ get_or-set_other (set p.flags 6 s.factor) 7 8 s.carry false (λ e. omega (arith, e))
          ∙ get_or-set_other p.flags 6 8 s.factor false (λ e. omega (arith, e)) ∙ h.zero_flag;
      long = ap length fs ∙ length-set (set p.flags 6 s.factor) 7 s.carry ∙ length-set p.flags 6 s.factor ∙ h.long;
    }

-- the factor's bit is the old one
factor_bit : (p q : Processor) (d x : Span) (j total : ℕ) → j < d.len → x.len ≡ d.len → AreApart d x
    → Sofar p d total q → get_or q.memory (x.at + j) false ≡ get_or p.memory (x.at + j) false
factor_bit p q d x j total l same apart s =
    let long : length s.bits ≡ d.len = s.long in
    let beside : (x.at + j < d.at) ⊎ (d.at + length s.bits ≤ x.at + j) =
    ⊎_elim (λ (a : d.at + d.len ≤ x.at). inr (omega (arith, long)))
    (λ (b : x.at + x.len ≤ d.at). inl (omega (arith, same))) apart in
    ap (λ (r : Processor). get_or r.memory (x.at + j) false) s.state
    ∙ get_or-writes p.memory d.at s.bits (x.at + j) beside

-- one bit more of the factor is worth as much more
factor_more : (m : List Bool) (a j : ℕ) (b : Bool) → get_or m (a + j) false ≡ b
    → value (reads m a (j + 1)) ≡ value (reads m a j) + 2 ^ j * bit_number b
factor_more m a j b is =
    ap value (reads_more m a j) ∙ value-append (reads m a j) (get_or m (a + j) false ∷ [])
    ∙ (λ i. value (reads m a j) + 2 ^ (length-reads m a j i) * (bit_number (is i) + 2 * 0))
    ∙ (let e : bit_number b + 2 * 0 ≡ bit_number b = omega arith in ap (λ (v : ℕ). value (reads m a j) + 2 ^ j * v) e)

-- what the rounds so far are worth
abbrev pub worth : Processor → Span → Span → Span → ℕ → ℕ
worth p d x y j = value (reads p.memory x.at j) * value (reads p.memory y.at d.len)

worth_of_0 : (p : Processor) (d x y : Span) (j : ℕ) → get_or p.memory (x.at + j) false ≡ false
    → worth p d x y j ≡ worth p d x y (j + 1)
worth_of_0 p d x y j is =
    let more : value (reads p.memory x.at (j + 1)) ≡ value (reads p.memory x.at j) + 2 ^ j * 0 =
    factor_more p.memory x.at j false is in
    let same : value (reads p.memory x.at j) ≡ value (reads p.memory x.at (j + 1)) =
    omega (arith, more, mul-zero (2 ^ j)) in
    ap (λ (v : ℕ). v * value (reads p.memory y.at d.len)) same

worth_of_1 : (p : Processor) (d x y : Span) (j : ℕ) → get_or p.memory (x.at + j) false ≡ true
    → worth p d x y j + 2 ^ j * value (reads p.memory y.at d.len) ≡ worth p d x y (j + 1)
worth_of_1 p d x y j is =
    let more : value (reads p.memory x.at (j + 1)) ≡ value (reads p.memory x.at j) + 2 ^ j * 1 =
    factor_more p.memory x.at j true is in
    let same : value (reads p.memory x.at (j + 1)) ≡ value (reads p.memory x.at j) + 2 ^ j =
    omega (arith, more, mul-one (2 ^ j)) in
    sym (ap (λ (v : ℕ). v * value (reads p.memory y.at d.len)) same
    ∙ add-mul (value (reads p.memory x.at j)) (2 ^ j) (value (reads p.memory y.at d.len)))

bool_cases : (b : Bool) → (b ≡ false) ⊎ (b ≡ true)
bool_cases true = inr refl
bool_cases false = inl refl

-- one round more
round : (p q : Processor) (d x y : Span) (j : ℕ) → j < d.len → Ready Always p → length p.memory ≡ 4096 → Factors d x y
    → Sofar p d (worth p d x y j) q → Sofar p d (worth p d x y (j + 1)) (run (product_round d x y j) q)
round p q d x y j l h wide fields s =
    let ready : Ready Always q = sofar_ready p q d (worth p d x y j) h s in
    let kept : get_or q.memory (x.at + j) false ≡ get_or p.memory (x.at + j) false =
    factor_bit p q d x j (worth p d x y j) l fields.first_len fields.first_apart s in
    ⊎_elim
    (λ (e : get_or p.memory (x.at + j) false ≡ false).
    subst (λ (t : ℕ). Sofar p d t (run (product_round d x y j) q)) (worth_of_0 p d x y j e)
    (round_of_0 p q d x y j (worth p d x y j) ready (kept ∙ e) s))
    (λ (e : get_or p.memory (x.at + j) false ≡ true).
    subst (λ (t : ℕ). Sofar p d t (run (product_round d x y j) q)) (worth_of_1 p d x y j e)
    (round_of_1 p q d x y j (worth p d x y j) l ready wide fields (kept ∙ e) s))
    (bool_cases (get_or p.memory (x.at + j) false))

rounds : (p : Processor) (d x y : Span) → Ready Always p → length p.memory ≡ 4096 → Factors d x y
    → (n j : ℕ) (q : Processor) → j + n ≡ d.len
    → Sofar p d (worth p d x y j) q
    → Sofar p d (worth p d x y d.len) (run (flat_map (product_round d x y) (range_with_len j n)) q)
rounds p d x y h wide fields zero j q e s = let all : j ≡ d.len = omega (arith, e) in
    subst (λ (k : ℕ). Sofar p d (worth p d x y k) q) all s
rounds p d x y h wide fields (suc n) j q e s =
    subst (λ (r : Processor). Sofar p d (worth p d x y d.len) r)
    (sym (run-append (product_round d x y j) (flat_map (product_round d x y) (range_with_len (j + 1) n)) q))
    (rounds p d x y h wide fields
    n (j + 1) (run (product_round d x y j) q) (omega (arith, e)) (round p q d x y j (omega (arith, e)) h wide fields s))

-- ---- all of it

-- the field is 0 at first
begun : (p : Processor) (d x y : Span) → Ready Always p → Sofar p d (worth p d x y 0) (run (number_bits Always d 0) p)
begun p d x y h =
    let u : Bool = get_or p.flags 6 false in
    let v : Bool = get_or (set p.flags 6 u) 7 false in
    record {
      bits = bits_of d.len 0;
      long = length-bits_of d.len 0;
      factor = u;
      carry = v;
      dropped = 0;
      state = numbered Always d 0 p h ∙ (λ i. record {
        memory = writes p.memory d.at (bits_of d.len 0);
        flags = sym (set-get_or (set p.flags 6 u) 7 false ∙ set-get_or p.flags 6 false) i;
      });
      sum =
          let none : value (bits_of d.len 0) ≡ 0 = value-bits_of d.len 0 ∙ zero-mod (2 ^ d.len) in
          omega (arith, none, mul-zero (2 ^ d.len), zero-mul (value (reads p.memory y.at d.len)));
    }

-- both flags are cleared
ended : (p q : Processor) (d : Span) (product : ℕ) → d.at + d.len ≤ 4096 → length p.memory ≡ 4096 → Ready Always p
    → Sofar p d product q
    → run (clear_flag Always 6 ∷ clear_flag Always 7 ∷ []) q
    ≡ record {
      memory = with_field p.memory d.at d.len (product % 2 ^ d.len);
      flags =
          set (set p.flags 6 false) 7 false;
    }
ended p q d product whole wide h s =
    let ready : Ready Always q = sofar_ready p q d product h s in
    let r : Processor = record { memory = q.memory; flags = set q.flags 6 false } in
    let ready_r : Ready Always r = ready-flag Always q.memory 6 false q tt refl ready in
    let long : length s.bits ≡ d.len = s.long in
    let fits : d.at + d.len ≤ length p.memory = omega (arith, wide, whole) in
    let small : value s.bits < 2 ^ d.len = rw long at (value_below s.bits) in
    ap (run (clear_flag Always 7 ∷ [])) (clear_step Always 6 q ready refl refl refl)
    ∙ clear_step Always 7 r ready_r refl refl refl
    ∙ (λ i. record { memory = (s.state i).memory; flags = set (set (s.state i).flags 6 false) 7 false })
    ∙ (λ i. record {
      memory = stored p.memory d.at d.len s.bits (product % 2 ^ d.len) fits
          long (low_part (2 ^ d.len) (value s.bits) s.dropped product small s.sum) i;
      flags = (ap (λ flags. set flags 7 false) (flags_again p.flags s.factor s.carry false)
          ∙ set-set (set p.flags 6 false) 7 s.carry false) i;
    })

pub mul_is : (d x y : Span) (p : Processor) → Whole Always p → Factors d x y
    → run (nanos (Mul d x y) Always) p ≡ assigned (Mul d x y) p
mul_is d x y p h fields =
    let begin : Processor = run (number_bits Always d 0) p in
    let wide : length p.memory ≡ 4096 = h.memory in
    let last : List Nano = clear_flag Always 6 ∷ clear_flag Always 7 ∷ [] in
    let all : Sofar p d (worth p d x y d.len) (run (product d x y) begin) =
    rounds p d x y h.ready wide fields d.len 0 begin (omega arith) (begun p d x y h.ready) in
    let factor : value (reads p.memory x.at d.len) ≡ value_of p x =
    ap (λ (n : ℕ). value (reads p.memory x.at n)) (sym fields.first_len)
    ∙ sym (read_value p x (let f : x.at + x.len ≤ 4096 = fields.first in omega (arith, wide, f))) in
    let other : value (reads p.memory y.at d.len) ≡ value_of p y =
    ap (λ (n : ℕ). value (reads p.memory y.at n)) (sym fields.second_len)
    ∙ sym (read_value p y (let f : y.at + y.len ≤ 4096 = fields.second in omega (arith, wide, f))) in
    run-append (number_bits Always d 0) (product d x y ++ last) p ∙ run-append (product d x y) last begin
    ∙ ended p (run (product d x y) begin) d (worth p d x y d.len) fields.whole wide h.ready all
    ∙ (λ i. record {
      memory = with_field p.memory d.at d.len (factor i * other i % 2 ^ d.len);
      flags =
          set (set p.flags 6 false) 7 false;
    })

-- A dimension step at a block: within it from the chip across, over its bounds from the parcel at the chip's own place.
use Rattle.std.proofs.Common.{◌≡◌, ℕ, ◌+◌, ◌-◌, ◌*◌, ◌<◌, ◌≤◌, ◌^◌, true, false, [], None, get_or, sym, ◌∙◌}
use Rattle.std.proofs.Common.{ap, ⊎_elim, arith}
use Rattle.std.proofs.lemmas.Bool.{cases_Bool, cases_lt, both_ways}
use Rattle.std.proofs.lemmas.Nat.{xor_block, xor_lt, pow_below, pow-add, pow_pos, mul-le}
use Rattle.std.specs.Prelude.{bit_xor}
use Rattle.std.specs.Int.Bits.{xor_zero_r}
use Rattle.cm_model.specs.Each.{tabulate}
use Rattle.cm_model.specs.Array.{nth_or_nil}
use Rattle.cm_model.specs.Machine.{Machine}
use Rattle.cm_model.specs.Steps.{Cross}
use Rattle.cm_model.specs.Wiring.{way_of}
use Rattle.cm_model.specs.Buffers.{outgoing, sent_across, buffer_after_dimension, machine_after_dimension}
use Rattle.cm_model.proofs.Each.{get_or-tabulate}
use Rattle.cm_blocks.specs.Parts.{Part, part, block, block_size, is_within, buffer_in}
use Rattle.cm_blocks.specs.Parcels.{Parcel, due, sender}
use Rattle.cm_blocks.specs.Steps.{mail_for, part_after}
use Rattle.cm_blocks.proofs.Cutting.{sliced-same, within-part, within-from, within-below}
use Rattle.cm_blocks.proofs.Local.{read-buffer}

-- block b ends within the machine
pub block-fits : (n k b : ℕ) → k ≤ n → b < 2 ^ k → b * block_size n k + block_size n k ≤ 2 ^ n
block-fits n k b h l =
    let whole : 2 ^ n ≡ 2 ^ k * 2 ^ (n - k) = ap (λ (z : ℕ). 2 ^ z) (let e : n ≡ k + (n - k) = omega arith in e)
    ∙ pow-add 2 k (n - k) in
    let most : (b + 1) * 2 ^ (n - k) ≤ 2 ^ k * 2 ^ (n - k) =
    mul-le (b + 1) (2 ^ (n - k)) (2 ^ k) (2 ^ (n - k)) (omega arith) (omega arith) in
    let split : (b + 1) * 2 ^ (n - k) ≡ b * 2 ^ (n - k) + 2 ^ (n - k) = grind arith in
    omega (arith, whole, most, split)

-- across one of the lower dimensions a chip stays in its block
low_across : (m b i d : ℕ) → d < m → i < 2 ^ m → bit_xor (b * 2 ^ m + i) (2 ^ d) ≡ b * 2 ^ m + bit_xor i (2 ^ d)
low_across m b i d h l =
    ap (λ (z : ℕ). bit_xor (b * 2 ^ m + i) z) (let e : 2 ^ d ≡ 0 * 2 ^ m + 2 ^ d = omega arith in e)
    ∙ (xor_block m b 0 i (2 ^ d) l (pow_below d m h)
    ∙ ap (λ (z : ℕ). z * 2 ^ m + bit_xor i (2 ^ d)) (xor_zero_r b))

-- so the chip across is in the block
pub stays_within : (n k b d : ℕ) (machine : Machine) (i : ℕ) → d < n - k → i < block_size n k
    → is_within (block n k b machine) (bit_xor (b * block_size n k + i) (2 ^ d)) ≡ true
unfolding part
stays_within n k b d machine i low inside =
    let other : ℕ = bit_xor (b * block_size n k + i) (2 ^ d) in
    let small : bit_xor i (2 ^ d) < block_size n k = xor_lt (n - k) i (2 ^ d) inside (pow_below d (n - k) low) in
    let there : other ≡ b * block_size n k + bit_xor i (2 ^ d) = low_across (n - k) b i d low inside in
    within-part (block n k b machine) other (omega (arith, there)) (omega (arith, there, small))

-- across one of the upper it has the same place in another
pub high_across : (m b i d : ℕ) → m ≤ d → i < 2 ^ m
    → bit_xor (b * 2 ^ m + i) (2 ^ d) ≡ bit_xor b (2 ^ (d - m)) * 2 ^ m + i
high_across m b i d h l =
    let upper : 2 ^ d ≡ 2 ^ (d - m) * 2 ^ m + 0 =
    ap (λ (z : ℕ). 2 ^ z) (let e : d ≡ (d - m) + m = omega arith in e) ∙ (pow-add 2 (d - m) m ∙ omega arith) in
    ap (λ (z : ℕ). bit_xor (b * 2 ^ m + i) z) upper
    ∙ (xor_block m b (2 ^ (d - m)) i 0 l (pow_pos m)
    ∙ ap (λ (z : ℕ). bit_xor b (2 ^ (d - m)) * 2 ^ m + z) (xor_zero_r i))

-- what comes to chip number i of a block
mail_is : (n cap k b d : ℕ) (machine : Machine) (i : ℕ) → k ≤ n → b < 2 ^ k → d < n → i < block_size n k →
    mail_for cap d (due n cap (Cross d) (block n k (sender n k (Cross d) b) machine)) (block n k b machine)
    (b * block_size n k + i)
    ≡ sent_across machine.routing cap d machine.buffers (bit_xor (b * block_size n k + i) (2 ^ d))
unfolding part due
mail_is n cap k b d machine i h l below inside =
    let m : ℕ = n - k in
    let s : Part = block n k b machine in
    let from : ℕ = sender n k (Cross d) b in
    let sent : Part = block n k from machine in
    let other : ℕ = bit_xor (b * block_size n k + i) (2 ^ d) in
    ⊎_elim
    (λ (e : is_within s other ≡ true). rw e (ap (outgoing (way_of machine.routing other d) cap d)
    (read-buffer (b * block_size n k) (block_size n k) machine other (within-from s other e) (within-below s other e))))
    (λ (e : is_within s other ≡ false). rw e
    (⊎_elim
    (λ (low : d < m).
    absurd (both_ways (is_within s other) e (stays_within n k b d machine i low inside)))
    (λ (high : m ≤ d).
    let there : other ≡ from * block_size n k + i = high_across m b i d high inside in
    let place : b * block_size n k + i - b * block_size n k ≡ i = omega arith in
    ap (λ (z : ℕ). get_or (tabulate (from * block_size n k) (block_size n k)
    (λ c. outgoing (way_of machine.routing c d) cap d (buffer_in sent c))) z None)
    place
    ∙ (get_or-tabulate (from * block_size n k) (block_size n k)
    (λ c. outgoing (way_of machine.routing c d) cap d (buffer_in sent c)) i None inside
    ∙ (ap (outgoing (way_of machine.routing (from * block_size n k + i) d) cap d)
    (read-buffer (from * block_size n k) (block_size n k) machine (from * block_size n k + i) (omega arith) (omega arith))
    ∙ ap (sent_across machine.routing cap d machine.buffers) (sym there))))
    (cases_lt d m)))
    (cases_Bool (is_within s other))

pub block-cross : (n cap k b d : ℕ) (machine : Machine) → k ≤ n → b < 2 ^ k → d < n →
    block n k b (machine_after_dimension n cap d machine)
    ≡ part_after n cap (Cross d) (due n cap (Cross d) (block n k (sender n k (Cross d) b) machine))
    (block n k b machine)
unfolding part machine_after_dimension part_after
block-cross n cap k b d machine h l below =
    let first : ℕ = b * block_size n k in
    let s : Part = block n k b machine in
    let parcel : Parcel = due n cap (Cross d) (block n k (sender n k (Cross d) b) machine) in
    let buffers = sliced-same [] first (block_size n k) (2 ^ n)
    (λ c. buffer_after_dimension (way_of machine.routing c d) cap d (nth_or_nil machine.buffers c)
    (sent_across machine.routing cap d machine.buffers (bit_xor c (2 ^ d))))
    (λ c. buffer_after_dimension (way_of machine.routing c d) cap d (buffer_in s c) (mail_for cap d parcel s c))
    (block-fits n k b h l)
    (λ i inside. λ j. buffer_after_dimension (way_of machine.routing (first + i) d) cap d
    (sym (read-buffer first (block_size n k) machine (first + i) (omega arith) (omega arith)) j)
    (sym (mail_is n cap k b d machine i h l below inside) j)) in
    λ j. record {
      first = first;
      count = block_size n k;
      chips = s.chips;
      buffers = buffers j;
      logs = s.logs;
      clock = machine.clock;
      routing = machine.routing;
    }

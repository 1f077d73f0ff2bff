-- How many bits numbers have, of which one is the greatest.
use Rattle.std.proofs.Common.{◌≡◌, ◌≢◌, ℕ, suc, zero, ◌+◌, ◌^◌, ◌<◌, Bool, Some, None}
use Rattle.std.proofs.Common.{ap, ◌∙◌, arith, eq-eqb, ne_eqb, if◌then◌else◌}
use Rattle.lab_data.specs.Pictures.{bits_from}

-- this is their length
pub bits_from-here : (greatest len left : ℕ) → 0 < left → greatest + 1 ≡ 2 ^ len
    → bits_from greatest len left ≡ Some len
unfolding bits_from
bits_from-here greatest len zero some is = absurd (omega arith)
bits_from-here greatest len (suc more) some is =
    ap (λ (b : Bool). if b then Some len else bits_from greatest (len + 1) more) (eq-eqb (greatest + 1) (2 ^ len) is)

-- it is another
pub bits_from-next : (greatest len left more : ℕ) → left ≡ suc more → greatest + 1 ≢ 2 ^ len
    → bits_from greatest len left ≡ bits_from greatest (len + 1) more
unfolding bits_from
bits_from-next greatest len left more next other =
    ap (λ (k : ℕ). bits_from greatest len k) next
    ∙ ap (λ (b : Bool). if b then Some len else bits_from greatest (len + 1) more)
    (ne_eqb (greatest + 1) (2 ^ len) other)

-- no length is left
pub bits_from-none : (greatest len left : ℕ) → left ≡ 0 → bits_from greatest len left ≡ None
unfolding bits_from
bits_from-none greatest len left none = ap (λ (k : ℕ). bits_from greatest len k) none

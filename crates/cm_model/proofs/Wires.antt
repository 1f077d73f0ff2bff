-- A wire is the same from either end, and nobody crosses it where it is cut.
use Rattle.std.proofs.Common.{◌≡◌, ℕ, ◌^◌, ◌<◌, Bool, true, List, [], None, refl, ap, sym, ◌∙◌, min, arith}
use Rattle.std.proofs.lemmas.List.{append-nil}
use Rattle.std.specs.Prelude.{bit_xor}
use Rattle.std.specs.List.{list_any}
use Rattle.cm_bits.specs.Wire.{Wire}
use Rattle.cm_model.specs.Wiring.{Routing, Way, wire_of, same_wire, is_cut, way_of}
use Rattle.cm_model.specs.declared.message.Message.{Message}
use Rattle.cm_model.specs.Array.{nth_or_nil}
use Rattle.cm_model.specs.Buffers.{leaving_place, outgoing, buffer_after_dimension, sent_across}
use Rattle.cm_model.specs.StepLaws.{StaysAsItIs}
use Rattle.cm_model.proofs.Each.{get_or-each_below}
use Rattle.cm_model.proofs.Flips.{xor_twice}

pub wire_across : (c d : ℕ) → wire_of (bit_xor c (2 ^ d)) d ≡ wire_of c d
wire_across c d =
    let back : bit_xor (bit_xor c (2 ^ d)) (2 ^ d) ≡ c = xor_twice c (2 ^ d) in
    let same : min (bit_xor c (2 ^ d)) (bit_xor (bit_xor c (2 ^ d)) (2 ^ d)) ≡ min c (bit_xor c (2 ^ d)) =
    omega (arith, back) in
    λ i. record { chip = same i; dim = d }

-- what is cut at one end is cut at the other
pub is_cut-across : (routing : Routing) (c d : ℕ) → is_cut routing (bit_xor c (2 ^ d)) d ≡ is_cut routing c d
is_cut-across routing c d = ap (λ (w : Wire). list_any (same_wire w) routing.cuts) (wire_across c d)

pub way_of-across : (routing : Routing) (c d : ℕ) → way_of routing (bit_xor c (2 ^ d)) d ≡ way_of routing c d
way_of-across routing c d = λ i. record { cut = is_cut-across routing c d i; rule = routing.rule }

-- ---- nobody crosses a cut wire

nobody_goes : (way : Way) (cap d : ℕ) (here : List Message) → way.cut ≡ true → outgoing way cap d here ≡ None
unfolding leaving_place
nobody_goes way cap d here e = rw e refl

all_stay : (way : Way) (cap d : ℕ) (here : List Message) → way.cut ≡ true
    → buffer_after_dimension way cap d here None ≡ here
unfolding buffer_after_dimension leaving_place
all_stay way cap d here e = rw e (append-nil here)

pub stays_as_it_is : (routing : Routing) (n cap d : ℕ) (buffers : List (List Message)) (c : ℕ) → c < 2 ^ n
    → is_cut routing c d ≡ true → StaysAsItIs routing n cap d buffers c
stays_as_it_is routing n cap d buffers c l cut =
    let across : ℕ = bit_xor c (2 ^ d) in
    let comes : sent_across routing cap d buffers across ≡ None =
    nobody_goes (way_of routing across d) cap d (nth_or_nil buffers across) (is_cut-across routing c d ∙ cut) in
    record {
      nobody_goes = nobody_goes (way_of routing c d) cap d (nth_or_nil buffers c) cut;
      nobody_comes = comes;
      same = get_or-each_below (2 ^ n)
          (λ b. buffer_after_dimension (way_of routing b d) cap d (nth_or_nil buffers b)
          (sent_across routing cap d buffers (bit_xor b (2 ^ d)))) c [] l
          ∙ (ap (buffer_after_dimension (way_of routing c d) cap d (nth_or_nil buffers c)) comes
          ∙ all_stay (way_of routing c d) cap d (nth_or_nil buffers c) cut);
    }

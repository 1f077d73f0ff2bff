-- A dimension at nodes, pair by pair.
use Rattle.std.proofs.Common.{◌≡◌, ℕ, ◌^◌, ◌<◌, Bool, true, List, [], length}
use Rattle.std.proofs.Common.{refl, sym, ap, ◌∙◌, arith, ◌≢◌, ◌≤◌, min}
use Rattle.std.specs.Prelude.{bit_xor}
use Rattle.std.specs.Int.Bits.{xor_self}
use Rattle.std.proofs.lemmas.List.{length-map, get_or-map, get_or_default, append-nil}
use Rattle.std.proofs.lemmas.Nat.{pow_pos, xor_comm}
use Rattle.std.specs.List.{All}
use Rattle.cm_model.specs.declared.rule.Rule.{Rule}
use Rattle.cm_model.specs.Array.{nth_or_nil}
use Rattle.cm_model.specs.Wiring.{Routing, Way, way_of}
use Rattle.cm_model.specs.Buffers.{leaving_place, outgoing, buffer_after_dimension, buffers_after_dimension}
use Rattle.cm_model.proofs.Each.{is_each}
use Rattle.cm_model.proofs.Flips.{xor_twice, across_below}
use Rattle.cm_model.proofs.Wires.{way_of-across}
use Rattle.cm_router.specs.Buffer.{Buffer, buffers_of}
use Rattle.cm_nodes.specs.Nodes.{no_node, node_at, exchanged}

-- the number across is another
pub across_differs : (c d : ℕ) → bit_xor c (2 ^ d) ≢ c
across_differs c d same =
    let none : 2 ^ d ≡ 0 = cc (xor_twice (2 ^ d) c, xor_comm (2 ^ d) c, xor_self c) in
    absurd (omega (arith, pow_pos d, none))

-- and sees the wire to this one as this one sees it
pub one_way : (routing : Routing) (c d : ℕ) → way_of routing (bit_xor c (2 ^ d)) d ≡ way_of routing c d
one_way = way_of-across

-- over a wire that is cut a node stays as it is
pub nothing_exchanged : {cut : Bool} (rule : Rule) (d : ℕ) (here there : Buffer) → cut ≡ true
    → here ≡ exchanged (record { cut = cut; rule = rule }) d here there
unfolding buffer_after_dimension leaving_place
nothing_exchanged rule d here there is = rw (is, append-nil here.messages) refl

-- the pairs that begin below a number have crossed, and the others are as before
pub record AreCrossed (routing : Routing) (d : ℕ) (before now : List Buffer) (count : ℕ) : Type 0 where
  pub done : (b : ℕ) → min b (bit_xor b (2 ^ d)) < count → b < length before
      → node_at now b ≡ exchanged (way_of routing b d) d (node_at before b) (node_at before (bit_xor b (2 ^ d)))
  pub rest : (b : ℕ) → count ≤ min b (bit_xor b (2 ^ d)) → node_at now b ≡ node_at before b

-- all pairs
pub crossed_all : (routing : Routing) (n room d : ℕ) (before now : List Buffer) → d < n → length before ≡ 2 ^ n
    → length now ≡ 2 ^ n → All (λ node. node.room ≡ room) before → AreCrossed routing d before now (2 ^ n)
    → (buffers_of now ≡ buffers_after_dimension routing n room d (buffers_of before))
    × All (λ node. node.room ≡ room) now
crossed_all routing n room d before now below long long_now rooms is =
    let read : (nodes : List Buffer) (b : ℕ) → b < length nodes
    → nth_or_nil (buffers_of nodes) b ≡ (node_at nodes b).messages =
    λ nodes b h. get_or-map (λ (b : Buffer). b.messages) nodes b no_node [] h in (
      is_each [] (2 ^ n) _ (buffers_of now) (length-map now (λ (b : Buffer). b.messages) ∙ long_now) (λ c l.
          let other : ℕ = bit_xor c (2 ^ d) in
          let here : c < length before = omega (arith, long) in
          let there : other < length before = omega (arith, across_below n d c below l, long) in
          rw (
            read now c (omega (arith, long_now)),
            is.done c (omega arith) here,
            read before c here,
            read before other there,
            rooms c no_node here,
            rooms other no_node there,
          ) (ap (λ (w : Way). buffer_after_dimension (way_of routing c d) room d (node_at before c).messages
          (outgoing w room d (node_at before other).messages)) (sym (way_of-across routing c d)))),
      λ c e l.
          let here : c < length before = omega (arith, long, long_now) in
          rw (get_or_default now c e no_node l, is.done c (omega arith) here) (rooms c no_node here),
    )

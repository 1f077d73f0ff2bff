-- A dimension at a part: within it, and each half by itself.
use Rattle.std.proofs.Common.{◌≡◌, ℕ, ◌+◌, ◌-◌, ◌*◌, ◌/◌, ◌%◌, ◌^◌, ◌<◌, ◌≤◌, true, List, [], ◌++◌, length, get_or}
use Rattle.std.proofs.Common.{refl, sym, ap, ◌∙◌, subst, arith}
use Rattle.std.specs.Prelude.{bit_xor, Option, None}
use Rattle.std.specs.List.{All}
use Rattle.std.specs.Option.{option_to_list}
use Rattle.std.specs.Int.Bits.{xor_zero_r}
use Rattle.std.proofs.lemmas.Bool.Decides.{nat_tests}
use Rattle.std.proofs.lemmas.Nat.{xor_block, xor_lt, pow_below, pow_pos}
use Rattle.cm_model.specs.declared.message.Message.{Message}
use Rattle.cm_model.specs.Each.{tabulate}
use Rattle.cm_model.specs.Array.{each_chip, nth_or_nil}
use Rattle.cm_model.specs.Steps.{Cross}
use Rattle.cm_model.specs.Wiring.{Way, way_of}
use Rattle.cm_model.specs.Buffers.{leaving_place, without, outgoing, buffer_after_dimension}
use Rattle.cm_model.proofs.Wires.{way_of-across}
use Rattle.cm_blocks.specs.Parts.{Part, is_within, buffer_in}
use Rattle.cm_blocks.specs.Parcels.{Blank, Mail, due}
use Rattle.cm_blocks.specs.Steps.{part_after, less, absorbed, mail_for}
use Rattle.cm_router_engine.specs.Standing.{InFlight}
use Rattle.cm_array.specs.declared.chip_state.ChipState.{ChipState}
use Rattle.cm_array.specs.Cuts.{PartView, part_view, IsPart}
use Rattle.cm_array.proofs.Banding.{each-from_other}

-- ---- what is made by place is made by number

-- a list that is made by place from 0 on is one that is made by number and place from a chip on
each-by_number : {X : Type 0} (d : X) (first count : ℕ) (f : ℕ → X) (g : ℕ → ℕ → X)
    → ((i : ℕ) → i < count → f i ≡ g (first + i) i) → tabulate 0 count f ≡ tabulate first count (λ c. g c (c - first))
each-by_number d first count f g same =
    each-from_other d first count f (λ c. g c (c - first))
    (λ i l. same i l ∙ ap (g (first + i)) (let e : i ≡ first + i - first = omega arith in e))

-- a part from whose buffers the leavers are out
pub less-Cross : (room d : ℕ) (s : Part) (buffers : List (List Message)) → length s.buffers ≡ s.count
    → buffers ≡ tabulate 0 (length s.buffers) (λ c. without (nth_or_nil s.buffers c)
    (leaving_place (way_of s.routing (s.first + c) d) room d (nth_or_nil s.buffers c)))
    → record s { buffers = buffers } ≡ less room (Cross d) s
unfolding less
less-Cross room d s buffers long is =
    let here = nth_or_nil s.buffers in
    let stay : ℕ → ℕ → List Message = λ k i. without (here i) (leaving_place (way_of s.routing k d) room d (here i)) in
    let by_number = each-by_number [] s.first s.count (λ i. stay (s.first + i) i) stay (λ i l. refl) in
    rw (is, long, by_number) refl

-- and the leavers are the mail that is due from it
pub due-Cross : (n room d : ℕ) (s : Part) (lane : List (Option Message)) → length s.buffers ≡ s.count
    → lane ≡ tabulate 0 (length s.buffers)
    (λ c. outgoing (way_of s.routing (s.first + c) d) room d (nth_or_nil s.buffers c))
    → Mail lane ≡ due n room (Cross d) s
unfolding due
due-Cross n room d s lane long is =
    let gone : ℕ → ℕ → Option Message = λ k i. outgoing (way_of s.routing k d) room d (nth_or_nil s.buffers i) in
    let by_number = each-by_number None s.first s.count (λ i. gone (s.first + i) i) gone (λ i l. refl) in
    rw (is, long, by_number) refl

-- a part whose buffers have taken in a mail
pub absorbed-Cross : (n room d : ℕ) (s : Part) (lane : List (Option Message)) (buffers : List (List Message))
    → length s.buffers ≡ s.count
    → buffers ≡ tabulate 0 (length s.buffers)
    (λ c. nth_or_nil s.buffers c ++ option_to_list (get_or lane c None))
    → record s { buffers = buffers } ≡ absorbed n room (Cross d) (Mail lane) s
unfolding absorbed
absorbed-Cross n room d s lane buffers long is =
    let came : ℕ → List Message = λ i. nth_or_nil s.buffers i ++ option_to_list (get_or lane i None) in
    let by_number = each-by_number [] s.first s.count came (λ k. came) (λ i l. refl) in
    rw (is, long, by_number) refl

-- ---- a dimension within it

-- across a dimension that a run spans a chip stays in it
stays_in : (span first i d : ℕ) → first % 2 ^ span ≡ 0 → d < span → i < 2 ^ span
    → bit_xor (first + i) (2 ^ d) ≡ first + bit_xor i (2 ^ d)
stays_in span first i d even below inside =
    let q : ℕ = first / 2 ^ span in
    let some : 0 < 2 ^ span = pow_pos span in
    let begins : q * 2 ^ span ≡ first = grind (arith, even, some) in
    let flip : 0 * 2 ^ span + 2 ^ d ≡ 2 ^ d = omega arith in
    rw (flip, xor_zero_r q, begins) at (xor_block span q 0 i (2 ^ d) inside (pow_below d span below))

-- so within the run, each chip by the way that it shares with the chip across
each_crossed : (room d span : ℕ) (s : Part) → d < span → s.first % 2 ^ span ≡ 0 → s.count ≡ 2 ^ span
    → each_chip span (λ c. buffer_after_dimension (way_of s.routing (s.first + c) d) room d (nth_or_nil s.buffers c)
    (outgoing (way_of s.routing (s.first + c) d) room d (nth_or_nil s.buffers (bit_xor c (2 ^ d)))))
    ≡ tabulate s.first s.count
    (λ c. buffer_after_dimension (way_of s.routing c d) room d (buffer_in s c) (mail_for room d Blank s c))
each_crossed room d span s below even many =
    rw (← many) (each-by_number [] s.first s.count _
    (λ c i. buffer_after_dimension (way_of s.routing c d) room d (nth_or_nil s.buffers i) (mail_for room d Blank s c))
    (λ i inside.
    let here : i < 2 ^ span = omega (arith, many) in
    let low : bit_xor i (2 ^ d) < 2 ^ span = xor_lt span i (2 ^ d) here (pow_below d span below) in
    let there : s.first + bit_xor i (2 ^ d) - s.first ≡ bit_xor i (2 ^ d) = omega arith in
    let is_in : is_within s (s.first + bit_xor i (2 ^ d)) ≡ true = grind (arith, nat_tests) in
    let other : ℕ = bit_xor (s.first + i) (2 ^ d) in
    let met : List Message = nth_or_nil s.buffers (bit_xor i (2 ^ d)) in
    let coming : mail_for room d Blank s (s.first + i) ≡ outgoing (way_of s.routing other d) room d met =
    rw (stays_in span s.first i d even below here, is_in, there) refl in
    ap (buffer_after_dimension (way_of s.routing (s.first + i) d) room d (nth_or_nil s.buffers i))
    (sym (coming ∙ ap (λ (w : Way). outgoing w room d met) (way_of-across s.routing (s.first + i) d)))))

-- a part whose messages have crossed a dimension that it spans
pub part_after-Cross : (n room d span : ℕ) (s : Part) (buffers : List (List Message)) → d < span
    → s.first % 2 ^ span ≡ 0 → s.count ≡ 2 ^ span
    → buffers ≡ each_chip span (λ c. buffer_after_dimension (way_of s.routing (s.first + c) d) room d
    (nth_or_nil s.buffers c)
    (outgoing (way_of s.routing (s.first + c) d) room d (nth_or_nil s.buffers (bit_xor c (2 ^ d)))))
    → record s { buffers = buffers } ≡ part_after n room (Cross d) Blank s
unfolding part_after
part_after-Cross n room d span s buffers below even many is =
    rw (is, each_crossed room d span s below even many) refl

-- ---- the part that is kept

-- with other messages it is the part after a step that changes these alone
pub view_crossed : (first : ℕ) (parts : ChipState) (old : PartView) (crossing : InFlight)
    (after : PartView → Part) → part_view first parts ≡ old
    → record (part_view first parts).part { buffers = crossing.buffers } ≡ after (part_view first parts)
    → part_view first (record parts { crossing = crossing })
    ≡ record old { part = after old; gathered = crossing.gathered }
view_crossed first parts old crossing after view is =
    let before = part_view first parts in
    subst (λ (k : PartView). part_view first (record parts { crossing = crossing })
    ≡ record k { part = after k; gathered = crossing.gathered }) view
    (λ t. record before { part = is t; gathered = crossing.gathered })

-- and stays one, if there are as many buffers, within the room
pub IsPart-crossed : (first : ℕ) (parts : ChipState) (crossing : InFlight) → IsPart first parts
    → length crossing.buffers ≡ length parts.crossing.buffers → All (λ ms. length ms ≤ parts.shape.room) crossing.buffers
    → IsPart first (record parts { crossing = crossing })
IsPart-crossed first parts crossing was many within = record {
  sized = was.sized;
  there = was.there;
  buffer_count = many ∙ was.buffer_count;
  log_count = was.log_count;
  within = within;
}

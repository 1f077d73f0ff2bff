-- A petit cycle of the whole machine, step after step.
use Rattle.std.proofs.Common.{◌≡◌, ℕ, zero, suc, ◌+◌, ◌-◌, ◌<◌, ◌≤◌, ◌^◌, List, [], length, refl, sym, ap}
use Rattle.std.proofs.Common.{◌∙◌, arith, add-one, subst}
use Rattle.std.specs.Prelude.{bit_xor}
use Rattle.std.proofs.lemmas.Bool.Decides.{nat_tests}
use Rattle.cm_model.specs.declared.act.Act.TheVariants as act
use Rattle.cm_model.specs.declared.message.Message.{Message}
use Rattle.cm_model.specs.Array.{each_chip, nth_or_nil}
use Rattle.cm_model.specs.Wiring.{Routing, Way, way_of}
use Rattle.cm_model.specs.Buffers.{leaving_place, outgoing, buffer_after_dimension, buffers_after_dimension, after_act}
use Rattle.cm_model.specs.Buffers.{machine_after_injection, machine_after_dimension, machine_after_delivery}
use Rattle.cm_model.specs.Machine.{Machine}
use Rattle.cm_model.specs.Steps.{Inject, Deliver}
use Rattle.cm_model.proofs.Cycles.{after_crossings, after_crossings-more, after_cycle-is}
use Rattle.cm_model.proofs.Each.{is_each}
use Rattle.cm_model.proofs.Flips.{across_below}
use Rattle.cm_model.proofs.Wires.{way_of-across}
use Rattle.cm_blocks.specs.Parcels.{Blank}
use Rattle.cm_blocks.specs.Parts.{Part}
use Rattle.cm_blocks.specs.Steps.{part_after}

-- the machine that a part from chip 0 on is
abbrev pub whole : Part → Machine
whole s = record { chips = s.chips; buffers = s.buffers; logs = s.logs; clock = s.clock; routing = s.routing }

from_0 : (c : ℕ) → c - 0 ≡ c
from_0 c = omega arith

pub injected_whole : (n room : ℕ) (s : Part) {t : Part} → s.first ≡ 0 → s.count ≡ 2 ^ n
    → t ≡ part_after n room Inject Blank s
    → whole t ≡ machine_after_injection n room (whole s)
unfolding machine_after_injection part_after
injected_whole n room s first count is = simp (first, count, from_0) at (ap whole is)

pub delivered_whole : (n room : ℕ) (s : Part) {t : Part} → s.first ≡ 0 → s.count ≡ 2 ^ n
    → t ≡ part_after n room Deliver Blank s → whole t ≡ machine_after_delivery n (whole s)
unfolding machine_after_delivery part_after
delivered_whole n room s first count is = simp (first, count, from_0) at (ap whole is)

-- where all chips cross, each by the way that it shares with the chip across
pub crossed_by_one_way : (routing : Routing) (n room d : ℕ) (old : List (List Message))
    → each_chip n (λ c. buffer_after_dimension (way_of routing (0 + c) d) room d (nth_or_nil old c)
    (outgoing (way_of routing (0 + c) d) room d (nth_or_nil old (bit_xor c (2 ^ d)))))
    ≡ buffers_after_dimension routing n room d old
crossed_by_one_way routing n room d old =
    let here : (c : ℕ) → way_of routing (0 + c) d ≡ way_of routing c d =
    λ c. ap (λ (k : ℕ). way_of routing k d) (omega arith) in
    let there : (c : ℕ) → way_of routing (0 + c) d ≡ way_of routing (bit_xor c (2 ^ d)) d =
    λ c. here c ∙ sym (way_of-across routing c d) in
    λ i. each_chip n (λ c. buffer_after_dimension (here c i) room d (nth_or_nil old c)
    (outgoing (there c i) room d (nth_or_nil old (bit_xor c (2 ^ d)))))

-- the machine after injection and so many dimensions
abbrev pub under_way : ℕ → ℕ → Machine → ℕ → Machine
under_way n room m d = after_crossings n room (machine_after_injection n room m) d

-- one dimension more
pub crossed_more : (n room : ℕ) (m : Machine) (d : ℕ) {now : Machine} {next : List (List Message)}
    → now ≡ after_crossings n room m d → next ≡ buffers_after_dimension now.routing n room d now.buffers
    → record now { buffers = next } ≡ after_crossings n room m (d + 1)
unfolding machine_after_dimension
crossed_more n room m d {now} {next} was is =
    (λ k. record now { buffers = is k }) ∙ ap (machine_after_dimension n room d) was
    ∙ sym (after_crossings-more n room m d)

-- the three phases are a petit cycle
pub cycle_is : (n room : ℕ) (m : Machine) {begun now after : Machine} → begun ≡ machine_after_injection n room m
    → now ≡ after_crossings n room begun n → after ≡ machine_after_delivery n now → after ≡ after_act n room m act.Cycle
cycle_is n room m injected crossed delivered =
    delivered ∙ ap (machine_after_delivery n) (crossed ∙ ap (λ (s : Machine). after_crossings n room s n) injected)
    ∙ sym (after_cycle-is n room m)

-- ---- where no message stands

stays_empty : (here there : Way) (room d : ℕ) → 0 < room
    → buffer_after_dimension here room d [] (outgoing there room d []) ≡ []
unfolding buffer_after_dimension leaving_place
stays_empty here there room d some = grind (arith, nat_tests)

-- nothing crosses
pub nothing_crosses : (n room : ℕ) (m : Machine) → 0 < room → length m.buffers ≡ 2 ^ n
    → ((c : ℕ) → c < 2 ^ n → nth_or_nil m.buffers c ≡ []) → (d : ℕ) → d ≤ n → m ≡ after_crossings n room m d
nothing_crosses n room m some long empty zero few = refl
nothing_crosses n room m some long empty (suc d) few =
    subst (λ (k : ℕ). m ≡ after_crossings n room m k) (add-one d)
    (crossed_more n room m d (nothing_crosses n room m some long empty d (omega arith))
    (is_each [] (2 ^ n) _ m.buffers long (λ c l.
    rw (empty c l, empty (bit_xor c (2 ^ d)) (across_below n d c (omega arith) l))
    (sym (stays_empty (way_of m.routing c d) (way_of m.routing (bit_xor c (2 ^ d)) d) room d some)))))

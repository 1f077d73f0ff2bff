-- A petit cycle where nobody asks to send, nobody is acknowledged and no message stands anywhere.
use Rattle.std.proofs.Common.{◌≡◌, ℕ, ◌+◌, ◌<◌, ◌^◌, List, [], length, refl, ap, arith}
use Rattle.std.specs.List.{All, list_any}
use Rattle.cm_model.specs.declared.act.Act.TheVariants as act
use Rattle.cm_model.specs.declared.message.Message.{Message}
use Rattle.cm_model.specs.declared.message.Event.{Event}
use Rattle.cm_model.specs.Array.{Chips, chip_at}
use Rattle.cm_model.specs.Letters.{has_arrived, chip_after_delivery}
use Rattle.cm_model.specs.Machine.{Machine}
use Rattle.cm_model.specs.Wiring.{Routing}
use Rattle.cm_model.specs.Buffers.{after_act}
use Rattle.cm_model.specs.Steps.{Inject, Deliver}
use Rattle.cm_blocks.specs.Parcels.{Blank}
use Rattle.cm_blocks.specs.Parts.{Part}
use Rattle.cm_blocks.specs.Steps.{part_after}
use Rattle.cm_router.specs.Idle.{IsIdle}
use Rattle.cm_petit.specs.Routers.{machine_from, part_from, HaveBuffers}
use Rattle.cm_petit.proofs.Making.{injecting, delivering, done_none, done_past, done_all}
use Rattle.cm_petit.proofs.Making.{injecting_nothing, delivering_nothing}
use Rattle.cm_petit.proofs.Cycling.{injected_whole, delivered_whole, cycle_is, nothing_crosses}

module _ (routing : Routing) (n room : ℕ) (chips : Chips) (buffers : List (List Message)) (logs : List (List Event))
    (are : HaveBuffers (2 ^ n) room chips buffers) (long : length logs ≡ 2 ^ n) (some : 0 < room)
    (empty : All (λ ms. ms ≡ []) buffers) where
  nothing_injected : (clock : ℕ) → ((c : ℕ) → c < length chips → IsIdle (chip_at chips c))
      → part_from routing 0 (2 ^ n) chips buffers logs clock
      ≡ part_after n room Inject Blank (part_from routing 0 (2 ^ n) chips buffers logs clock)
  unfolding part_after
  nothing_injected clock idle = done_all {f = injecting n room clock} _ _
      (done_past (2 ^ n) (done_none are.chip_count are.buffer_count long) (omega arith)
      (λ k from l e. injecting_nothing n room clock (0 + k) _ (idle k (omega (arith, l, are.chip_count))))) (omega arith)

  nothing_delivered : (clock : ℕ)
      → ((c : ℕ) → c < length chips → chip_at chips c ≡ chip_after_delivery [] (chip_at chips c))
      → part_from routing 0 (2 ^ n) chips buffers logs (clock + 1)
      ≡ part_after n room Deliver Blank (part_from routing 0 (2 ^ n) chips buffers logs clock)
  unfolding part_after
  nothing_delivered clock same = done_all {f = delivering} _ _
      (done_past (2 ^ n) (done_none are.chip_count are.buffer_count long) (omega arith)
      (λ k from l e. delivering_nothing _ _ _ e
      (ap (list_any has_arrived) (empty k [] (omega (arith, l, are.buffer_count))))
      (same k (omega (arith, l, are.chip_count))))) (omega arith)

  -- it changes nothing but the counter
  pub resting : (clock : ℕ) → ((c : ℕ) → c < length chips → IsIdle (chip_at chips c))
      → ((c : ℕ) → c < length chips → chip_at chips c ≡ chip_after_delivery [] (chip_at chips c))
      → machine_from routing chips buffers logs (clock + 1)
      ≡ after_act n room (machine_from routing chips buffers logs clock) act.Cycle
  resting clock idle same =
      let part : Part = part_from routing 0 (2 ^ n) chips buffers logs clock in
      let machine : Machine = machine_from routing chips buffers logs clock in
      cycle_is n room machine (injected_whole n room part refl refl (nothing_injected clock idle))
      (nothing_crosses n room machine some are.buffer_count (λ k l. empty k [] (omega (arith, l, are.buffer_count))) n
      (omega arith))
      (delivered_whole n room part refl refl (nothing_delivered clock same))

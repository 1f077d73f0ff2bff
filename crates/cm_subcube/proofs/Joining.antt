-- The blocks of a machine in their order are that machine.
use Rattle.std.proofs.Common.{◌≡◌, ℕ, zero, suc, ◌<◌, ◌≤◌, ◌^◌, refl, sym, ap, ◌∙◌, subst, arith}
use Rattle.std.specs.List.{range_with_len}
use Rattle.std.proofs.lemmas.Nat.{pow_pos}
use Rattle.std.proofs.lemmas.List.Elements.{All-from_get_or}
use Rattle.std.proofs.lemmas.List.Folds.{flat_map-map}
use Rattle.cm_model.specs.Wiring.{Routing}
use Rattle.cm_model.specs.Machine.{Machine}
use Rattle.cm_model.specs.Keeping.{IsMachine}
use Rattle.cm_model.specs.Each.{tabulate}
use Rattle.cm_model.proofs.Each.{length-tabulate, get_or-each_below}
use Rattle.cm_blocks.specs.Parts.{Part, part, block}
use Rattle.cm_blocks.specs.Laws.{AreJoined}
use Rattle.cm_blocks.proofs.Joining.{blocks_are_the_whole}
use Rattle.cm_array.specs.Cuts.{first_clock, first_routing, joined, AreWhole}
use Rattle.cm_subcube.specs.Laws.{all_blocks}

pub clock-block : (n k b : ℕ) (machine : Machine) → (block n k b machine).clock ≡ machine.clock
unfolding part
clock-block n k b machine = refl

first_clock-made : (f : ℕ → Part) (count clock : ℕ) → 0 < count → ((b : ℕ) → (f b).clock ≡ clock)
    → first_clock (tabulate 0 count f) ≡ clock
unfolding tabulate
first_clock-made f zero clock some each = absurd (omega (arith, some))
first_clock-made f (suc count) clock some each = each 0

routing-block : (n k b : ℕ) (machine : Machine) → (block n k b machine).routing ≡ machine.routing
unfolding part
routing-block n k b machine = refl

first_routing-made : (f : ℕ → Part) (count : ℕ) (routing : Routing) → 0 < count
    → ((b : ℕ) → (f b).routing ≡ routing)
    → first_routing (tabulate 0 count f) ≡ routing
unfolding tabulate
first_routing-made f zero routing some each = absurd (omega (arith, some))
first_routing-made f (suc count) routing some each = each 0

module _ (n cap k : ℕ) (machine : Machine) (within : k ≤ n) (is : IsMachine n cap machine) where
  are : AreJoined n k machine
  are = blocks_are_the_whole n k machine within is.chip_count is.buffer_count is.log_count

  first_clock-blocks : first_clock (all_blocks n k machine) ≡ machine.clock
  first_clock-blocks =
      first_clock-made (λ b. block n k b machine) (2 ^ k) machine.clock (pow_pos k) (λ b. clock-block n k b machine)

  first_routing-blocks : first_routing (all_blocks n k machine) ≡ machine.routing
  first_routing-blocks =
      first_routing-made (λ b. block n k b machine) (2 ^ k) machine.routing (pow_pos k)
      (λ b. routing-block n k b machine)

  pub joined-blocks : joined (all_blocks n k machine) ≡ machine
  unfolding tabulate
  joined-blocks = λ i. record {
    chips = (flat_map-map (λ (s : Part). s.chips) (λ b. block n k b machine) (range_with_len 0 (2 ^ k)) ∙ are.chips) i;
    buffers = (flat_map-map (λ (s : Part). s.buffers) (λ b. block n k b machine) (range_with_len 0 (2 ^ k))
        ∙ are.buffers) i;
    logs = (flat_map-map (λ (s : Part). s.logs) (λ b. block n k b machine) (range_with_len 0 (2 ^ k)) ∙ are.logs) i;
    clock = first_clock-blocks i;
    routing = first_routing-blocks i;
  }

  pub AreWhole-blocks : AreWhole n cap (all_blocks n k machine)
  AreWhole-blocks = record {
    machine = subst (λ (m : Machine). IsMachine n cap m) (sym joined-blocks) is;
    clock = All-from_get_or (λ (s : Part). s.clock ≡ first_clock (all_blocks n k machine)) (all_blocks n k machine)
        (block n k 0 machine)
        (λ b l. ap (λ (s : Part). s.clock)
        (get_or-each_below (2 ^ k) (λ j. block n k j machine) b (block n k 0 machine)
        (omega (arith, l, length-tabulate 0 (2 ^ k) (λ j. block n k j machine))))
        ∙ clock-block n k b machine ∙ sym first_clock-blocks);
    routing = All-from_get_or (λ (s : Part). s.routing ≡ first_routing (all_blocks n k machine)) (all_blocks n k machine)
        (block n k 0 machine)
        (λ b l. ap (λ (s : Part). s.routing)
        (get_or-each_below (2 ^ k) (λ j. block n k j machine) b (block n k 0 machine)
        (omega (arith, l, length-tabulate 0 (2 ^ k) (λ j. block n k j machine))))
        ∙ routing-block n k b machine ∙ sym first_routing-blocks);
  }

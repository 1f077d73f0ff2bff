use Rattle.std.proofs.Common.{◌≡◌, ℕ, ◌^◌, ◌∙◌, [], false, replicate, ap, length}
use Rattle.cm_model.specs.Processor.{blank_processor}
use Rattle.cm_model.specs.Chip.{each_processor, blank_chip}
use Rattle.cm_model.specs.Array.{each_chip}
use Rattle.cm_model.specs.declared.rule.Rule.TheVariants.{First}
use Rattle.cm_model.specs.Wiring.{plain_routing}
use Rattle.cm_model.specs.Machine.{Machine, blank_machine}
use Rattle.cm_model.proofs.Each.{length-tabulate}
use Rattle.cm_plain.proofs.router.PlainRouter.blank.Goals as goal

-- a machine with nothing in it, and so many memory bits in each processor
abbrev bare : ℕ → ℕ → Machine
bare n addresses = record {
  chips = each_chip n (λ c. each_processor
      (λ p. record { memory = replicate addresses false; flags = replicate 16 false }));
  buffers = each_chip n (λ c. []);
  logs = each_chip n (λ c. []);
  clock = 0;
  routing = plain_routing;
}

-- with 4,096 of them it is the blank machine
bare-whole : (n addresses : ℕ) → addresses ≡ 4096 → bare n addresses ≡ blank_machine n
unfolding blank_machine blank_chip blank_processor
bare-whole n addresses full = ap (bare n) full

pub invariant_of-result : goal.invariant_of-result
invariant_of-result g c = (
  c.requires.dimension,
  ap length c.in_ok-buffers.ensures.value ∙ length-tabulate 0 (2 ^ g.row.N) _,
  ap length c.in_ok-logs.ensures.value ∙ length-tabulate 0 (2 ^ g.row.N) _,
)

pub returns-clause-blank : goal.returns-clause-blank
returns-clause-blank g c = λ full.
    (λ i. record {
      chips = c.in_ok-chips.ensures.value i;
      buffers = c.in_ok-buffers.ensures.value i;
      logs = c.in_ok-logs.ensures.value i;
      clock = 0;
      routing = record { cuts = c.new.ensures.items i; rule = First };
    }) ∙ bare-whole g.row.N c.args.addresses full

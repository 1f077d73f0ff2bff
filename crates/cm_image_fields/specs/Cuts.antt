-- How an image tells that a machine routes, put into the machine: ours.
use Rattle.std.specs.Prelude.{ℕ, List, [], ◌∷◌, ◌++◌}
use Rattle.cm_bits.specs.Wire.{Wire}
use Rattle.cm_model.specs.Wiring.{Routing, rule_number}
use Rattle.cm_model.specs.Machine.{Machine}
use Rattle.cm_image_format.specs.Header.{Head}
use Rattle.cm_image_fields.specs.declared.header.Header.{Header}

-- the header of an image of these sizes
abbrev pub header_of : ℕ → ℕ → Header → Head × ℕ
header_of n cap header = (
  record { version = header.version; dimension = n; room = cap; rule = rule_number header.rule },
  header.clock,
)

-- the machine that routes so
abbrev pub with_routing : Machine → Routing → Machine
with_routing machine routing = record machine { routing = routing }

-- the machine of which these wires are cut
abbrev pub with_cuts : Machine → List Wire → Machine
with_cuts machine cuts = with_routing machine (record machine.routing { cuts = cuts })

-- the machine of which one wire more is cut, behind all others
abbrev pub with_cut : Machine → Wire → Machine
with_cut machine w = with_cuts machine (machine.routing.cuts ++ w ∷ [])

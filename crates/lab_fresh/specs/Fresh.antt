-- Blank machines of any room, with wires cut and by either rule: which there are, and their images. Ours.
use Rattle.std.specs.Prelude.{ℕ, ◌^◌, ◌==◌, ◌&&◌, ◌||◌, not, Bool, List, [], Option, Some, None, Result, Ok, Err, fold}
use Rattle.std.specs.Prelude.{nat_lt, if◌then◌else◌}
use Rattle.std.specs.List.{find}
use Rattle.cm_bits.specs.Wire.{Wire}
use Rattle.cm_model.specs.declared.rule.Rule.{Rule}
use Rattle.cm_model.specs.Wiring.{Routing, wire_of}
use Rattle.cm_model.specs.Machine.{Machine, blank_machine}
use Rattle.cm_router.specs.Cuts.{with_wire}
use Rattle.cm_image_format.specs.Cuts.{rule_of}
use Rattle.cm_image_format.specs.Whole.{text_of}
use Rattle.lab_fresh.specs.declared.blanks.WireEnd.{WireEnd}
use Rattle.lab_fresh.specs.declared.blanks.FreshFault.{FreshFault}
use Rattle.lab_fresh.specs.declared.blanks.FreshFault.TheVariants.{Dimension, Room, Wire as no_wire, Rule as no_rule}

-- a chip and a dimension of a cube of n dimensions
abbrev pub is_end : ℕ → WireEnd → Bool
is_end n end = nat_lt end.chip (2 ^ n) && nat_lt end.dim n

-- a chip and a dimension that a cube of n dimensions has not
abbrev pub is_stray : ℕ → WireEnd → Bool
is_stray n end = not (is_end n end)

-- these wires and those with these ends: each once, in their order
abbrev pub wires_with : List Wire → List WireEnd → List Wire
wires_with wires ends = fold (λ all end. with_wire (wire_of end.chip end.dim) all) wires ends

-- the wires with these ends are cut, and routers choose by this rule
abbrev pub fresh_routing : List WireEnd → Rule → Routing
fresh_routing ends rule = record { cuts = wires_with [] ends; rule = rule }

-- the blank machine of 2^n chips of which the wires with these ends are cut, and which routes by this rule
abbrev pub fresh_machine : ℕ → List WireEnd → Rule → Machine
fresh_machine n ends rule = record (blank_machine n) { routing = fresh_routing ends rule }

-- the fault of an end that the cube has not, if there is one
abbrev pub wire_fault : ℕ → Option WireEnd → Option FreshFault
wire_fault n None = None
wire_fault n (Some end) = Some (no_wire n end.chip end.dim)

-- the earlier fault, or the later if there is no earlier one
abbrev pub or_fresh_fault : Option FreshFault → Option FreshFault → Option FreshFault
or_fresh_fault None later = later
or_fresh_fault (Some fault) later = Some fault

-- the first fault: of the dimension, the room, the ends in their order, the rule
abbrev pub fresh_fault : ℕ → ℕ → List WireEnd → ℕ → Option FreshFault
fresh_fault n room ends rule =
    if nat_lt 12 n then Some (Dimension n)
    else if room == 0 || nat_lt 15 room then Some (Room room)
    else or_fresh_fault (wire_fault n (find (is_stray n) ends)) (if nat_lt 1 rule then Some (no_rule rule) else None)

-- the text, unless there is a fault
abbrev pub unless_fault : Option FreshFault → List ℕ → Result (List ℕ) FreshFault
unless_fault None text = Ok text
unless_fault (Some fault) text = Err fault

-- the image of the blank machine that is asked for, or the first fault
unfoldable pub fresh_of : ℕ → ℕ → List WireEnd → ℕ → Result (List ℕ) FreshFault
fresh_of n room ends rule =
    unless_fault (fresh_fault n room ends rule) (text_of n room (fresh_machine n ends (rule_of rule)))

-- How a machine routes, in its image: the wires that are cut, and the rule. Ours.
use Rattle.std.specs.Prelude.{ℕ, ◌+◌, ◌*◌, ◌/◌, ◌^◌, ◌==◌, ◌&&◌, ◌||◌, not, Bool, List, [], ◌∷◌, ◌++◌, Some, None, Ok}
use Rattle.std.specs.Prelude.{length, nat_lt, nat_le, if◌then◌else◌}
use Rattle.std.specs.List.{flat_map}
use Rattle.std.specs.Int.{w8, w16}
use Rattle.cm_bits.specs.Bit.{bit}
use Rattle.cm_bits.specs.Wire.{Wire}
use Rattle.cm_model.specs.declared.rule.Rule.{Rule}
use Rattle.cm_model.specs.declared.rule.Rule.TheVariants.{First, Oldest}
use Rattle.cm_model.specs.Wiring.{Routing, rule_number}
use Rattle.cm_message.specs.Bytes.{number_bytes}
use Rattle.cm_image_format.specs.declared.fault.ImageFault.TheVariants.{Order, Count, Value}
use Rattle.cm_image_format.specs.Reading.{Read, Check, must, checked_number, followed, made, counted}
use Rattle.cm_image_format.specs.Header.{Head}

-- ---- the wires that are cut

-- a chip of the cube
abbrev pub chip_number_part : ℕ → List ℕ → Read ℕ
chip_number_part n = checked_number w16 (must Value (λ k. nat_lt k (2 ^ n)))

-- the chip at its lower end, and its dimension
abbrev pub cut_text : Wire → List ℕ
cut_text w = number_bytes w16 w.chip ++ number_bytes w8 w.dim

-- the dimension is one of the cube, and the chip is the lower end; the pair lies above the pair before
abbrev pub cut_fault : ℕ → ℕ → ℕ → Check
cut_fault n least chip dim =
    if nat_le n dim || bit chip dim then Some Value else if nat_lt (chip * 16 + dim) least then Some Order else None

-- a cut wire as it is read: its chip and its dimension, which `cut_fault` judges
abbrev pub cut_part : ℕ → ℕ → List ℕ → Read Wire
cut_part n least = made (λ x. record { chip = x.0; dim = x.1 })
    (followed (chip_number_part n) (λ chip. checked_number w8 (cut_fault n least chip)))

-- the least pair that may follow, as a number
abbrev pub after_cut : ℕ → Wire → ℕ
after_cut least w = w.chip * 16 + w.dim + 1

-- as many as the cube has wires at most; and under the first rule one at least
abbrev pub is_cut_count : ℕ → ℕ → ℕ → Bool
is_cut_count n rule k = nat_le k (n * 2 ^ n / 2) && not (k == 0 && rule == 0)

-- a count, and as many wires
abbrev pub listed_cuts_text : List Wire → List ℕ
listed_cuts_text cuts = number_bytes w16 (length cuts) ++ flat_map cut_text cuts

-- a count and as many cut wires as they are read, each pair above the one before
abbrev pub listed_cuts_part : ℕ → ℕ → List ℕ → Read (List Wire)
listed_cuts_part n rule = counted w16 (must Count (is_cut_count n rule)) after_cut (cut_part n) 0

-- how the cut wires are written: in version 1 there are none
abbrev pub cuts_text : ℕ → List Wire → List ℕ
cuts_text version cuts = if version == 1 then [] else listed_cuts_text cuts

-- the cut wires as they are read: in version 1 no byte is read, and there are none
abbrev pub cuts_part : ℕ → ℕ → ℕ → List ℕ → Read (List Wire)
cuts_part version n rule bytes = if version == 1 then Ok ([], bytes) else listed_cuts_part n rule bytes

-- ---- how a machine routes

-- the version that tells a routing of this rule and these cuts
abbrev pub version_by : Rule → List Wire → ℕ
version_by First [] = 1
version_by First (w ∷ ws) = 2
version_by Oldest cuts = 2

-- the version of the image of a machine that routes so
abbrev pub version_of : Routing → ℕ
version_of routing = version_by routing.rule routing.cuts

-- the first eight bytes of a machine of these sizes that routes so, and its cuts
abbrev pub head_of : ℕ → ℕ → Routing → Head
head_of n cap routing =
    record { version = version_of routing; dimension = n; room = cap; rule = rule_number routing.rule }

-- how the cut wires of a routing are written; its rule stands in the head
abbrev pub routing_text : Routing → List ℕ
routing_text routing = cuts_text (version_of routing) routing.cuts

-- the rule of a number
abbrev pub rule_of : ℕ → Rule
rule_of k = if k == 0 then First else Oldest

-- the routing of an image with this head
abbrev pub routing_part : ℕ → Head → List ℕ → Read Routing
routing_part n head =
    made (λ cuts. record { cuts = cuts; rule = rule_of head.rule }) (cuts_part head.version n head.rule)

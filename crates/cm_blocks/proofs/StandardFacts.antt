-- Worked values of the definitions, which the checker computes: rounds, senders, edges.
use Rattle.std.proofs.Common.{◌≡◌, true, false, [], ◌∷◌, length, replicate, refl}
use Rattle.cm_bits.specs.declared.plane.Dir.TheVariants.{North, South}
use Rattle.cm_model.specs.Wiring.{plain_routing}
use Rattle.cm_model.specs.declared.act.Nano.{Nano}
use Rattle.cm_model.specs.declared.act.Act.TheVariants as act
use Rattle.cm_model.specs.Steps.{Instruct, Inject, Cross, Deliver, steps_in}
use Rattle.cm_blocks.specs.Rounds.{is_round, rounds, until_round, steps_until, steps_between, steps_after_round}
use Rattle.cm_blocks.specs.Counts.{events_in}
use Rattle.cm_blocks.specs.Parts.{Part, is_within}
use Rattle.cm_blocks.specs.Parcels.{sender, sender_over, edge_row}

-- NEWS northward, and DAISY
abbrev north : Nano
north = record {
  a = 0;
  b = 0;
  read = 0;
  write = 10;
  cond = 8;
  sense = false;
  mem_table = 0xf0;
  flag_table = 0xaa;
  dir = North;
}

abbrev daisy : Nano
daisy = record north { write = 11 }

-- ---- two chips in two blocks: NEWS northward is a round, the chain is none,
-- the last dimension of each petit cycle is one

four_acts_have_two_rounds :
    steps_in (rounds 1 1 (act.Nano north ∷ act.Nano daisy ∷ act.Sense ∷ act.Cycle ∷ [])) ≡ Instruct north ∷ Cross 0 ∷ []
four_acts_have_two_rounds = refl

uncut_machines_have_none : rounds 1 0 (act.Nano north ∷ act.Cycle ∷ []) ≡ []
uncut_machines_have_none = refl

until_the_second : steps_until 1 1 (act.Nano north ∷ act.Nano daisy ∷ act.Cycle ∷ []) 1
    ≡ Instruct north ∷ Instruct daisy ∷ Inject ∷ []
until_the_second = refl

between_the_first_two : steps_between 1 1 (act.Nano north ∷ act.Nano daisy ∷ act.Cycle ∷ []) 0
    ≡ Instruct daisy ∷ Inject ∷ []
between_the_first_two = refl

behind_the_last : steps_between 1 1 (act.Nano north ∷ act.Nano daisy ∷ act.Cycle ∷ []) 1 ≡ Deliver ∷ []
behind_the_last = refl

-- ---- sixteen chips in four blocks: two rounds for each of 64 petit cycles

rounds_of_64_cycles : length (rounds 4 2 (replicate 64 act.Cycle)) ≡ 128
rounds_of_64_cycles = refl

lower_dimensions_are_none : is_round 4 2 (Cross 1) ≡ false
lower_dimensions_are_none = refl

over_the_cube : sender 4 2 (Cross 3) 1 ≡ 3
over_the_cube = refl

over_the_lower_cut : sender 4 2 (Cross 2) 1 ≡ 0
over_the_lower_cut = refl

-- over the torus the first block gets from the last, and the last from the first
from_below : sender_over 2 North 3 ≡ 0
from_below = refl

from_above : sender_over 2 South 0 ≡ 3
from_above = refl

-- block 1 of the four has the second row of chips: rows 4 to 7 of the grid
abbrev second : Part
second = record { first = 4; count = 4; chips = []; buffers = []; logs = []; clock = 0; routing = plain_routing }

its_first_row : edge_row 4 North second ≡ 4
its_first_row = refl

its_last_row : edge_row 4 South second ≡ 7
its_last_row = refl

its_chips : is_within second 7 ≡ true
its_chips = refl

not_its_chips : is_within second 8 ≡ false
not_its_chips = refl

behind_the_first : steps_after_round 1 1 (act.Nano north ∷ act.Nano daisy ∷ act.Cycle ∷ []) 0
    ≡ Instruct daisy ∷ Inject ∷ Cross 0 ∷ Deliver ∷ []
behind_the_first = refl

until_dimension_one : until_round 2 1 (Inject ∷ Cross 0 ∷ Cross 1 ∷ Deliver ∷ []) ≡ Inject ∷ Cross 0 ∷ []
until_dimension_one = refl

a_cycle_with_room_for_seven : events_in 7 (Inject ∷ Cross 0 ∷ Deliver ∷ []) ≡ 11
a_cycle_with_room_for_seven = refl

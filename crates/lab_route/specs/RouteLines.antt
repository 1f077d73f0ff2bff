-- The lines of a route, one for each petit cycle, as texts. Ours.
use Rattle.std.specs.Prelude.{ℕ, ◌+◌, ◌^◌, ◌%◌, ◌==◌, ◌&&◌, Bool, List, [], ◌∷◌, ◌++◌, bit_xor, codes, decimal, if◌then◌else◌}
use Rattle.std.specs.List.{flat_map, range_with_len}
use Rattle.cm_bits.specs.Bit.{bit}
use Rattle.cm_bits.specs.declared.place.Place.{Place}
use Rattle.cm_model.specs.declared.message.Message.{Message}
use Rattle.cm_model.specs.declared.message.Tag.{Tag}
use Rattle.cm_model.specs.Router.{target_from}
use Rattle.lab_route.specs.declared.waits.Wait.{Wait}
use Rattle.lab_route.specs.declared.waits.Wait.TheVariants.{Cut, Behind, Unfetched, Second}
use Rattle.lab_route.specs.declared.whereabouts.Stand.{Stand}

-- in a petit cycle each dimension is crossed at most once, in rising order, and the chip's bit changes: so a message
-- that came from one chip to another crossed those in whose bits the two differ
abbrev pub is_crossed : ℕ → ℕ → ℕ → Bool
is_crossed from to d = bit (bit_xor from to) d

-- the chip on its way behind dimension d: up to that bit it is the last one, above it the first
abbrev pub chip_behind : ℕ → ℕ → ℕ → ℕ
chip_behind from to d = bit_xor from (bit_xor from to % 2 ^ (d + 1))

-- over dimension d it comes to this chip
abbrev pub step_text : ℕ → ℕ → ℕ → List ℕ
step_text from to d = if is_crossed from to d then codes " -> " ++ decimal (chip_behind from to d) else []

-- the chips on its way, on a cube of n dimensions
unfoldable pub way_chips_text : ℕ → ℕ → ℕ → List ℕ
way_chips_text n from to = decimal from ++ flat_map (step_text from to) (range_with_len 0 n)

-- it has to cross dimension d again, and so was referred there
abbrev pub referral_text : ℕ → ℕ → ℕ → ℕ → List ℕ
referral_text from to rel d = if is_crossed from to d && bit rel d then codes ", referred in " ++ decimal d else []

-- where it was referred, where this is its relative address then
unfoldable pub referrals_text : ℕ → ℕ → ℕ → ℕ → List ℕ
referrals_text n from to rel = flat_map (referral_text from to rel) (range_with_len 0 n)

-- it crossed nothing
abbrev pub stay_text : ℕ → ℕ → List ℕ
stay_text from to = if from == to then codes ", stays" else []

-- the petit cycle, by the counter, and the way
abbrev pub cycle_way_text : ℕ → ℕ → ℕ → ℕ → List ℕ
cycle_way_text n clock from to = codes "cycle " ++ decimal clock ++ codes ": " ++ way_chips_text n from to

-- a message by who sent it and the petit cycle in which it was taken in
abbrev pub tag_text : Tag → List ℕ
tag_text tag = decimal tag.chip ++ codes " " ++ decimal tag.proc ++ codes " " ++ decimal tag.birth

-- why it waits in one step of the petit cycle
abbrev pub wait_text : Wait → List ℕ
wait_text (Cut d) = codes ", waits in " ++ decimal d ++ codes " at a cut wire"
wait_text (Behind d tag) = codes ", waits in " ++ decimal d ++ codes " behind " ++ tag_text tag
wait_text Unfetched = codes ", waits for RECV"
wait_text (Second tag) = codes ", waits for its processor behind " ++ tag_text tag

-- the line of a petit cycle after which the message stands in a router, and in which it waited so
unfoldable pub stand_line : ℕ → ℕ → ℕ → Stand → List Wait → List ℕ
stand_line n clock from stand waits =
    cycle_way_text n clock from stand.chip ++ stay_text from stand.chip
    ++ referrals_text n from stand.chip stand.message.rel
    ++ codes ", place " ++ decimal stand.place ++ codes " of " ++ decimal stand.count
    ++ flat_map wait_text waits ++ 10 ∷ []

-- of the one in which it was delivered
unfoldable pub delivery_line : ℕ → ℕ → ℕ → Place → List ℕ
delivery_line n clock from place =
    cycle_way_text n clock from place.chip ++ codes ", delivered to processor " ++ decimal place.proc ++ 10 ∷ []

-- for whom a message is that stands at chip c
unfoldable pub target_text : ℕ → Message → List ℕ
target_text c m = codes ", for processor " ++ decimal m.proc ++ codes " of chip " ++ decimal (target_from c m).chip

-- the last line of a message that was not delivered
unfoldable pub undelivered_line : Stand → List ℕ
undelivered_line stand = codes "stands at " ++ decimal stand.chip ++ target_text stand.chip stand.message ++ 10 ∷ []
